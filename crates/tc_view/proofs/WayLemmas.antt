-- The ways of requests, one after the other.
use Rattle.std.proofs.Common.{◌≡◌, List, [], ◌∷◌, ◌++◌, refl, ap}
use Rattle.tc_types.specs.declared.requests.Request.{Request}
use Rattle.tc_book.specs.Book.{Book}
use Rattle.tc_wall.specs.declared.walls.Way.{Way}
use Rattle.tc_view.specs.declared.trails.Trail.{Trail}
use Rattle.tc_view.specs.Gathered.{AreTrailsOf, IsTrailOf}
use Rattle.tc_view.specs.Ways.{AreWaysOf, IsWayOf}

pub trails_more : {A : Type 0} (book : Book) (rs : List Request) (trails : List (Trail A)) (r : Request) (trail : Trail A) → AreTrailsOf book rs trails → IsTrailOf book r trail
    → AreTrailsOf book (rs ++ r ∷ []) (trails ++ trail ∷ [])
trails_more book [] [] r trail before one = (one, tt)
trails_more book [] (t ∷ ts) r trail before one = absurd before
trails_more book (q ∷ qs) [] r trail before one = absurd before
trails_more book (q ∷ qs) (t ∷ ts) r trail before one = (before.0, trails_more book qs ts r trail before.1 one)

pub ways_more : (book : Book) (rs : List Request) (ways : List Way) (r : Request) (way : Way) → AreWaysOf book rs ways → IsWayOf book r way → AreWaysOf book (rs ++ r ∷ []) (ways ++ way ∷ [])
ways_more book [] [] r way before one = (one, tt)
ways_more book [] (w ∷ ws) r way before one = absurd before
ways_more book (q ∷ qs) [] r way before one = absurd before
ways_more book (q ∷ qs) (w ∷ ws) r way before one = (before.0, ways_more book qs ws r way before.1 one)

-- of those that end with one, the requests end with its
pub record Ends {A : Type 0} (book : Book) (rs : List Request) (trails : List (Trail A)) (trail : Trail A) : Type 0 where
  pub front : List Request
  pub last : Request
  pub are : rs ≡ front ++ last ∷ []
  pub before : AreTrailsOf book front trails
  pub one : IsTrailOf book last trail

pub trails_end : {A : Type 0} (book : Book) (rs : List Request) (trails : List (Trail A)) (trail : Trail A) → AreTrailsOf book rs (trails ++ trail ∷ []) → Ends book rs trails trail
trails_end book [] [] trail are = absurd are
trails_end book [] (t ∷ ts) trail are = absurd are
trails_end book (r ∷ []) [] trail are = record { front = []; last = r; are = refl; before = tt; one = are.0 }
trails_end book (r ∷ q ∷ qs) [] trail are = absurd are.1
trails_end book (r ∷ rs) (t ∷ ts) trail are =
    let ends = trails_end book rs ts trail are.1 in
    record { front = r ∷ ends.front; last = ends.last; are = ap (λ l. r ∷ l) ends.are; before = (are.0, ends.before); one = ends.one }

pub none_are : (A : Type 0) (book : Book) (rs : List Request) → AreTrailsOf {A = A} book rs [] → AreWaysOf book rs []
none_are A book [] are = tt
none_are A book (r ∷ rs) are = absurd are
