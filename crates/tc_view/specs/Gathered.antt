-- What is gathered on the way to a wall.
use Rattle.std.specs.Prelude.{◌≡◌, ℕ, ◌+◌, ◌-◌, ◌<◌, ◌≤◌, Bool, true, false, if◌then◌else◌, Some, List, [], ◌∷◌, length, reverse, take, get_or}
use Rattle.std.specs.List.{AllByRecursion}
use Rattle.tc_types.specs.declared.history.moves.Move.{Move}
use Rattle.tc_types.specs.declared.requests.Request.{Request}
use Rattle.tc_types.specs.History.{rows_of}
use Rattle.tc_book.specs.Book.{Book, place_in}
use Rattle.tc_wall.specs.declared.walls.TheConstants.{MOST_OPEN, MOST_STAGES}
use Rattle.tc_wall.specs.Bounds.{last_of}
use Rattle.tc_view.specs.declared.opens.Open.{Open}
use Rattle.tc_view.specs.declared.trails.Trail.{Trail}

-- these are open: the first of them, and how many there are
pub record IsOpenOf {A : Type 0} (seen : List Request) (found : Open A) : Type 0 where
  pub first : found.first.items ≡ take MOST_OPEN seen
  pub count : found.count ≡ length seen

-- a request has one of so many numbers
pub record IsNumbered (count : ℕ) (r : Request) : Type 0 where
  pub some : 0 < r.number
  pub within : r.number ≤ count

-- these requests are marked, each at its number less 1
abbrev pub AreMarked : List Bool → List Request → Type 0
AreMarked marks requests = AllByRecursion (λ (r : Request). get_or marks (r.number - 1) false ≡ true) requests

-- how many rows are kept of the request at this place, where these are marked
abbrev pub most_kept : List Bool → ℕ → ℕ
most_kept marks place = if get_or marks place false then MOST_STAGES else 0

-- Once these rows were walked, the last first: how many rows of each request were, and of each that is marked the first that were.
pub record IsGathered (marks : List Bool) (walked : List Move) (counts : List ℕ) (kept : List Move) : Type 0 where
  pub counted : (place : ℕ) → place < length counts → get_or counts place 0 ≡ length (rows_of (place + 1) walked)
  pub rows : (place : ℕ) → place < length counts → rows_of (place + 1) kept ≡ take (most_kept marks place) (reverse (rows_of (place + 1) walked))

-- of a request: how many rows it has, and the last of them, in order
pub record HasLast (counts : List ℕ) (kept : List Move) (history : List Move) (r : Request) : Type 0 where
  pub within : r.number - 1 < length counts
  pub counted : get_or counts (r.number - 1) 0 ≡ length (rows_of r.number history)
  pub rows : rows_of r.number kept ≡ last_of MOST_STAGES (rows_of r.number history)

-- the way of a request, as it is held
pub record IsTrailOf {A : Type 0} (book : Book) (r : Request) (trail : Trail A) : Type 0 where
  pub request : trail.request ≡ r
  pub place : place_in book r.number ≡ Some trail.place
  pub moves : trail.moves.items ≡ last_of MOST_STAGES (rows_of r.number book.history)
  pub moved : trail.moved ≡ length (rows_of r.number book.history)

abbrev pub AreTrailsOf : {A : Type 0} → Book → List Request → List (Trail A) → Type 0
AreTrailsOf book [] [] = Unit {0}
AreTrailsOf book [] (trail ∷ trails) = ⊥
AreTrailsOf book (r ∷ rs) [] = ⊥
AreTrailsOf book (r ∷ rs) (trail ∷ trails) = IsTrailOf book r trail × AreTrailsOf book rs trails
