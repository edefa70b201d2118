-- Two walls that show the same have one page, wherever what they show lies.
use Rattle.std.proofs.Common.{◌≡◌, ◌∙◌, ℕ, zero, suc, Option, Some, List, [], ◌∷◌, ◌++◌, codes, drop, length, map, take, refl, ap, subst, sym}
use Rattle.std.specs.List.{flat_map, fold}
use Rattle.tc_types.specs.declared.requests.Request.{Request}
use Rattle.tc_book.specs.Book.{Book}
use Rattle.tc_book.specs.Good.{IsGoodBook}
use Rattle.tc_urgent.specs.declared.kinds.UrgentKind.TheVariants.{FailedSince}
use Rattle.tc_urgent.specs.Folds.{folded}
use Rattle.tc_urgent.specs.Kinds.{urgency}
use Rattle.tc_wall.specs.declared.walls.Wall.{Wall}
use Rattle.tc_wall.specs.declared.walls.Way.{Way}
use Rattle.tc_wall.specs.declared.walls.TheConstants.{MOST_LINES, MOST_OPEN, MOST_STAGES}
use Rattle.tc_wall.specs.Axis.{axis_of, drawn, lines_of, marks_of, moment_of, moments_of, with_moment}
use Rattle.tc_wall.specs.Bounds.{last_of}
use Rattle.tc_wall.specs.Heading.{heading_parts}
use Rattle.tc_wall.specs.MoveParts.{moves_parts}
use Rattle.tc_wall.specs.Page.{wall_page, head_parts, live_parts, page, size_word}
use Rattle.tc_wall.specs.Tiles.{tiles_parts}
use Rattle.tc_wall.specs.Parts.{Part, fixed, shown_all}
use Rattle.tc_wall.specs.Urgents.{urgents_parts}
use Rattle.tc_wall.specs.WayParts.{axis_parts, request_parts, table_parts, way_parts, ways_parts}
use Rattle.tc_view.specs.Shown.{IsFilePage, ShowsBook}
use Rattle.tc_view.specs.Urgents.{count_of, counts_of, row_of, scheduled_in}
use Rattle.tc_view.specs.Ways.{AreWaysOf, IsWayOf, open_of}
use Rattle.tc_view.proofs.UniqueLemmas.{lines_unique}

-- ---- ways

ways_taken : (book : Book) (m : ℕ) (rs : List Request) (xs : List Way) → AreWaysOf book rs xs → AreWaysOf book (take m rs) (take m xs)
ways_taken book zero rs xs are = tt
ways_taken book (suc m) [] [] are = tt
ways_taken book (suc m) [] (x ∷ xs) are = absurd are
ways_taken book (suc m) (r ∷ rs) [] are = absurd are
ways_taken book (suc m) (r ∷ rs) (x ∷ xs) are = (are.0, ways_taken book m rs xs are.1)

drawn_one : (book : Book) (rs : List Request) (xs ys : List Way) → AreWaysOf book rs xs → AreWaysOf book rs ys → flat_map drawn xs ≡ flat_map drawn ys
drawn_one book [] [] [] one two = refl
drawn_one book [] [] (y ∷ ys) one two = absurd two
drawn_one book [] (x ∷ xs) ys one two = absurd one
drawn_one book (r ∷ rs) [] ys one two = absurd one
drawn_one book (r ∷ rs) (x ∷ xs) [] one two = absurd two
drawn_one book (r ∷ rs) (x ∷ xs) (y ∷ ys) one two =
    ap (λ l. last_of MOST_STAGES l ++ flat_map drawn xs) (one.0.moves ∙ sym two.0.moves) ∙ ap (λ l. drawn y ++ l) (drawn_one book rs xs ys one.1 two.1)

some_same : {X : Type 0} (x y : X) (o : Option X) → o ≡ Some x → o ≡ Some y → x ≡ y
some_same x y o one two = let e : Some x ≡ Some y = sym one ∙ two in cc

way_one : (book : Book) (r : Request) (ways : List Way) (x y : Way) → IsWayOf book r x → IsWayOf book r y → way_parts (axis_of ways) x ≡ way_parts (axis_of ways) y
unfolding way_parts request_parts
way_one book r ways x y one two =
    let request : x.request ≡ y.request = one.request ∙ sym two.request in
    let place : x.place ≡ y.place = some_same x.place y.place _ one.place two.place in
    let moves : x.moves.now ≡ y.moves.now = one.moves ∙ sym two.moves in
    let moved : x.moved ≡ y.moved = one.moved ∙ sym two.moved in
    rw (request, place, moves, moved) refl

rows_one : (book : Book) (ways : List Way) (rs : List Request) (xs ys : List Way) → AreWaysOf book rs xs → AreWaysOf book rs ys → flat_map (way_parts (axis_of ways)) xs ≡ flat_map (way_parts (axis_of ways)) ys
rows_one book ways [] [] [] one two = refl
rows_one book ways [] [] (y ∷ ys) one two = absurd two
rows_one book ways [] (x ∷ xs) ys one two = absurd one
rows_one book ways (r ∷ rs) [] ys one two = absurd one
rows_one book ways (r ∷ rs) (x ∷ xs) [] one two = absurd two
rows_one book ways (r ∷ rs) (x ∷ xs) (y ∷ ys) one two =
    ap (λ l. l ++ flat_map (way_parts (axis_of ways)) xs) (way_one book r ways x y one.0 two.0) ∙ ap (λ l. way_parts (axis_of ways) y ++ l) (rows_one book ways rs xs ys one.1 two.1)

axis_one : (book : Book) (rs : List Request) (xs ys : List Way) → AreWaysOf book rs xs → AreWaysOf book rs ys → axis_of xs ≡ axis_of ys
unfolding axis_of moments_of
axis_one book rs xs ys one two = ap (λ l. marks_of (fold with_moment [] (map moment_of l))) (drawn_one book rs xs ys one two)

table_one : (book : Book) (rs : List Request) (xs ys : List Way) → AreWaysOf book rs xs → AreWaysOf book rs ys → table_parts xs ≡ table_parts ys
unfolding table_parts
table_one book [] [] [] one two = refl
table_one book [] [] (y ∷ ys) one two = absurd two
table_one book [] (x ∷ xs) ys one two = absurd one
table_one book (r ∷ rs) [] ys one two = absurd one
table_one book (r ∷ rs) (x ∷ xs) [] one two = absurd two
table_one book (r ∷ rs) (x ∷ xs) (y ∷ ys) one two =
    ap (λ axis. axis_parts (lines_of axis) ++ flat_map (way_parts axis) (x ∷ xs) ++ fixed (codes "</tbody>\n</table>\n")) (axis_one book (r ∷ rs) (x ∷ xs) (y ∷ ys) one two)
    ∙ ap (λ l. axis_parts (lines_of (axis_of (y ∷ ys))) ++ l ++ fixed (codes "</tbody>\n</table>\n")) (rows_one book (y ∷ ys) (r ∷ rs) (x ∷ xs) (y ∷ ys) one two)

-- ---- the parts of a page

-- two walls that show a book, of which the same lines are open
record AreAlike (book : Book) (stood : ℕ) (scheduled : List ℕ) (a b : Wall) : Type 0 where
  pub one : ShowsBook book stood scheduled a
  pub two : ShowsBook book stood scheduled b
  pub lines : one.by_urgency.lines ≡ two.by_urgency.lines
  pub opening : a.opening ≡ b.opening
  pub live : a.live ≡ b.live

shown_one : (book : Book) (stood : ℕ) (scheduled : List ℕ) (a b : Wall) (is : AreAlike book stood scheduled a b) → is.one.shown ≡ is.two.shown
shown_one book stood scheduled a b is = is.one.by_urgency.folds ∙ ap folded is.lines ∙ sym is.two.by_urgency.folds

ways_one : (book : Book) (stood : ℕ) (scheduled : List ℕ) (a b : Wall) → AreAlike book stood scheduled a b → ways_parts a ≡ ways_parts b
unfolding ways_parts
ways_one book stood scheduled a b is =
    let rs = open_of book is.one.by_urgency.lines in
    let opened : a.opened ≡ b.opened = is.one.opened ∙ ap (λ l. length (open_of book l)) is.lines ∙ sym is.two.opened in
    let second : AreWaysOf book (take MOST_OPEN rs) b.ways.now = subst (λ l. AreWaysOf book (take MOST_OPEN (open_of book l)) b.ways.now) (sym is.lines) is.two.ways in
    let shown = table_one book (take MOST_OPEN (take MOST_OPEN rs)) (take MOST_OPEN a.ways.now) (take MOST_OPEN b.ways.now) (ways_taken book MOST_OPEN _ a.ways.now is.one.ways) (ways_taken book MOST_OPEN _ b.ways.now second) in
    rw (opened, shown) refl

lines_one : (book : Book) (stood : ℕ) (scheduled : List ℕ) (a b : Wall) → AreAlike book stood scheduled a b → a.lines ≡ b.lines
lines_one book stood scheduled a b is = is.one.lines ∙ ap length (shown_one book stood scheduled a b is) ∙ sym is.two.lines

head_one : (book : Book) (stood : ℕ) (scheduled : List ℕ) (a b : Wall) → AreAlike book stood scheduled a b → head_parts a ≡ head_parts b
unfolding head_parts size_word
head_one book stood scheduled a b is =
    let opened : a.opened ≡ b.opened = is.one.opened ∙ ap (λ l. length (open_of book l)) is.lines ∙ sym is.two.opened in
    let lines : a.lines ≡ b.lines = lines_one book stood scheduled a b is in
    let live : a.live ≡ b.live = is.live in
    rw (opened, lines, live) refl

heading_one : (book : Book) (stood : ℕ) (scheduled : List ℕ) (a b : Wall) → AreAlike book stood scheduled a b → heading_parts a ≡ heading_parts b
unfolding heading_parts
heading_one book stood scheduled a b is =
    let entered : a.entered ≡ b.entered = is.one.entered ∙ sym is.two.entered in
    let moves : a.moves.now ≡ b.moves.now = is.one.moves ∙ sym is.two.moves in
    let opening : a.opening ≡ b.opening = is.opening in
    rw (entered, moves, opening) refl

tiles_one : (book : Book) (stood : ℕ) (scheduled : List ℕ) (a b : Wall) → AreAlike book stood scheduled a b → tiles_parts a.counts.now a.failed ≡ tiles_parts b.counts.now b.failed
tiles_one book stood scheduled a b is =
    let failed : a.failed ≡ b.failed = is.one.failed ∙ ap (λ l. count_of l (urgency FailedSince)) (shown_one book stood scheduled a b is) ∙ sym is.two.failed in
    ap (λ c. tiles_parts c a.failed) (is.one.counts ∙ sym is.two.counts) ∙ ap (tiles_parts b.counts.now) failed

urgents_one : (book : Book) (stood : ℕ) (scheduled : List ℕ) (a b : Wall) → AreAlike book stood scheduled a b → urgents_parts a ≡ urgents_parts b
unfolding urgents_parts
urgents_one book stood scheduled a b is =
    let same = shown_one book stood scheduled a b is in
    let urgent : a.urgent.now ≡ b.urgent.now = is.one.urgent ∙ ap (λ l. map (row_of book) (take MOST_LINES l)) same ∙ sym is.two.urgent in
    let lines : a.lines ≡ b.lines = lines_one book stood scheduled a b is in
    let left : a.left.now ≡ b.left.now = is.one.left ∙ ap (λ l. counts_of (drop MOST_LINES l)) same ∙ sym is.two.left in
    rw (urgent, lines, left) refl

moves_one : (book : Book) (stood : ℕ) (scheduled : List ℕ) (a b : Wall) → AreAlike book stood scheduled a b → moves_parts a ≡ moves_parts b
unfolding moves_parts
moves_one book stood scheduled a b is =
    let moves : a.moves.now ≡ b.moves.now = is.one.moves ∙ sym is.two.moves in
    let moved : a.moved ≡ b.moved = is.one.moved ∙ sym is.two.moved in
    rw (moves, moved) refl

abbrev Parts : Type 0
Parts = List Part

abbrev joined : Parts → Parts → Parts → Parts → Parts → Parts → Parts → Parts → Parts
joined foot head heading tiles waits live ways moves = head ++ heading ++ tiles ++ waits ++ live ++ ways ++ moves ++ foot

joined_one : (foot a b c d e f g a' b' c' d' e' f' g' : Parts) → a ≡ a' → b ≡ b' → c ≡ c' → d ≡ d' → e ≡ e' → f ≡ f' → g ≡ g' → joined foot a b c d e f g ≡ joined foot a' b' c' d' e' f' g'
joined_one foot a b c d e f g a' b' c' d' e' f' g' p q r s t u v =
    ap (λ x. joined foot x b c d e f g) p ∙ ap (λ x. joined foot a' x c d e f g) q ∙ ap (λ x. joined foot a' b' x d e f g) r ∙ ap (λ x. joined foot a' b' c' x e f g) s
    ∙ ap (λ x. joined foot a' b' c' d' x f g) t ∙ ap (λ x. joined foot a' b' c' d' e' x g) u ∙ ap (λ x. joined foot a' b' c' d' e' f' x) v

page_one : (book : Book) (stood : ℕ) (scheduled : List ℕ) (a b : Wall) → AreAlike book stood scheduled a b → wall_page a ≡ wall_page b
unfolding wall_page page
page_one book stood scheduled a b is = ap shown_all (joined_one _ _ _ _ _ _ _ _ _ _ _ _ _ _ _ (head_one book stood scheduled a b is) (heading_one book stood scheduled a b is) (tiles_one book stood scheduled a b is) (urgents_one book stood scheduled a b is)
    (ap live_parts is.live) (ways_one book stood scheduled a b is) (moves_one book stood scheduled a b is))

pub file_one : (book : Book) (one two : List ℕ) → IsGoodBook book → IsFilePage book one → IsFilePage book two → one ≡ two
file_one book one two good first second =
    first.bytes
    ∙ page_one book (length book.history) (scheduled_in book) first.wall second.wall (record {
      one = first.shows.shown;
      two = second.shows.shown;
      lines = lines_unique book (length book.history) (scheduled_in book) _ _ good first.shows.shown.by_urgency second.shows.shown.by_urgency;
      opening = first.shows.opened ∙ sym second.shows.opened;
      live = first.shows.live ∙ sym second.shows.live;
    })
    ∙ sym second.bytes
