-- What is left out is not more urgent than what is shown.
use Rattle.std.proofs.Common.{ℕ, zero, suc, ◌≤◌, List, [], ◌∷◌, drop, map, take, subst, sym}
use Rattle.std.specs.List.{AllByRecursion}
use Rattle.tc_book.specs.Book.{Book}
use Rattle.tc_urgent.specs.declared.lines.UrgentLine.{UrgentLine}
use Rattle.tc_urgent.specs.Kinds.{urgency}
use Rattle.tc_urgent.specs.Laws.{NoneMoreUrgent}
use Rattle.tc_urgent.proofs.RankLemmas.{folded_later, none_later}
use Rattle.tc_wall.specs.declared.walls.TheConstants.{MOST_LINES}
use Rattle.tc_wall.specs.declared.walls.UrgentRow.{UrgentRow}
use Rattle.tc_wall.specs.declared.walls.Wall.{Wall}
use Rattle.tc_view.specs.Shown.{ShowsBook}
use Rattle.tc_view.specs.Urgents.{row_of}

all_dropped : {X : Type 0} (P : X → Type 0) (m : ℕ) (xs : List X) → AllByRecursion P xs → AllByRecursion P (drop m xs)
all_dropped P zero xs all = all
all_dropped P (suc m) [] all = tt
all_dropped P (suc m) (x ∷ xs) all = all_dropped P m xs all.1

left_later : (book : Book) (m : ℕ) (lines : List UrgentLine) → NoneMoreUrgent lines
    → AllByRecursion (λ (row : UrgentRow). AllByRecursion (λ (left : UrgentLine). urgency row.line.kind ≤ urgency left.kind) (drop m lines)) (map (row_of book) (take m lines))
left_later book zero lines none = tt
left_later book (suc m) [] none = tt
left_later book (suc m) (line ∷ lines) none = (all_dropped (λ (left : UrgentLine). urgency line.kind ≤ urgency left.kind) m lines none.0, left_later book m lines none.1)

pub left_out : (book : Book) (stood : ℕ) (scheduled : List ℕ) (wall : Wall) (is : ShowsBook book stood scheduled wall)
    → AllByRecursion (λ (row : UrgentRow). AllByRecursion (λ (left : UrgentLine). urgency row.line.kind ≤ urgency left.kind) (drop MOST_LINES is.shown)) wall.urgent.now
left_out book stood scheduled wall is =
    let none : NoneMoreUrgent is.shown = subst NoneMoreUrgent (sym is.by_urgency.folds) (folded_later is.by_urgency.lines (none_later is.by_urgency.lines is.by_urgency.sorted)) in
    subst (AllByRecursion (λ (row : UrgentRow). AllByRecursion (λ (left : UrgentLine). urgency row.line.kind ≤ urgency left.kind) (drop MOST_LINES is.shown))) (sym is.urgent)
    (left_later book MOST_LINES is.shown none)
