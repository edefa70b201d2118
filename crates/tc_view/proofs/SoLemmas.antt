-- What a line that is shown says of its request is so.
use Rattle.std.proofs.Common.{ℕ, zero, suc, inl, inr, Bool, true, false, if◌then◌else◌, Option, Some, None, List, [], ◌∷◌, fold, map, take, refl, subst, sym}
use Rattle.std.specs.Prelude.{IfSome}
use Rattle.std.specs.List.{AllByRecursion, cons_option, filter_map}
use Rattle.std.specs.Option.{option_map}
use Rattle.std.proofs.lemmas.List.Elements.{All-from_recursion, recursion_from_All}
use Rattle.std.proofs.lemmas.List.Sorted.{All-permutation}
use Rattle.tc_types.specs.declared.requests.Request.{Request}
use Rattle.tc_types.specs.declared.tables.rows.BegunExecution.{BegunExecution}
use Rattle.tc_proc.specs.Executions.{next_step}
use Rattle.tc_proc.specs.Logs.{state_of}
use Rattle.tc_book.specs.Book.{Book}
use Rattle.tc_urgent.specs.declared.kinds.UrgentKind.{UrgentKind}
use Rattle.tc_urgent.specs.declared.lines.UrgentLine.{UrgentLine}
use Rattle.tc_urgent.specs.Folds.{both, takes_in, with_next}
use Rattle.tc_urgent.specs.Judging.{kind_of}
use Rattle.tc_urgent.specs.Laws.{TellsSo}
use Rattle.tc_urgent.specs.Lines.{execution_line, line_as, lines_of, request_line, request_lines, step_as}
use Rattle.tc_urgent.proofs.LawLemmas.{told_so}
use Rattle.tc_wall.specs.declared.walls.TheConstants.{MOST_LINES}
use Rattle.tc_wall.specs.declared.walls.UrgentRow.{UrgentRow}
use Rattle.tc_wall.specs.declared.walls.Wall.{Wall}
use Rattle.tc_view.specs.Shown.{ShowsBook}
use Rattle.tc_view.specs.Urgents.{SaysSo, row_of}
use Rattle.tc_view.proofs.UniqueLemmas.{both_all}

each_given : {X Y : Type 0} (h : X → Option Y) (P : Y → Type 0) (xs : List X) → ((x : X) → IfSome (h x) P) → AllByRecursion P (filter_map h xs)
each_given h P [] one = tt
each_given {X} {Y} h P (x ∷ xs) one = by (h x) (one x) (each_given h P xs one)
  where
    by : (o : Option Y) → IfSome o P → AllByRecursion P (filter_map h xs) → AllByRecursion P (cons_option o (filter_map h xs))
    by None is others = others
    by (Some y) is others = (is, others)

request_so : (book : Book) (stood : ℕ) (scheduled : List ℕ) (r : Request) → IfSome (request_line book stood scheduled r) (SaysSo book)
request_so book stood scheduled r = by (kind_of book stood scheduled r) (told_so book stood scheduled r)
  where
    by : (kind : Option UrgentKind) → IfSome kind (TellsSo book r) → IfSome (option_map (line_as book r) kind) (SaysSo book)
    by None told = tt
    by (Some k) told = inr (r, refl, told)

execution_so : (book : Book) (x : BegunExecution) → IfSome (execution_line book.log x) (SaysSo book)
execution_so book x = by (next_step (state_of book.log x))
  where
    by : (step : Option ℕ) → IfSome (option_map (step_as x) step) (SaysSo book)
    by None = tt
    by (Some step) = inl refl

lines_so : (book : Book) (stood : ℕ) (scheduled : List ℕ) → AllByRecursion (SaysSo book) (lines_of book stood scheduled)
lines_so book stood scheduled = both_all (SaysSo book) (request_lines book stood scheduled) (filter_map (execution_line book.log) book.log.executions)
    (each_given (request_line book stood scheduled) (SaysSo book) book.requests (request_so book stood scheduled)) (each_given (execution_line book.log) (SaysSo book) book.log.executions (execution_so book))

-- a line that took others in says what it said
both_so : (book : Book) (line next : UrgentLine) → SaysSo book line → SaysSo book (both line next)
both_so book line next so = so

next_so : (book : Book) (done : List UrgentLine) (next : UrgentLine) → AllByRecursion (SaysSo book) done → SaysSo book next → AllByRecursion (SaysSo book) (with_next done next)
next_so book [] next all so = (so, tt)
next_so book (line ∷ []) next all so = by (takes_in line next)
  where
    by : (t : Bool) → AllByRecursion (SaysSo book) (if t then both line next ∷ [] else line ∷ next ∷ [])
    by true = (both_so book line next all.0, tt)
    by false = (all.0, (so, tt))
next_so book (line ∷ second ∷ done) next all so = (all.0, next_so book (second ∷ done) next all.1 so)

fold_so : (book : Book) (done lines : List UrgentLine) → AllByRecursion (SaysSo book) done → AllByRecursion (SaysSo book) lines → AllByRecursion (SaysSo book) (fold with_next done lines)
fold_so book done [] all others = all
fold_so book done (next ∷ lines) all others = fold_so book (with_next done next) lines (next_so book done next all others.0) others.1

first_so : (book : Book) (m : ℕ) (lines : List UrgentLine) → AllByRecursion (SaysSo book) lines → AllByRecursion (λ (row : UrgentRow). SaysSo book row.line) (map (row_of book) (take m lines))
first_so book zero lines all = tt
first_so book (suc m) [] all = tt
first_so book (suc m) (line ∷ lines) all = (all.0, first_so book m lines all.1)

pub shown_so : (book : Book) (stood : ℕ) (scheduled : List ℕ) (wall : Wall) → ShowsBook book stood scheduled wall → AllByRecursion (λ (row : UrgentRow). SaysSo book row.line) wall.urgent.now
shown_so book stood scheduled wall is =
    let lines = is.by_urgency.lines in
    let sorted : AllByRecursion (SaysSo book) lines = recursion_from_All (SaysSo book) lines
    (All-permutation (SaysSo book) (lines_of book stood scheduled) lines is.by_urgency.once (All-from_recursion (SaysSo book) (lines_of book stood scheduled) (lines_so book stood scheduled))) in
    let shown : AllByRecursion (SaysSo book) is.shown = subst (AllByRecursion (SaysSo book)) (sym is.by_urgency.folds) (fold_so book [] lines tt sorted) in
    subst (AllByRecursion (λ (row : UrgentRow). SaysSo book row.line)) (sym is.urgent) (first_so book MOST_LINES is.shown shown)
