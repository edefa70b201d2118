-- Each request that is open has one line, and so one way.
use Rattle.std.proofs.Common.{◌≡◌, ◌∙◌, ℕ, ◌+◌, Bool, true, false, cond, Option, Some, None, List, [], ◌∷◌, ◌++◌, refl, ap, ap₂, sym, append-nil, zero-add}
use Rattle.std.specs.Prelude.{count_by, is_some, sum_by}
use Rattle.std.specs.List.{AllByRecursion, cons_option, filter, filter_map}
use Rattle.std.specs.Option.{option_and_then, option_map}
use Rattle.std.proofs.lemmas.List.Elements.{filter_map-append}
use Rattle.std.proofs.lemmas.List.Sorted.{sum_by-IsPermutation}
use Rattle.std.proofs.lemmas.List.Sums.{sum_by-cons}
use Rattle.tc_types.specs.declared.history.places.Place.{Place}
use Rattle.tc_types.specs.declared.history.places.Place.TheVariants.{Entered, Approved, Queued, Sent, Confirmed, Riding, Scheduled, Accepted, Started, Completed, Failed, Doubtful, Withdrawn, Deleted, Closed}
use Rattle.tc_types.specs.declared.requests.Request.{Request}
use Rattle.tc_types.specs.declared.tables.rows.BegunExecution.{BegunExecution}
use Rattle.tc_proc.specs.Executions.{next_step}
use Rattle.tc_proc.specs.Logs.{state_of}
use Rattle.tc_book.specs.Book.{Book, place_in, request_at}
use Rattle.tc_book.specs.Good.{IsGoodBook, IsGoodRequest}
use Rattle.tc_urgent.specs.declared.kinds.UrgentKind.{UrgentKind}
use Rattle.tc_urgent.specs.declared.lines.UrgentLine.{UrgentLine}
use Rattle.tc_urgent.specs.Judging.{kind_at, kind_of}
use Rattle.tc_urgent.specs.Lines.{execution_line, line_as, lines_of, request_line, request_lines, step_as}
use Rattle.tc_wall.specs.declared.walls.Wall.{Wall}
use Rattle.tc_view.specs.Shown.{ShowsBook}
use Rattle.tc_view.specs.Ways.{if_open, is_open, is_open_at, open_in, open_of}
use Rattle.tc_view.proofs.UniqueLemmas.{all_found}

-- ---- counts

-- whether what is given passes a test, as a number
passes : {X : Type 0} → (X → Bool) → Option X → ℕ
passes p None = 0
passes p (Some x) = cond (p x) 1 0

counted : {X Y : Type 0} (p : Y → Bool) (h : X → Option Y) (xs : List X) → count_by p (filter_map h xs) ≡ sum_by (λ x. passes p (h x)) xs
unfolding passes
counted p h [] = refl
counted {X} {Y} p h (x ∷ xs) = by (h x) (counted p h xs) ∙ sym (sum_by-cons (λ z. passes p (h z)) x xs)
  where
    by : (o : Option Y) → count_by p (filter_map h xs) ≡ sum_by (λ z. passes p (h z)) xs → count_by p (cons_option o (filter_map h xs)) ≡ passes p o + sum_by (λ z. passes p (h z)) xs
    by None is = is ∙ sym (zero-add (sum_by (λ z. passes p (h z)) xs))
    by (Some y) is = sum_by-cons (λ z. cond (p z) 1 0) y (filter_map h xs) ∙ ap (λ n. cond (p y) 1 0 + n) is

-- ---- the lines by number

-- a request at a place that is not final has a kind
open_kind : (book : Book) (stood : ℕ) (scheduled : List ℕ) (r : Request) (at : Option Place) → is_open_at at ≡ true → is_some (kind_at book stood scheduled r at) ≡ true
open_kind book stood scheduled r None h = h
open_kind book stood scheduled r (Some Entered) h = refl
open_kind book stood scheduled r (Some Approved) h = refl
open_kind book stood scheduled r (Some Queued) h = refl
open_kind book stood scheduled r (Some Sent) h = refl
open_kind book stood scheduled r (Some Confirmed) h = refl
open_kind book stood scheduled r (Some Riding) h = refl
open_kind book stood scheduled r (Some Scheduled) h = refl
open_kind book stood scheduled r (Some Accepted) h = refl
open_kind book stood scheduled r (Some Started) h = refl
open_kind book stood scheduled r (Some Completed) h = h
open_kind book stood scheduled r (Some Failed) h = absurd (let wrong : false ≡ true = h in cc)
open_kind book stood scheduled r (Some Doubtful) h = refl
open_kind book stood scheduled r (Some Withdrawn) h = h
open_kind book stood scheduled r (Some Deleted) h = h
open_kind book stood scheduled r (Some Closed) h = h

one_request : (book : Book) (stood : ℕ) (scheduled : List ℕ) (r : Request) (lines : List UrgentLine) (rs : List Request) → request_at book r.number ≡ Some r → filter_map (open_in book) lines ≡ filter (is_open book) rs
    → filter_map (open_in book) (cons_option (request_line book stood scheduled r) lines) ≡ filter (is_open book) (r ∷ rs)
one_request book stood scheduled r lines rs there rest = by (kind_of book stood scheduled r) (is_open book r) refl (open_kind book stood scheduled r (place_in book r.number))
  where
    by_test : (t : Bool) → is_open book r ≡ t → option_and_then (if_open book) (request_at book r.number) ≡ cond t (Some r) None
    by_test t is = ap (option_and_then (if_open book)) there ∙ ap (λ b. cond b (Some r) None) is

    by_open : (k : UrgentKind) (t : Bool) → is_open book r ≡ t → cons_option (open_in book (line_as book r k)) (filter_map (open_in book) lines) ≡ cond t (r ∷ filter (is_open book) rs) (filter (is_open book) rs)
    by_open k true is = ap₂ (λ o l. cons_option o l) (by_test true is) rest
    by_open k false is = ap₂ (λ o l. cons_option o l) (by_test false is) rest

    by : (kind : Option UrgentKind) (t : Bool) → is_open book r ≡ t → (is_open book r ≡ true → is_some kind ≡ true)
        → filter_map (open_in book) (cons_option (option_map (line_as book r) kind) lines) ≡ cond t (r ∷ filter (is_open book) rs) (filter (is_open book) rs)
    by None true is has = absurd (let wrong : false ≡ true = has is in cc)
    by None false is has = rest
    by (Some k) t is has = by_open k t is

all_requests : (book : Book) (stood : ℕ) (scheduled : List ℕ) (rs : List Request) → AllByRecursion (λ (r : Request). request_at book r.number ≡ Some r) rs
    → filter_map (open_in book) (filter_map (request_line book stood scheduled) rs) ≡ filter (is_open book) rs
all_requests book stood scheduled [] all = refl
all_requests book stood scheduled (r ∷ rs) all =
    one_request book stood scheduled r (filter_map (request_line book stood scheduled) rs) rs all.0 (all_requests book stood scheduled rs all.1)

no_executions : (book : Book) (xs : List BegunExecution) → filter_map (open_in book) (filter_map (execution_line book.log) xs) ≡ []
no_executions book [] = refl
no_executions book (x ∷ xs) = by (next_step (state_of book.log x)) (no_executions book xs)
  where
    by : (step : Option ℕ) → filter_map (open_in book) (filter_map (execution_line book.log) xs) ≡ [] → filter_map (open_in book) (cons_option (option_map (step_as x) step) (filter_map (execution_line book.log) xs)) ≡ []
    by None rest = rest
    by (Some step) rest = rest

-- the requests of all lines that are open are the requests that are open
open_lines : (book : Book) (stood : ℕ) (scheduled : List ℕ) → IsGoodBook book → open_of book (lines_of book stood scheduled) ≡ filter (is_open book) book.requests
open_lines book stood scheduled good =
    filter_map-append (open_in book) (request_lines book stood scheduled) (filter_map (execution_line book.log) book.log.executions)
    ∙ ap₂ (λ k l. k ++ l) (all_requests book stood scheduled book.requests (all_found IsGoodRequest (λ (r : Request). r.number) (λ before r is. is.number) [] book.requests good.requests))
    (no_executions book book.log.executions)
    ∙ append-nil (filter (is_open book) book.requests)

pub each_once : (book : Book) (stood : ℕ) (scheduled : List ℕ) (wall : Wall) (is : ShowsBook book stood scheduled wall) → IsGoodBook book → (p : Request → Bool)
    → count_by p (open_of book is.by_urgency.lines) ≡ count_by p (filter (is_open book) book.requests)
each_once book stood scheduled wall is good p =
    let lines = is.by_urgency.lines in
    let all = lines_of book stood scheduled in
    counted p (open_in book) lines ∙ sum_by-IsPermutation (λ line. passes p (open_in book line)) all lines is.by_urgency.once ∙ sym (counted p (open_in book) all)
    ∙ ap (count_by p) (open_lines book stood scheduled good)
