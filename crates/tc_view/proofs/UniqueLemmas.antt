-- The lines of a good book have one order by urgency.
use Rattle.std.proofs.Common.{◌≡◌, ◌∙◌, ℕ, suc, ◌+◌, ◌-◌, ◌<◌, ◌≤◌, ◌==◌, ◌&&◌, ◌⊎◌, inl, inr, Bool, true, false, cond, if◌then◌else◌, Option, Some, None, List, [], ◌∷◌, ◌++◌, length, get_or, refl, ap, ap₂, sym, subst, arith, append_assoc}
use Rattle.std.specs.Prelude.{IfSome, IsPermutation, nat_lt, sum_by}
use Rattle.std.specs.List.{AllByRecursion, cons_option, filter_map, slice_get}
use Rattle.std.specs.Option.{option_and_then, option_map}
use Rattle.std.specs.Ordering.{is_lt, nat_cmp, ordering_then}
use Rattle.std.proofs.lemmas.Bool.{cases_lt}
use Rattle.std.proofs.lemmas.Bool.Decides.{nat_tests}
use Rattle.std.proofs.lemmas.List.Elements.{All-from_recursion, recursion_from_All}
use Rattle.std.proofs.lemmas.List.Sorted.{All-permutation, sum_by-IsPermutation}
use Rattle.std.proofs.lemmas.List.Sums.{sum_by-cons}
use Rattle.tc_types.specs.declared.history.places.Place.{Place}
use Rattle.tc_types.specs.declared.history.places.Place.TheVariants.{Entered, Approved, Queued, Sent, Confirmed, Riding, Scheduled, Accepted, Started, Completed, Failed, Doubtful, Withdrawn, Deleted, Closed}
use Rattle.tc_types.specs.declared.requests.Request.{Request}
use Rattle.tc_types.specs.declared.tables.rows.BegunExecution.{BegunExecution}
use Rattle.tc_types.specs.History.{AllAfter}
use Rattle.tc_proc.specs.Executions.{next_step}
use Rattle.tc_proc.specs.GoodLogs.{IsNumbered}
use Rattle.tc_proc.specs.Logs.{execution_at, state_of}
use Rattle.tc_book.specs.Book.{Book, place_in, request_at}
use Rattle.tc_book.specs.Good.{IsGoodBook, IsGoodRequest}
use Rattle.tc_book.specs.Waiting.{is_locked}
use Rattle.tc_urgent.specs.declared.kinds.UrgentKind.{UrgentKind}
use Rattle.tc_urgent.specs.declared.kinds.UrgentKind.TheVariants.{FailedSince, Flying, Free, Locked, LockedForever, LostReport}
use Rattle.tc_urgent.specs.declared.lines.UrgentLine.{UrgentLine}
use Rattle.tc_urgent.specs.Judging.{insert_of, is_locked_forever, is_scheduled, kind_at, kind_of, kind_unlocked, since}
use Rattle.tc_urgent.specs.Kinds.{urgency}
use Rattle.tc_urgent.specs.Laws.{AreByUrgency}
use Rattle.tc_urgent.specs.Lines.{execution_line, line_as, lines_of, request_line, request_lines, step_as}
use Rattle.tc_urgent.specs.Pages.{AreUrgent}

-- ---- lines that rise

-- a rank and a number come no later than others
NoLater : ℕ → ℕ → ℕ → ℕ → Type 0
NoLater a c b d = (a < b) ⊎ ((a ≡ b) × (c ≤ d))

no_later : (a b c d : ℕ) → is_lt (ordering_then (nat_cmp b a) (nat_cmp d c)) ≡ false → NoLater a c b d
unfolding NoLater
no_later a b c d up = by_first (cases_lt a b) (cases_lt b a)
  where
    by_second : (a ≡ b) → (d < c) ⊎ (c ≤ d) → (a < b) ⊎ ((a ≡ b) × (c ≤ d))
    by_second same (inr le) = inr (same, le)
    by_second same (inl less) =
        let low : nat_lt b a ≡ false = grind (arith, nat_tests, same) in
        let one : (b == a) ≡ true = grind (arith, nat_tests, same) in
        let is : nat_lt d c ≡ true = grind (arith, nat_tests, less) in
        let wrong : true ≡ false = rw (low, one, is) at up in
        absurd cc

    by_first : (a < b) ⊎ (b ≤ a) → (b < a) ⊎ (a ≤ b) → (a < b) ⊎ ((a ≡ b) × (c ≤ d))
    by_first (inl less) other = inl less
    by_first (inr le) (inr ge) = by_second (omega (arith, le, ge)) (cases_lt d c)
    by_first (inr le) (inl more) =
        let is : nat_lt b a ≡ true = grind (arith, nat_tests, more) in
        let wrong : true ≡ false = rw is at up in
        absurd cc

-- a line comes no later than another
IsBefore : UrgentLine → UrgentLine → Type 0
IsBefore x y = NoLater (urgency x.kind) x.number (urgency y.kind) y.number

before_trans : (x y z : UrgentLine) → IsBefore x y → IsBefore y z → IsBefore x z
unfolding IsBefore NoLater
before_trans x y z (inl less) (inl more) = inl (omega (arith, less, more))
before_trans x y z (inl less) (inr more) = inl (omega (arith, less, more.0))
before_trans x y z (inr less) (inl more) = inl (omega (arith, less.0, more))
before_trans x y z (inr less) (inr more) = inr (less.0 ∙ more.0, omega (arith, less.1, more.1))

abbrev Rising : List UrgentLine → Type 0
Rising [] = Unit {0}
Rising (x ∷ xs) = AllByRecursion (IsBefore x) xs × Rising xs

Adjacent : List UrgentLine → Type 0
Adjacent xs = (k : ℕ) (d : UrgentLine) → k + 1 < length xs → IsBefore (get_or xs k d) (get_or xs (k + 1) d)

all_before : (x y : UrgentLine) (ys : List UrgentLine) → IsBefore x y → AllByRecursion (IsBefore y) ys → AllByRecursion (IsBefore x) ys
all_before x y [] first all = tt
all_before x y (z ∷ ys) first all = (before_trans x y z first all.0, all_before x y ys first all.1)

rising : (xs : List UrgentLine) → Adjacent xs → Rising xs
unfolding Adjacent
rising [] near = tt
rising (x ∷ []) near = (tt, tt)
rising (x ∷ y ∷ ys) near =
    let tail = rising (y ∷ ys) (λ k d low.
    let next : suc (k + 1) ≡ suc k + 1 = omega arith in
    subst (λ n. IsBefore (get_or (x ∷ y ∷ ys) (suc k) d) (get_or (x ∷ y ∷ ys) n d)) (sym next) (near (suc k) d (omega (arith, low)))) in
    let first : IsBefore x y = near 0 x (omega arith) in
    ((first, all_before x y ys first tail.0), tail)

lines_rise : (xs : List UrgentLine) → AreByUrgency xs → Rising xs
lines_rise xs up = rising xs (unfold Adjacent IsBefore in λ k d low. no_later (urgency (get_or xs k d).kind) (urgency (get_or xs (k + 1) d).kind) (get_or xs k d).number (get_or xs (k + 1) d).number (up k d (omega arith) low))

-- ---- how many have a key

has : ℕ → ℕ → UrgentLine → Bool
has u n x = urgency x.kind == u && x.number == n

tells : ℕ → ℕ → UrgentLine → ℕ
tells u n x = cond (has u n x) 1 0

count : ℕ → ℕ → List UrgentLine → ℕ
count u n xs = sum_by (tells u n) xs

count-cons : (u n : ℕ) (x : UrgentLine) (xs : List UrgentLine) → count u n (x ∷ xs) ≡ tells u n x + count u n xs
unfolding count
count-cons u n x xs = sum_by-cons (tells u n) x xs

tells_itself : (x : UrgentLine) → tells (urgency x.kind) x.number x ≡ 1
unfolding tells has
tells_itself x =
    let first : (urgency x.kind == urgency x.kind) ≡ true = grind (arith, nat_tests) in
    let second : (x.number == x.number) ≡ true = grind (arith, nat_tests) in
    rw (first, second) refl

-- a line has a key, or one of those after it has: what comes before all of them comes no later
by_key : (y x : UrgentLine) (xs : List UrgentLine) (u n : ℕ) → IsBefore y x → 0 < count u n (x ∷ xs) → (0 < count u n xs → NoLater (urgency y.kind) y.number u n) → NoLater (urgency y.kind) y.number u n
unfolding IsBefore tells has
by_key y x xs u n first some rest = by_first (urgency x.kind == u) refl (x.number == n) refl
  where
    later : tells u n x ≡ 0 → NoLater (urgency y.kind) y.number u n
    later none = rest (omega (arith, some, count-cons u n x xs, none))

    by_first : (s : Bool) → (urgency x.kind == u) ≡ s → (t : Bool) → (x.number == n) ≡ t → NoLater (urgency y.kind) y.number u n
    by_first true one true two =
        let rank : urgency x.kind ≡ u = grind (arith, nat_tests, one) in
        let number : x.number ≡ n = grind (arith, nat_tests, two) in
        subst (λ m. NoLater (urgency y.kind) y.number u m) number (subst (λ v. NoLater (urgency y.kind) y.number v x.number) rank first)
    by_first true one false two = later (rw (one, two) refl)
    by_first false one t two = later (rw one refl)

key_before : (y : UrgentLine) (xs : List UrgentLine) (u n : ℕ) → AllByRecursion (IsBefore y) xs → 0 < count u n xs → NoLater (urgency y.kind) y.number u n
unfolding count
key_before y [] u n all some = absurd (omega (arith, some))
key_before y (x ∷ xs) u n all some = by_key y x xs u n all.0 some (λ more. key_before y xs u n all.1 more)

itself_before : (y : UrgentLine) → IsBefore y y
unfolding IsBefore NoLater
itself_before y = inr (refl, omega arith)

-- ---- one list

-- a line is the one that has its key
abbrev Told : (ℕ → ℕ → Option UrgentLine) → UrgentLine → Type 0
Told found x = found (urgency x.kind) x.number ≡ Some x

same_key : (x y : UrgentLine) → NoLater (urgency x.kind) x.number (urgency y.kind) y.number → NoLater (urgency y.kind) y.number (urgency x.kind) x.number → (urgency x.kind ≡ urgency y.kind) × (x.number ≡ y.number)
unfolding NoLater
same_key x y (inl less) (inl more) = absurd (omega (arith, less, more))
same_key x y (inl less) (inr more) = absurd (omega (arith, less, more.0))
same_key x y (inr less) (inl more) = absurd (omega (arith, less.0, more))
same_key x y (inr less) (inr more) = (less.0, omega (arith, less.1, more.1))

some_one : (x y : UrgentLine) (o : Option UrgentLine) → o ≡ Some x → o ≡ Some y → x ≡ y
some_one x y o one two = let e : Some x ≡ Some y = sym one ∙ two in cc

one_line : (found : ℕ → ℕ → Option UrgentLine) (x y : UrgentLine) → Told found x → Told found y → (urgency x.kind ≡ urgency y.kind) × (x.number ≡ y.number) → x ≡ y
one_line found x y one two (rank, number) = some_one x y _ one (ap₂ found rank number ∙ two)

one_list : (found : ℕ → ℕ → Option UrgentLine) (xs ys : List UrgentLine) → Rising xs → Rising ys → AllByRecursion (Told found) xs → AllByRecursion (Told found) ys
    → ((u n : ℕ) → count u n xs ≡ count u n ys) → xs ≡ ys
one_list found [] [] a b p q same = refl
one_list found [] (y ∷ ys) a b p q same =
    absurd (unfold count in omega (arith, same (urgency y.kind) y.number, count-cons (urgency y.kind) y.number y ys, tells_itself y))
one_list found (x ∷ xs) [] a b p q same =
    absurd (unfold count in omega (arith, same (urgency x.kind) x.number, count-cons (urgency x.kind) x.number x xs, tells_itself x))
one_list found (x ∷ xs) (y ∷ ys) a b p q same =
    let some_x : 0 < count (urgency x.kind) x.number (y ∷ ys) = omega (arith, same (urgency x.kind) x.number, count-cons (urgency x.kind) x.number x xs, tells_itself x) in
    let some_y : 0 < count (urgency y.kind) y.number (x ∷ xs) = omega (arith, same (urgency y.kind) y.number, count-cons (urgency y.kind) y.number y ys, tells_itself y) in
    let y_first = key_before y (y ∷ ys) (urgency x.kind) x.number (itself_before y, b.0) some_x in
    let x_first = key_before x (x ∷ xs) (urgency y.kind) y.number (itself_before x, a.0) some_y in
    let is : x ≡ y = one_line found x y p.0 q.0 (same_key x y x_first y_first) in
    ap₂ (λ l ls. l ∷ ls) is (one_list found xs ys a.1 b.1 p.1 q.1 (λ u n.
    omega (arith, same u n, count-cons u n x xs, count-cons u n y ys, ap (tells u n) is)))

-- ---- the lines of a good book

-- items that are numbered one after the other are found by their numbers
found_there : {X : Type 0} (before : List X) (x : X) (xs : List X) → slice_get (before ++ x ∷ xs) (length before) ≡ Some x
found_there [] x xs = refl
found_there (y ∷ before) x xs = found_there before x xs

pub all_found : {X : Type 0} (Good : List X → X → Type 0) (number : X → ℕ) → ((before : List X) (x : X) → Good before x → number x ≡ length before + 1) → (before xs : List X) → AllAfter Good before xs
    → AllByRecursion (λ x. (if number x == 0 then None else slice_get (before ++ xs) (number x - 1)) ≡ Some x) xs
all_found Good number next before [] all = tt
all_found {X} Good number next before (x ∷ xs) all =
    let is : number x ≡ length before + 1 = next before x all.0 in
    let some : (number x == 0) ≡ false = grind (arith, nat_tests, is) in
    let place : number x - 1 ≡ length before = omega (arith, is) in
    let one : (if number x == 0 then None else slice_get (before ++ x ∷ xs) (number x - 1)) ≡ Some x = rw (some, place) (found_there before x xs) in (
      one,
      subst (λ l. AllByRecursion (λ z. (if number z == 0 then None else slice_get l (number z - 1)) ≡ Some z) xs) (append_assoc before (x ∷ []) xs)
          (all_found Good number next (before ++ x ∷ []) xs all.1),
    )

-- the line with a rank and a number
found_in : Book → ℕ → List ℕ → ℕ → ℕ → Option UrgentLine
found_in book stood scheduled u n = if u == 4 then option_and_then (execution_line book.log) (execution_at book.log n) else option_and_then (request_line book stood scheduled) (request_at book n)

-- no request has the rank of a step
no_step : (book : Book) (stood : ℕ) (scheduled : List ℕ) (r : Request) (at : Option Place) → IfSome (kind_at book stood scheduled r at) (λ k. (urgency k == 4) ≡ false)
no_step book stood scheduled r None = tt
no_step book stood scheduled r (Some Entered) = refl
no_step book stood scheduled r (Some Approved) = by_forever (is_locked_forever book r)
  where
    by_locked : (t : Bool) → (urgency (if t then Locked else Free) == 4) ≡ false
    by_locked true = refl
    by_locked false = refl

    by_insert : (insert : Option Request) → (urgency (kind_unlocked (is_locked book r) insert) == 4) ≡ false
    by_insert None = by_locked (is_locked book r)
    by_insert (Some i) = refl

    by_forever : (t : Bool) → (urgency (if t then LockedForever else kind_unlocked (is_locked book r) (insert_of book r.number)) == 4) ≡ false
    by_forever true = refl
    by_forever false = by_insert (insert_of book r.number)
no_step book stood scheduled r (Some Queued) = refl
no_step book stood scheduled r (Some Sent) = refl
no_step book stood scheduled r (Some Confirmed) = refl
no_step book stood scheduled r (Some Riding) = refl
no_step book stood scheduled r (Some Scheduled) = by_test (is_scheduled scheduled r.number)
  where
    by_test : (t : Bool) → (urgency (if t then Flying else LostReport) == 4) ≡ false
    by_test true = refl
    by_test false = refl
no_step book stood scheduled r (Some Accepted) = refl
no_step book stood scheduled r (Some Started) = refl
no_step book stood scheduled r (Some Completed) = tt
no_step book stood scheduled r (Some Failed) = by_test (nat_lt stood (since book.history r.number))
  where
    by_test : (t : Bool) → IfSome (if t then Some FailedSince else None) (λ k. (urgency k == 4) ≡ false)
    by_test true = refl
    by_test false = tt
no_step book stood scheduled r (Some Doubtful) = refl
no_step book stood scheduled r (Some Withdrawn) = tt
no_step book stood scheduled r (Some Deleted) = tt
no_step book stood scheduled r (Some Closed) = tt

all_given : {X Y : Type 0} (h : X → Option Y) (P : Y → Type 0) (xs : List X) (Q : X → Type 0) → AllByRecursion Q xs → ((x : X) → Q x → IfSome (h x) P) → AllByRecursion P (filter_map h xs)
all_given h P [] Q all one = tt
all_given {X} {Y} h P (x ∷ xs) Q all one = by (h x) (one x all.0) (all_given h P xs Q all.1 one)
  where
    by : (o : Option Y) → IfSome o P → AllByRecursion P (filter_map h xs) → AllByRecursion P (cons_option o (filter_map h xs))
    by None is others = others
    by (Some y) is others = (is, others)

pub both_all : {X : Type 0} (P : X → Type 0) (xs ys : List X) → AllByRecursion P xs → AllByRecursion P ys → AllByRecursion P (xs ++ ys)
both_all P [] ys a b = b
both_all P (x ∷ xs) ys a b = (a.0, both_all P xs ys a.1 b)

request_told : (book : Book) (stood : ℕ) (scheduled : List ℕ) (r : Request) → request_at book r.number ≡ Some r → IfSome (request_line book stood scheduled r) (Told (found_in book stood scheduled))
unfolding found_in
request_told book stood scheduled r there = by (kind_of book stood scheduled r) refl (no_step book stood scheduled r (place_in book r.number))
  where
    by : (kind : Option UrgentKind) → kind_of book stood scheduled r ≡ kind → IfSome kind (λ k. (urgency k == 4) ≡ false) → IfSome (option_map (line_as book r) kind) (Told (found_in book stood scheduled))
    by None is other = tt
    by (Some k) is other = rw (other, there) (ap (option_map (line_as book r)) is)

execution_told : (book : Book) (stood : ℕ) (scheduled : List ℕ) (x : BegunExecution) → execution_at book.log x.execution ≡ Some x → IfSome (execution_line book.log x) (Told (found_in book stood scheduled))
unfolding found_in
execution_told book stood scheduled x there = by (next_step (state_of book.log x)) refl
  where
    by : (step : Option ℕ) → next_step (state_of book.log x) ≡ step → IfSome (option_map (step_as x) step) (Told (found_in book stood scheduled))
    by None is = tt
    by (Some step) is = rw there (ap (option_map (step_as x)) is)

lines_told : (book : Book) (stood : ℕ) (scheduled : List ℕ) → IsGoodBook book → AllByRecursion (Told (found_in book stood scheduled)) (lines_of book stood scheduled)
lines_told book stood scheduled good = both_all (Told (found_in book stood scheduled)) (request_lines book stood scheduled) (filter_map (execution_line book.log) book.log.executions)
    (all_given (request_line book stood scheduled) (Told (found_in book stood scheduled)) book.requests (λ r. request_at book r.number ≡ Some r)
    (all_found IsGoodRequest (λ (r : Request). r.number) (λ before r is. is.number) [] book.requests good.requests) (request_told book stood scheduled))
    (all_given (execution_line book.log) (Told (found_in book stood scheduled)) book.log.executions (λ x. execution_at book.log x.execution ≡ Some x)
    (all_found IsNumbered (λ (x : BegunExecution). x.execution) (λ before x is. is) [] book.log.executions good.log.numbered) (execution_told book stood scheduled))

shuffled_told : (found : ℕ → ℕ → Option UrgentLine) (xs ys : List UrgentLine) → IsPermutation xs ys → AllByRecursion (Told found) xs → AllByRecursion (Told found) ys
shuffled_told found xs ys same all = recursion_from_All (Told found) ys (All-permutation (Told found) xs ys same (All-from_recursion (Told found) xs all))

pub lines_unique : (book : Book) (stood : ℕ) (scheduled : List ℕ) (one two : List UrgentLine) → IsGoodBook book → (a : AreUrgent book stood scheduled one) (b : AreUrgent book stood scheduled two) → a.lines ≡ b.lines
lines_unique book stood scheduled one two good a b =
    let told = lines_told book stood scheduled good in
    one_list (found_in book stood scheduled) a.lines b.lines (lines_rise a.lines a.sorted) (lines_rise b.lines b.sorted)
    (shuffled_told (found_in book stood scheduled) (lines_of book stood scheduled) a.lines a.once told) (shuffled_told (found_in book stood scheduled) (lines_of book stood scheduled) b.lines b.once told)
    (λ u n. unfold count in sum_by-IsPermutation (tells u n) (lines_of book stood scheduled) a.lines a.once ∙ sym (sum_by-IsPermutation (tells u n) (lines_of book stood scheduled) b.lines b.once))
