-- What an opening makes of the requests, one after the other.
use Rattle.std.proofs.Common.{◌≡◌, ℕ, zero, suc, ◌+◌, ◌-◌, ◌<◌, ◌≤◌, ◌==◌, Bool, true, false, ◌&&◌, ◌||◌, cond, if◌then◌else◌, is_some, Option, Some, None, Result, Ok, Err, IfOk, List, [], ◌∷◌, ◌++◌, length, take, get_or, fold, refl, sym, ◌∙◌, ap, arith}
use Rattle.std.specs.Prelude.{count_by}
use Rattle.std.specs.List.{list_any, filter_map, flat_map, cons_option, slice_get}
use Rattle.std.proofs.lemmas.List.{length-append, take_more}
use Rattle.std.proofs.lemmas.List.Elements.{filter_map-append}
use Rattle.std.proofs.lemmas.List.Folds.{list_any-append}
use Rattle.std.proofs.lemmas.Bool.Decides.{nat_tests}
use Rattle.std.proofs.lemmas.List.Sums.{count_by_more_yes, count_by_more_no, sum_by-take-le, sum_by-cons}
use Rattle.tc_types.specs.declared.history.places.Place.{Place}
use Rattle.tc_types.specs.declared.history.places.Place.TheVariants.{Entered, Approved, Queued, Sent, Confirmed, Riding, Scheduled, Accepted, Started, Completed, Failed, Doubtful, Withdrawn, Deleted, Closed}
use Rattle.tc_types.specs.declared.history.causes.Cause.{Cause}
use Rattle.tc_types.specs.declared.history.causes.Cause.TheVariants as cause
use Rattle.tc_types.specs.declared.history.moves.Move.{Move}
use Rattle.tc_types.specs.declared.requests.Request.{Request}
use Rattle.tc_types.specs.Lawful.{is_lawful, is_among, is_one_of}
use Rattle.tc_types.specs.Schedule.{inserted}
use Rattle.tc_proc.specs.Logs.{LogState}
use Rattle.tc_book.specs.declared.marks.Mark.{Mark}
use Rattle.tc_book.specs.declared.stamps.Stamp.{Stamp}
use Rattle.tc_book.specs.Batch.{GoesOn, mark_of, IsBehind}
use Rattle.tc_book.specs.Book.{Book, place_in, stands, request_at, want, moved, row_of}
use Rattle.tc_book.specs.Held.{held_by, has_number, opened_from, looked_at}
use Rattle.tc_book.specs.Opening.{opened_places, inserts, is_held, opened_to, desk_stamp, opened_request, opened_book, count_opened, HasNumbers}
use Rattle.tc_book.proofs.GoesOnLemmas.{moved-goes_on, same-goes_on, on_and_on}
use Rattle.tc_book.proofs.HistoryLemmas.{place_of-snoc}

-- what holds of what a call answers, and what follows of it
pub if_ok_so : {X E : Type 0} {P Q : X → Type 0} (r : Result X E) → IfOk r P → ((x : X) → P x → Q x) → IfOk r Q
if_ok_so (Ok x) p more = more x p
if_ok_so (Err e) p more = tt

-- ---- whose insert never left

-- one item more, of which there may be a number
pub held_more : {X Y : Type 0} (h : X → Option Y) (xs : List X) (i : ℕ) (x : X) (now new : List Y) → i < length xs → x ≡ get_or xs i x
    → now ≡ filter_map h (take i xs) → new ≡ now ++ cons_option (h x) [] → new ≡ filter_map h (take (i + 1) xs)
held_more h xs i x now new low is before after =
    after
    ∙ ap (λ l. l ++ cons_option (h x) []) before
    ∙ sym (filter_map-append h (take i xs) (x ∷ []))
    ∙ ap (λ y. filter_map h (take i xs ++ y ∷ [])) is
    ∙ ap (filter_map h) (sym (take_more xs i x low))

and_true : (b : Bool) → b ≡ (b && true)
and_true true = refl
and_true false = refl

and_false : (b : Bool) → false ≡ (b && false)
and_false true = refl
and_false false = refl

-- the numbers tell whose insert waits
pub held_known : (book : Book) (n : ℕ) (requests : List Request)
    → has_number (flat_map (held_by book.history) requests) n ≡ list_any (λ (r : Request). inserts n r.body.command && stands book r.number (Queued ∷ [])) requests
held_known book n [] = refl
held_known book n (r ∷ requests) =
    list_any-append (λ k. k == n) (held_by book.history r) (flat_map (held_by book.history) requests)
    ∙ ap (λ t. t || has_number (flat_map (held_by book.history) requests) n) (by_test (stands book r.number (Queued ∷ [])))
    ∙ ap (λ t. (inserts n r.body.command && stands book r.number (Queued ∷ [])) || t) (held_known book n requests)
  where
    by_test : (t : Bool) → has_number (if t then inserted r.body.command else []) n ≡ (inserts n r.body.command && t)
    by_test true = and_true (inserts n r.body.command)
    by_test false = and_false (inserts n r.body.command)

-- ---- one request

-- an opening's move is lawful
pub opened_lawful : (at : Option Place) (held : Bool) → is_among opened_places at ≡ true → is_lawful at (opened_from at held) cause.Open ≡ true
opened_lawful None held is = cc
opened_lawful (Some Entered) held is = cc
opened_lawful (Some Approved) held is = cc
opened_lawful (Some Queued) held is = refl
opened_lawful (Some Sent) held is = refl
opened_lawful (Some Confirmed) held is = refl
opened_lawful (Some Riding) true is = refl
opened_lawful (Some Riding) false is = refl
opened_lawful (Some Scheduled) held is = refl
opened_lawful (Some Accepted) held is = refl
opened_lawful (Some Started) held is = refl
opened_lawful (Some Completed) held is = cc
opened_lawful (Some Failed) held is = cc
opened_lawful (Some Doubtful) held is = cc
opened_lawful (Some Withdrawn) held is = cc
opened_lawful (Some Deleted) held is = cc
opened_lawful (Some Closed) held is = cc

pub opened_somewhere : (at : Option Place) → is_among opened_places at ≡ true → is_some at ≡ true
opened_somewhere None is = is
opened_somewhere (Some at) is = refl

-- by where it stands now it goes where it went by where it stood, if it stands there
pub looked_same : (moment : ℕ) (held : List ℕ) (left book : Book) (r : Request) → place_in book r.number ≡ place_in left r.number → has_number held r.number ≡ is_held left r.number
    → looked_at moment held book r ≡ opened_request moment left book r
looked_same moment held left book r there known =
    ap (λ at. if is_among opened_places at then moved (desk_stamp moment) book (want r.number (opened_from at (has_number held r.number)) cause.Open) else book) there
    ∙ ap (λ h. if stands left r.number opened_places then moved (desk_stamp moment) book (want r.number (opened_from (place_in left r.number) h) cause.Open) else book) known

-- nobody else is moved
pub looked_stays : (moment : ℕ) (left book : Book) (r : Request) (n : ℕ) → (r.number == n) ≡ false → place_in (opened_request moment left book r) n ≡ place_in book n
looked_stays moment left book r n other = by_test (stands left r.number opened_places)
  where
    by_test : (t : Bool) → place_in (if t then moved (desk_stamp moment) book (want r.number (opened_to left r.number) cause.Open) else book) n ≡ place_in book n
    by_test true = place_of-snoc book.history (row_of (desk_stamp moment) book.history (want r.number (opened_to left r.number) cause.Open)) n ∙ rw other refl
    by_test false = refl

pub looked_requests : (moment : ℕ) (left book : Book) (r : Request) → (opened_request moment left book r).requests ≡ book.requests
looked_requests moment left book r = by_test (stands left r.number opened_places)
  where
    by_test : (t : Bool) → (if t then moved (desk_stamp moment) book (want r.number (opened_to left r.number) cause.Open) else book).requests ≡ book.requests
    by_test true = refl
    by_test false = refl

pub looked_rows : (moment : ℕ) (left book : Book) (r : Request) → length (opened_request moment left book r).history ≤ length book.history + (if stands left r.number opened_places then 1 else 0)
looked_rows moment left book r = by_test (stands left r.number opened_places)
  where
    by_test : (t : Bool) → length (if t then moved (desk_stamp moment) book (want r.number (opened_to left r.number) cause.Open) else book).history ≤ length book.history + (if t then 1 else 0)
    by_test true = rw length-append (omega arith)
    by_test false = omega arith

-- ---- all requests

-- how many are moved so far
pub opened_more : (left : Book) (requests : List Request) (k : ℕ) (row : Request) → k < length requests → row ≡ get_or requests k row
    → count_by (λ (r : Request). stands left r.number opened_places) (take (k + 1) requests) ≡ count_by (λ (r : Request). stands left r.number opened_places) (take k requests) + (if stands left row.number opened_places then 1 else 0)
opened_more left requests k row low is = by_test (stands left row.number opened_places) refl
  where
    by_test : (t : Bool) → stands left row.number opened_places ≡ t
        → count_by (λ (r : Request). stands left r.number opened_places) (take (k + 1) requests) ≡ count_by (λ (r : Request). stands left r.number opened_places) (take k requests) + (if t then 1 else 0)
    by_test true e = count_by_more_yes (λ (r : Request). stands left r.number opened_places) requests k row low (ap (λ (r : Request). stands left r.number opened_places) (sym is) ∙ e)
    by_test false e = count_by_more_no (λ (r : Request). stands left r.number opened_places) requests k row low (ap (λ (r : Request). stands left r.number opened_places) (sym is) ∙ e) ∙ omega arith

pub opened_front : (left : Book) (requests : List Request) (k : ℕ)
    → count_by (λ (r : Request). stands left r.number opened_places) (take k requests) ≤ count_by (λ (r : Request). stands left r.number opened_places) requests
opened_front left requests k = sum_by-take-le (λ (r : Request). cond (stands left r.number opened_places) 1 0) requests k

-- ---- numbers

-- no more of these pass one test than pass another that all of them pass
step_more : (a b : Bool) (m n : ℕ) → (b ≡ true → a ≡ true) → m ≤ n → cond b 1 0 + m ≤ cond a 1 0 + n
step_more true true m n so rest = omega (arith, rest)
step_more true false m n so rest = omega (arith, rest)
step_more false true m n so rest = let never : false ≡ true = so refl in cc
step_more false false m n so rest = omega (arith, rest)

not_more : {X : Type 0} (p q : X → Bool) (xs : List X) → ((y : X) → q y ≡ true → p y ≡ true) → count_by q xs ≤ count_by p xs
not_more p q [] so =
    let before : count_by p [] ≡ 0 = refl in
    let after : count_by q [] ≡ 0 = refl in
    omega (arith, before, after)
not_more p q (x ∷ xs) so =
    let ps : count_by p (x ∷ xs) ≡ cond (p x) 1 0 + count_by p xs = sum_by-cons (λ y. cond (p y) 1 0) x xs in
    let qs : count_by q (x ∷ xs) ≡ cond (q x) 1 0 + count_by q xs = sum_by-cons (λ y. cond (q y) 1 0) x xs in
    let step = step_more (p x) (q x) (count_by q xs) (count_by p xs) (so x) (not_more p q xs so) in
    omega (arith, ps, qs, step)

-- and fewer, where one passes that alone
fewer : {X : Type 0} (p q : X → Bool) (xs : List X) (i : ℕ) (x : X) → ((y : X) → q y ≡ true → p y ≡ true) → slice_get xs i ≡ Some x → p x ≡ true → q x ≡ false → count_by q xs + 1 ≤ count_by p xs
fewer p q [] i x so found is off = cc
fewer p q (y ∷ xs) zero x so found is off =
    let same : y ≡ x = cc in
    let ps : count_by p (y ∷ xs) ≡ cond (p y) 1 0 + count_by p xs = sum_by-cons (λ z. cond (p z) 1 0) y xs in
    let qs : count_by q (y ∷ xs) ≡ cond (q y) 1 0 + count_by q xs = sum_by-cons (λ z. cond (q z) 1 0) y xs in
    let one : ◌≡◌ {A = ℕ} (cond (p y) 1 0) 1 = ap (λ t. cond t 1 0) (ap p same ∙ is) in
    let none : ◌≡◌ {A = ℕ} (cond (q y) 1 0) 0 = ap (λ t. cond t 1 0) (ap q same ∙ off) in
    let rest = not_more p q xs so in
    omega (arith, ps, qs, one, none, rest)
fewer p q (y ∷ xs) (suc i) x so found is off =
    let ps : count_by p (y ∷ xs) ≡ cond (p y) 1 0 + count_by p xs = sum_by-cons (λ z. cond (p z) 1 0) y xs in
    let qs : count_by q (y ∷ xs) ≡ cond (q y) 1 0 + count_by q xs = sum_by-cons (λ z. cond (q z) 1 0) y xs in
    let step = step_more (p y) (q y) (count_by q xs + 1) (count_by p xs) (so y) (fewer p q xs i x so found is off) in
    omega (arith, ps, qs, step)

-- where an opening moves somebody nobody is moved by one
pub opened_away : (at : Option Place) (held : Bool) → is_one_of opened_places (opened_from at held) ≡ false
opened_away at held = by_test (is_among (Queued ∷ []) at || (is_among (Riding ∷ []) at && held))
  where
    by_test : (t : Bool) → is_one_of opened_places (if t then Approved else Doubtful) ≡ false
    by_test true = refl
    by_test false = refl

-- a move away from the places of an opening leaves as many numbers as it found
pub away_numbered : (stamp : Stamp) (book : Book) (to : Place) (c : Cause) (r : Request) → request_at book r.number ≡ Some r → stands book r.number opened_places ≡ true → is_one_of opened_places to ≡ false
    → HasNumbers book → HasNumbers (moved stamp book (want r.number to c))
away_numbered stamp book to c r found here off numbers =
    let longer = length-append book.history (row ∷ []) in
    let less = by_zero (r.number == 0) found in
    omega (arith, longer, less, numbers)
  where
    new : Book
    new = moved stamp book (want r.number to c)

    row : Move
    row = row_of stamp book.history (want r.number to c)

    now_at : (m : ℕ) (t : Bool) → (r.number == m) ≡ t → stands new m opened_places ≡ is_among opened_places (if t then Some to else place_in book m)
    now_at m t e = ap (is_among opened_places) (place_of-snoc book.history row m ∙ ap (λ b. if b then Some to else place_in book m) e)

    was : (m : ℕ) (t : Bool) → (r.number == m) ≡ t → stands new m opened_places ≡ true → stands book m opened_places ≡ true
    was m true e is = let never : false ≡ true = sym off ∙ sym (now_at m true e) ∙ is in cc
    was m false e is = sym (now_at m false e) ∙ is

    gone : stands new r.number opened_places ≡ false
    gone = let same : (r.number == r.number) ≡ true = grind (arith, nat_tests) in now_at r.number true same ∙ off

    by_zero : (t : Bool) → (if t then None else slice_get book.requests (r.number - 1)) ≡ Some r → count_opened new + 1 ≤ count_opened book
    by_zero true e = cc
    by_zero false e =
        fewer (λ (x : Request). stands book x.number opened_places) (λ (x : Request). stands new x.number opened_places) book.requests (r.number - 1) r
        (λ x is. was x.number (r.number == x.number) refl is) e here gone

-- what an opening leaves, and what it makes goes on
abbrev Leaves : Book → Book → Type 0
Leaves old new = GoesOn old new × (new.requests ≡ old.requests) × (new.approvals ≡ old.approvals) × (new.stack_approvals ≡ old.stack_approvals) × (new.log ≡ old.log)

looked_leaves : (moment : ℕ) (left book : Book) (r : Request) → Leaves book (opened_request moment left book r)
looked_leaves moment left book r = by_test (stands left r.number opened_places)
  where
    by_test : (t : Bool) → Leaves book (if t then moved (desk_stamp moment) book (want r.number (opened_to left r.number) cause.Open) else book)
    by_test true = (moved-goes_on (desk_stamp moment) book r.number (opened_to left r.number) cause.Open, refl, refl, refl, refl)
    by_test false = (same-goes_on book, refl, refl, refl, refl)

all_leave : (moment : ℕ) (left book : Book) (requests : List Request) → Leaves book (fold (opened_request moment left) book requests)
all_leave moment left book [] = (same-goes_on book, refl, refl, refl, refl)
all_leave moment left book (r ∷ requests) =
    let one = looked_leaves moment left book r in
    let others = all_leave moment left (opened_request moment left book r) requests in
    (on_and_on book (opened_request moment left book r) (fold (opened_request moment left) (opened_request moment left book r) requests) one.0 others.0, others.1 ∙ one.1, others.2 ∙ one.2, others.3 ∙ one.3, others.4 ∙ one.4)

pub opened-goes_on : (moment : ℕ) (left : Book) → GoesOn left (opened_book moment left)
opened-goes_on moment left = (all_leave moment left left left.requests).0

pub opened_same : (moment : ℕ) (left : Book) → let new : Book = opened_book moment left in (new.requests ≡ left.requests) × (new.approvals ≡ left.approvals) × (new.stack_approvals ≡ left.stack_approvals) × (new.log ≡ left.log)
opened_same moment left = let all = all_leave moment left left left.requests in (all.1, all.2, all.3, all.4)

pub opened_longer : (moment : ℕ) (left : Book) → length left.history ≤ length (opened_book moment left).history
opened_longer moment left =
    let behind = ap length (opened-goes_on moment left).history ∙ length-append left.history _ in
    omega (arith, behind)

-- a mark that stands where the book stood before the opening
pub record SameMark (mark : Mark) (new : Book) : Type 0 where
  pub requests : mark.requests ≡ length new.requests
  pub rows : mark.rows ≤ length new.history
  pub approvals : mark.approvals ≡ length new.approvals
  pub stack_approvals : mark.stack_approvals ≡ length new.stack_approvals
  pub procedures : mark.procedures ≡ length new.log.loaded
  pub steps : mark.steps ≡ length new.log.steps
  pub executions : mark.executions ≡ length new.log.executions
  pub records : mark.records ≡ length new.log.records

pub same_mark : (moment : ℕ) (old new : Book) (mark : Mark) → mark ≡ mark_of old → new ≡ opened_book moment old → SameMark mark new
same_mark moment old new mark is made =
    let same = opened_same moment old in
    let longer = opened_longer moment old in
    let rows = ap (λ (m : Mark). m.rows) is in
    let history = ap (λ (b : Book). length b.history) made in
    record {
      requests = ap (λ (m : Mark). m.requests) is ∙ ap length (sym same.0) ∙ ap (λ (b : Book). length b.requests) (sym made);
      rows = omega (arith, rows, longer, history);
      approvals = ap (λ (m : Mark). m.approvals) is ∙ ap length (sym same.1) ∙ ap (λ (b : Book). length b.approvals) (sym made);
      stack_approvals = ap (λ (m : Mark). m.stack_approvals) is ∙ ap length (sym same.2) ∙ ap (λ (b : Book). length b.stack_approvals) (sym made);
      procedures = ap (λ (m : Mark). m.procedures) is ∙ ap (λ (l : LogState). length l.loaded) (sym same.3) ∙ ap (λ (b : Book). length b.log.loaded) (sym made);
      steps = ap (λ (m : Mark). m.steps) is ∙ ap (λ (l : LogState). length l.steps) (sym same.3) ∙ ap (λ (b : Book). length b.log.steps) (sym made);
      executions = ap (λ (m : Mark). m.executions) is ∙ ap (λ (l : LogState). length l.executions) (sym same.3) ∙ ap (λ (b : Book). length b.log.executions) (sym made);
      records = ap (λ (m : Mark). m.records) is ∙ ap (λ (l : LogState). length l.records) (sym same.3) ∙ ap (λ (b : Book). length b.log.records) (sym made);
    }

-- what is the same as at the mark is behind it
pub fits_mark : (moment : ℕ) (old new : Book) (mark : Mark) → mark ≡ mark_of old → new ≡ opened_book moment old → IsBehind mark new
fits_mark moment old new mark is made =
    let same = same_mark moment old new mark is made in
    let requests = same.requests in
    let approvals = same.approvals in
    let stack_approvals = same.stack_approvals in
    let procedures = same.procedures in
    let steps = same.steps in
    let executions = same.executions in
    let records = same.records in
    record {
      requests = omega (arith, requests);
      rows = same.rows;
      approvals = omega (arith, approvals);
      approvals_few = omega (arith, approvals);
      stack_approvals = omega (arith, stack_approvals);
      stack_approvals_few = omega (arith, stack_approvals);
      procedures = omega (arith, procedures);
      steps = omega (arith, steps);
      executions = omega (arith, executions);
      records = omega (arith, records);
    }
