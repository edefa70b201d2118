-- What is kept of the approval of each request: after an entry, and after an approval.
use Rattle.std.proofs.Common.{◌≡◌, ℕ, ◌+◌, ◌-◌, ◌<◌, ◌≤◌, ◌==◌, Bool, true, false, cond, nat_lt, is_some, is_none, Option, Some, None, zero, suc, inl, inr, List, [], ◌∷◌, ◌++◌, length, map, filter, set, get_or, refl, sym, ◌∙◌, ap, subst, arith}
use Rattle.std.specs.Prelude.{IsSome}
use Rattle.std.specs.List.{AllByRecursion, slice_get}
use Rattle.std.specs.Option.{option_map, option_map_or}
use Rattle.std.proofs.lemmas.List.{map-append, length-append, length-map}
use Rattle.std.proofs.lemmas.Option.{slice_get_cases}
use Rattle.std.proofs.lemmas.Bool.Decides.{nat_tests}
use Rattle.tc_types.specs.declared.requests.Request.{Request}
use Rattle.tc_types.specs.declared.tables.rows.Approval.{Approval}
use Rattle.tc_types.specs.declared.history.causes.Cause.TheVariants as cause
use Rattle.tc_types.specs.declared.history.moves.Move.{Move}
use Rattle.tc_types.specs.declared.requests.Origin.{Origin}
use Rattle.tc_types.specs.Names.{IsPerson}
use Rattle.tc_types.specs.Tests.{first_refusal}
use Rattle.tc_stack.specs.Approvals.{ApprovalState, IsApproval, unapproved, wanted, is_complete, approved, refusal_of}
use Rattle.tc_stack.proofs.ApprovalLemmas.{unapproved_sound, unrefused_sound}
use Rattle.tc_types.specs.History.{AllAfter}
use Rattle.tc_types.proofs.RideLemmas.{each_appended}
use Rattle.tc_book.specs.Book.{Book, approvers_of, approval_of, approval_at, with_approval, is_unknown, request_in, request_at}
use Rattle.tc_book.specs.Acts.{approval_tests}
use Rattle.tc_book.specs.Good.{IsGoodBook, IsGoodRequest}
use Rattle.tc_book.specs.Stacks.{came_with_stack, came_alone, is_approved_with, is_fully_approved}

-- nobody approved a request that no approval names
pub nobody_approved : (approvals : List Approval) (n k : ℕ) → AllByRecursion (λ (a : Approval). a.request ≤ k) approvals → k < n → approvers_of approvals n ≡ []
nobody_approved [] n k all past = refl
nobody_approved (a ∷ rest) n k all past =
    let low = all.0 in
    let other : (a.request == n) ≡ false = grind (arith, nat_tests) in
    rw other (nobody_approved rest n k all.1 past)

-- approvals name no more than so many requests, so no more than more of them
pub named_more : (approvals : List Approval) (k m : ℕ) → k ≤ m → AllByRecursion (λ (a : Approval). a.request ≤ k) approvals → AllByRecursion (λ (a : Approval). a.request ≤ m) approvals
named_more [] k m more all = tt
named_more (a ∷ rest) k m more all = (let low = all.0 in omega (arith, low, more), named_more rest k m more all.1)

-- the approval of the next request, which nobody gave yet
pub approval_of-next : (approvals : List Approval) (r : Request) (k : ℕ) → AllByRecursion (λ (a : Approval). a.request ≤ k) approvals → r.number ≡ k + 1 → approval_of approvals r ≡ unapproved r.author r.critical
approval_of-next approvals r k all next =
    ap (λ l. (let s : ApprovalState = record { author = r.author; critical = r.critical; persons = l } in s)) (nobody_approved approvals r.number k all (omega (arith, next)))

-- what is kept, after an entry
pub kept_entered : (approvals : List Approval) (requests : List Request) (r : Request) (kept : List ApprovalState) → AllByRecursion (λ (a : Approval). a.request ≤ length requests) approvals
    → r.number ≡ length requests + 1 → kept ≡ map (approval_of approvals) requests
    → kept ++ unapproved r.author r.critical ∷ [] ≡ map (approval_of approvals) (requests ++ r ∷ [])
kept_entered approvals requests r kept all next is =
    ap (λ s. kept ++ s ∷ []) (sym (approval_of-next approvals r (length requests) all next))
    ∙ ap (λ l. l ++ approval_of approvals r ∷ []) is
    ∙ sym (map-append (approval_of approvals) requests (r ∷ []))

-- the approval of each is as it can be, after an entry
pub sound_entered : (approvals : List Approval) (requests : List Request) (r : Request) → AllByRecursion (λ (a : Approval). a.request ≤ length requests) approvals → r.number ≡ length requests + 1
    → AllByRecursion (λ x. IsApproval (approval_of approvals x)) requests → AllByRecursion (λ x. IsApproval (approval_of approvals x)) (requests ++ r ∷ [])
sound_entered approvals requests r all next sound =
    each_appended (λ x. IsApproval (approval_of approvals x)) requests r sound
    (subst IsApproval (sym (approval_of-next approvals r (length requests) all next)) (unapproved_sound r.author r.critical))

-- ---- an approval is given

-- the approval of a request with this number
abbrev given_by : ℕ → List ℕ → Approval
given_by n person = record { request = n; person = person }

-- who approved a request, with one approval more of another
approvers_of-other : (approvals : List Approval) (n m : ℕ) (person : List ℕ) → (m == n) ≡ false → approvers_of (approvals ++ given_by m person ∷ []) n ≡ approvers_of approvals n
approvers_of-other [] n m person other = rw other refl
approvers_of-other (a ∷ rest) n m person other = by_test (a.request == n) (approvers_of-other rest n m person other)
  where
    by_test : (t : Bool) → approvers_of (rest ++ given_by m person ∷ []) n ≡ approvers_of rest n
        → map (λ (x : Approval). x.person) (cond t (a ∷ filter (λ (x : Approval). x.request == n) (rest ++ given_by m person ∷ [])) (filter (λ (x : Approval). x.request == n) (rest ++ given_by m person ∷ [])))
        ≡ map (λ (x : Approval). x.person) (cond t (a ∷ filter (λ (x : Approval). x.request == n) rest) (filter (λ (x : Approval). x.request == n) rest))
    by_test true more = ap (λ l. a.person ∷ l) more
    by_test false more = more

-- the same of that request
approvers_of-more : (approvals : List Approval) (n m : ℕ) (person : List ℕ) → (m == n) ≡ true → approvers_of (approvals ++ given_by m person ∷ []) n ≡ approvers_of approvals n ++ person ∷ []
approvers_of-more [] n m person same = rw same refl
approvers_of-more (a ∷ rest) n m person same = by_test (a.request == n) (approvers_of-more rest n m person same)
  where
    by_test : (t : Bool) → approvers_of (rest ++ given_by m person ∷ []) n ≡ approvers_of rest n ++ person ∷ []
        → map (λ (x : Approval). x.person) (cond t (a ∷ filter (λ (x : Approval). x.request == n) (rest ++ given_by m person ∷ [])) (filter (λ (x : Approval). x.request == n) (rest ++ given_by m person ∷ [])))
        ≡ map (λ (x : Approval). x.person) (cond t (a ∷ filter (λ (x : Approval). x.request == n) rest) (filter (λ (x : Approval). x.request == n) rest)) ++ person ∷ []
    by_test true more = ap (λ l. a.person ∷ l) more
    by_test false more = more

-- the approval of a request, with these persons
abbrev with_persons : Request → List (List ℕ) → ApprovalState
with_persons r persons = record { author = r.author; critical = r.critical; persons = persons }

pub approval_of-other : (approvals : List Approval) (r : Request) (m : ℕ) (person : List ℕ) → (m == r.number) ≡ false → approval_of (approvals ++ given_by m person ∷ []) r ≡ approval_of approvals r
approval_of-other approvals r m person other = ap (with_persons r) (approvers_of-other approvals r.number m person other)

pub approval_of-more : (approvals : List Approval) (r : Request) (m : ℕ) (person : List ℕ) → (m == r.number) ≡ true → approval_of (approvals ++ given_by m person ∷ []) r ≡ approved person (approval_of approvals r)
approval_of-more approvals r m person same = ap (with_persons r) (approvers_of-more approvals r.number m person same)

-- the numbers of these requests are k, k + 1, k + 2 and so on
pub AreNumbered : ℕ → List Request → Type 0
AreNumbered k [] = Unit {0}
AreNumbered k (r ∷ rs) = (r.number ≡ k) × AreNumbered (k + 1) rs

-- what is kept of requests whose numbers are all past that one
kept_past : (approvals : List Approval) (m : ℕ) (person : List ℕ) (k : ℕ) (requests : List Request) → AreNumbered k requests → m < k
    → map (approval_of approvals) requests ≡ map (approval_of (approvals ++ given_by m person ∷ [])) requests
unfolding AreNumbered
kept_past approvals m person k [] all less = refl
kept_past approvals m person k (r ∷ rs) all less =
    let number : r.number ≡ k = all.0 in
    let other : (m == r.number) ≡ false = grind (arith, nat_tests) in
    ap (λ s. s ∷ map (approval_of approvals) rs) (sym (approval_of-other approvals r m person other))
    ∙ ap (λ l. approval_of (approvals ++ given_by m person ∷ []) r ∷ l) (kept_past approvals m person (k + 1) rs all.1 (omega (arith, less)))

-- what is kept, after an approval
pub kept_given : (approvals : List Approval) (m : ℕ) (person : List ℕ) (k j : ℕ) (d : ApprovalState) (requests : List Request) → AreNumbered k requests → m ≡ k + j → j < length requests
    → set (map (approval_of approvals) requests) j (approved person (get_or (map (approval_of approvals) requests) j d)) ≡ map (approval_of (approvals ++ given_by m person ∷ [])) requests
unfolding AreNumbered
kept_given approvals m person k j d [] all is low = absurd (omega arith)
kept_given approvals m person k zero d (r ∷ rs) all is low =
    let number : r.number ≡ k = all.0 in
    let same : (m == r.number) ≡ true = grind (arith, nat_tests) in
    ap (λ s. s ∷ map (approval_of approvals) rs) (sym (approval_of-more approvals r m person same))
    ∙ ap (λ l. approval_of (approvals ++ given_by m person ∷ []) r ∷ l) (kept_past approvals m person (k + 1) rs all.1 (omega (arith, is)))
kept_given approvals m person k (suc j) d (r ∷ rs) all is low =
    let number : r.number ≡ k = all.0 in
    let other : (m == r.number) ≡ false = grind (arith, nat_tests) in
    ap (λ s. s ∷ set (map (approval_of approvals) rs) j (approved person (get_or (map (approval_of approvals) rs) j d))) (sym (approval_of-other approvals r m person other))
    ∙ ap (λ l. approval_of (approvals ++ given_by m person ∷ []) r ∷ l) (kept_given approvals m person (k + 1) j d rs all.1 (omega (arith, is)) (omega arith))

-- requests that may follow one another are numbered
pub numbered : (before requests : List Request) → AllAfter IsGoodRequest before requests → AreNumbered (length before + 1) requests
unfolding AreNumbered
numbered before [] all = tt
numbered before (r ∷ rs) all = (all.0.number, subst (λ n. AreNumbered (n + 1) rs) (length-append before (r ∷ [])) (numbered (before ++ r ∷ []) rs all.1))

-- the number of the one at a place
pub number_at : (k j : ℕ) (requests : List Request) (r : Request) → AreNumbered k requests → slice_get requests j ≡ Some r → r.number ≡ k + j
unfolding AreNumbered
number_at k j [] r all is = cc
number_at k zero (x ∷ xs) r all is = let same : x ≡ r = cc in subst (λ (y : Request). y.number ≡ k + 0) same (omega (arith, all.0))
number_at k (suc j) (x ∷ xs) r all is = let rest = number_at (k + 1) j xs r all.1 is in omega (arith, rest)

-- what each of a map has
pub all_mapped : {X Y : Type 0} (P : Y → Type 0) (f : X → Y) (xs : List X) → AllByRecursion (λ x. P (f x)) xs → AllByRecursion P (map f xs)
all_mapped P f [] all = tt
all_mapped P f (x ∷ xs) all = (all.0, all_mapped P f xs all.1)

-- the way back
pub all_before : {X Y : Type 0} (P : Y → Type 0) (f : X → Y) (xs : List X) → AllByRecursion P (map f xs) → AllByRecursion (λ x. P (f x)) xs
all_before P f [] all = tt
all_before P f (x ∷ xs) all = (all.0, all_before P f xs all.1)

-- one of them is another
pub all_set : {X : Type 0} (P : X → Type 0) (xs : List X) (j : ℕ) (d y : X) → AllByRecursion P xs → (P (get_or xs j d) → P y) → j < length xs → AllByRecursion P (set xs j y)
all_set P [] j d y all may low = tt
all_set P (x ∷ xs) zero d y all may low = (may all.0, all.1)
all_set P (x ∷ xs) (suc j) d y all may low = (all.0, all_set P xs j d y all.1 may (omega arith))

-- what is made of the one at a place
pub found_at : {X Y : Type 0} (f : X → Y) (xs : List X) (j : ℕ) (d : Y) (x : X) → slice_get xs j ≡ Some x → get_or (map f xs) j d ≡ f x
found_at f [] j d x is = cc
found_at f (y ∷ xs) zero d x is = let same : y ≡ x = cc in ap f same
found_at f (y ∷ xs) (suc j) d x is = found_at f xs j d x is

-- who is not unknown is found
pub known_found : (book : Book) (n : ℕ) → is_unknown book n ≡ false → IsSome (request_in book.requests n)
known_found book n known = by_zero (n == 0) refl
  where
    within : (n == 0) ≡ false → n - 1 < length book.requests
    within e = let last : nat_lt (length book.requests) n ≡ false = rw e at known in grind (arith, nat_tests)

    by_zero : (t : Bool) → (n == 0) ≡ t → IsSome (request_in book.requests n)
    by_zero true e = let no : true ≡ false = rw e at known in cc
    by_zero false e = rw e (elim (slice_get_cases book.requests (n - 1)).1 [
      | inl (named, _, is, _) ↦ rw is refl
      | inr (past, _) ↦ let inside = within e in absurd (omega arith)
    ])

-- what is kept of a request that was entered
pub kept_at : (book : Book) (n : ℕ) (kept : List ApprovalState) (d : ApprovalState) → kept ≡ map (approval_of book.approvals) book.requests → is_unknown book n ≡ false → approval_at book n ≡ Some (get_or kept (n - 1) d)
kept_at book n kept d is known = by_zero (n == 0) refl
  where
    by_found : (found : Option Request) → slice_get book.requests (n - 1) ≡ found → IsSome found → option_map (approval_of book.approvals) found ≡ Some (get_or kept (n - 1) d)
    by_found None e there = cc
    by_found (Some r) e there = ap (λ s. Some s) (sym (ap (λ l. get_or l (n - 1) d) is ∙ found_at (approval_of book.approvals) book.requests (n - 1) d r e))

    by_zero : (t : Bool) → (n == 0) ≡ t → option_map (approval_of book.approvals) (request_in book.requests n) ≡ Some (get_or kept (n - 1) d)
    by_zero true e = let no : true ≡ false = rw e at known in cc
    by_zero false e =
        let there : IsSome (request_in book.requests n) = known_found book n known in
        rw e (by_found (slice_get book.requests (n - 1)) refl (rw e at there))

-- who may approve a request that was entered, by what is kept of it
pub may_at : (book : Book) (n : ℕ) (person : List ℕ) (kept : List ApprovalState) (d : ApprovalState) → kept ≡ map (approval_of book.approvals) book.requests → is_unknown book n ≡ false
    → first_refusal (approval_tests person (approval_at book n)) ≡ None → refusal_of person (get_or kept (n - 1) d) ≡ None
may_at book n person kept d is known may = subst (λ s. first_refusal (approval_tests person s) ≡ None) (kept_at book n kept d is known) may

-- a number that is not unknown is at most as many as were entered, and not 0
pub known_within : (book : Book) (n : ℕ) → is_unknown book n ≡ false → (0 < n) × (n ≤ length book.requests)
known_within book n known = by_zero (n == 0) refl
  where
    by_zero : (t : Bool) → (n == 0) ≡ t → (0 < n) × (n ≤ length book.requests)
    by_zero true e = let no : true ≡ false = rw e at known in cc
    by_zero false e = let last : nat_lt (length book.requests) n ≡ false = rw e at known in (grind (arith, nat_tests), grind (arith, nat_tests))

-- what is kept, after an approval of a request that was entered
pub kept_approved : (book : Book) (n : ℕ) (person : List ℕ) (kept : List ApprovalState) (d : ApprovalState) → IsGoodBook book → is_unknown book n ≡ false → kept ≡ map (approval_of book.approvals) book.requests
    → set kept (n - 1) (approved person (get_or kept (n - 1) d)) ≡ map (approval_of (with_approval book n person).approvals) book.requests
kept_approved book n person kept d good known is =
    let within = known_within book n known in
    let low = within.0 in
    let most = within.1 in
    ap (λ l. set l (n - 1) (approved person (get_or l (n - 1) d))) is
    ∙ kept_given book.approvals n person 1 (n - 1) d book.requests (numbered [] book.requests good.requests) (omega (arith, low)) (omega (arith, low, most))

-- a complete approval stays complete with one more
pub still_complete : (s : ApprovalState) (person : List ℕ) → is_complete s ≡ true → is_complete (approved person s) ≡ true
still_complete s person full =
    let len = length-append s.persons (person ∷ []) in
    let enough : wanted s ≤ length s.persons = grind (arith, nat_tests, full) in
    let more : wanted s ≤ length (s.persons ++ person ∷ []) = omega (arith, len, enough) in
    grind (arith, nat_tests, more)

-- what holds of all by one thing holds of all by another that follows from it
pub all_so : {X : Type 0} (P Q : X → Type 0) (xs : List X) → ((x : X) → P x → Q x) → AllByRecursion P xs → AllByRecursion Q xs
all_so P Q [] so all = tt
all_so P Q (x ∷ xs) so all = (so x all.0, all_so P Q xs so all.1)

-- an approval that no test refuses keeps the book good
pub approved_good : (book : Book) (n : ℕ) (person : List ℕ) → IsGoodBook book → IsPerson person → is_unknown book n ≡ false → came_with_stack book n ≡ false → ((d : ApprovalState) → refusal_of person (get_or (map (approval_of book.approvals) book.requests) (n - 1) d) ≡ None)
    → IsGoodBook (with_approval book n person)
approved_good book n person good is_one known single may = record {
  history = good.history;
  requests = good.requests;
  few = good.few;
  entered = good.entered;
  named = each_appended (λ (a : Approval). a.request ≤ length book.requests) book.approvals (given_by n person) good.named within.1;
  alone = each_appended (λ (a : Approval). came_alone book.requests a.request ≡ true) book.approvals (given_by n person) good.alone (by_itself (request_at book n) (known_found book n known) single);
  stacks_named = good.stacks_named;
  approved = all_before IsApproval (approval_of (with_approval book n person).approvals) book.requests (subst (AllByRecursion IsApproval) made kept_sound);
  stacks_approved = good.stacks_approved;
  log = good.log;
  log_named = good.log_named;
  complete = all_so (λ (m : Move). m.cause ≡ cause.Approve → is_fully_approved book m.request ≡ true) (λ (m : Move). m.cause ≡ cause.Approve → is_fully_approved (with_approval book n person) m.request ≡ true) book.history
      (λ m was is. by_found (request_at book m.request) (was is)) good.complete;
  persons = record {
    authors = good.persons.authors;
    approvers = each_appended (λ (a : Approval). IsPerson a.person) book.approvals (given_by n person) good.persons.approvers is_one;
    stack_approvers = good.persons.stack_approvers;
    loaders = good.persons.loaders;
    beginners = good.persons.beginners;
    recorders = good.persons.recorders;
  };
  few_stacks = good.few_stacks;
  numbers = good.numbers;
}
  where
    by_itself : (found : Option Request) → IsSome found → option_map_or (λ (r : Request). is_some r.origin) found false ≡ false → option_map_or (λ (r : Request). is_none r.origin) found false ≡ true
    by_itself None there is = cc
    by_itself (Some r) there is = by_origin r.origin is
      where
        by_origin : (origin : Option Origin) → is_some origin ≡ false → is_none origin ≡ true
        by_origin None e = refl
        by_origin (Some o) e = cc

    by_number : (r : Request) (t : Bool) → (n == r.number) ≡ t → is_complete (approval_of book.approvals r) ≡ true → is_complete (approval_of (with_approval book n person).approvals r) ≡ true
    by_number r true e is = ap is_complete (approval_of-more book.approvals r n person e) ∙ still_complete (approval_of book.approvals r) person is
    by_number r false e is = ap is_complete (approval_of-other book.approvals r n person e) ∙ is

    by_kind : (r : Request) (origin : Option Origin) → is_approved_with book r origin ≡ true → is_approved_with (with_approval book n person) r origin ≡ true
    by_kind r None is = by_number r (n == r.number) refl is
    by_kind r (Some o) is = is

    by_found : (found : Option Request) → option_map_or (λ (r : Request). is_approved_with book r r.origin) found false ≡ true
        → option_map_or (λ (r : Request). is_approved_with (with_approval book n person) r r.origin) found false ≡ true
    by_found None never = cc
    by_found (Some r) is = by_kind r r.origin is

    within : (0 < n) × (n ≤ length book.requests)
    within = known_within book n known

    nobody : ApprovalState
    nobody = unapproved [] false

    kept : List ApprovalState
    kept = map (approval_of book.approvals) book.requests

    made : set kept (n - 1) (approved person (get_or kept (n - 1) nobody)) ≡ map (approval_of (with_approval book n person).approvals) book.requests
    made = kept_approved book n person kept nobody good known refl

    low : n - 1 < length kept
    low = let some = within.0 in let most = within.1 in let len = length-map book.requests (approval_of book.approvals) in omega (arith, some, most, len)

    kept_sound : AllByRecursion IsApproval (set kept (n - 1) (approved person (get_or kept (n - 1) nobody)))
    kept_sound =
        all_set IsApproval kept (n - 1) nobody (approved person (get_or kept (n - 1) nobody)) (all_mapped IsApproval (approval_of book.approvals) book.requests good.approved)
        (λ is. unrefused_sound (get_or kept (n - 1) nobody) person is (may nobody)) low
