-- The approvals of requests in tables that were left, one after the other.
use Rattle.std.proofs.Common.{◌≡◌, ℕ, zero, suc, ◌+◌, ◌-◌, ◌<◌, ◌≤◌, ◌==◌, Bool, true, false, is_none, if◌then◌else◌, Option, Some, None, List, [], ◌∷◌, ◌++◌, length, map, filter, set, take, drop, get_or, slice_get, refl, sym, ◌∙◌, ap, subst, arith}
use Rattle.std.specs.List.{AllByRecursion}
use Rattle.std.specs.Option.{option_map_or}
use Rattle.std.proofs.lemmas.List.{map-append, length-map, take_more, take_all}
use Rattle.std.proofs.lemmas.List.Elements.{filter-append}
use Rattle.std.proofs.lemmas.Option.{slice_get_within, slice_get-get_or}
use Rattle.std.proofs.lemmas.Bool.Decides.{nat_tests}
use Rattle.tc_types.specs.declared.requests.Request.{Request}
use Rattle.tc_types.specs.declared.tables.rows.Approval.{Approval}
use Rattle.tc_types.specs.Tests.{first_refusal}
use Rattle.tc_types.specs.History.{AllAfter}
use Rattle.tc_stack.specs.Approvals.{ApprovalState, IsApproval, approved, refusal_of, unapproved}
use Rattle.tc_stack.proofs.ApprovalLemmas.{unrefused_sound, unapproved_sound}
use Rattle.tc_types.proofs.RideLemmas.{each_appended}
use Rattle.tc_book.specs.Acts.{approval_tests}
use Rattle.tc_book.specs.Approvals.{kept_approval}
use Rattle.tc_book.specs.Book.{approvers_of, approval_of}
use Rattle.tc_book.specs.Good.{IsGoodRequest}
use Rattle.tc_book.specs.GoodApprovals.{AreGoodApprovals, MayBeGiven}
use Rattle.tc_book.specs.Stacks.{came_alone}
use Rattle.tc_book.proofs.ApprovalLemmas.{number_at, kept_given, numbered, all_mapped, all_before, all_set}
use Rattle.tc_book.proofs.StackLemmas.{next_may}

-- ---- a request by its number

-- one that came by itself is there
alone_there : (requests : List Request) (n : ℕ) → came_alone requests n ≡ true → (r : Request) × (0 < n) × (slice_get requests (n - 1) ≡ Some r)
alone_there requests n alone = by_zero (n == 0) refl alone
  where
    by_found : (found : Option Request) → slice_get requests (n - 1) ≡ found → option_map_or (λ (r : Request). is_none r.origin) found false ≡ true → 0 < n → (r : Request) × (0 < n) × (slice_get requests (n - 1) ≡ Some r)
    by_found None is there some = cc
    by_found (Some r) is there some = (r, some, is)

    by_zero : (t : Bool) → (n == 0) ≡ t → option_map_or (λ (r : Request). is_none r.origin) (if t then None else slice_get requests (n - 1)) false ≡ true → (r : Request) × (0 < n) × (slice_get requests (n - 1) ≡ Some r)
    by_zero true is there = cc
    by_zero false is there = by_found (slice_get requests (n - 1)) refl there (grind (arith, nat_tests, is))

each_there : {X : Type 0} (P : X → Type 0) (xs : List X) (j : ℕ) (x : X) → AllByRecursion P xs → slice_get xs j ≡ Some x → P x
each_there P [] j x all is = cc
each_there P (y ∷ xs) zero x all is = let same : y ≡ x = cc in subst P same all.0
each_there P (y ∷ xs) (suc j) x all is = each_there P xs j x all.1 is

each_at : {X : Type 0} (P : X → Type 0) (xs : List X) (j : ℕ) (x : X) → AllByRecursion P xs → j < length xs → x ≡ get_or xs j x → P x
each_at P [] j x all within is = absurd (omega (arith, within))
each_at P (y ∷ xs) zero x all within is = subst P (sym is) all.0
each_at P (y ∷ xs) (suc j) x all within is = each_at P xs j x all.1 (omega (arith, within)) is

mapped_at : {X Y : Type 0} (f : X → Y) (xs : List X) (j : ℕ) (x : X) → slice_get xs j ≡ Some x → slice_get (map f xs) j ≡ Some (f x)
mapped_at f [] j x is = cc
mapped_at f (y ∷ xs) zero x is = let same : y ≡ x = cc in ap (λ z. Some (f z)) same
mapped_at f (y ∷ xs) (suc j) x is = mapped_at f xs j x is

same_default : {X : Type 0} (xs : List X) (j : ℕ) (d e : X) → j < length xs → get_or xs j d ≡ get_or xs j e
same_default [] j d e within = absurd (omega (arith, within))
same_default (x ∷ xs) zero d e within = refl
same_default (x ∷ xs) (suc j) d e within = same_default xs j d e (omega (arith, within))

parted : {X : Type 0} (xs : List X) (k : ℕ) (x : X) → k < length xs → x ≡ get_or xs k x → xs ≡ take k xs ++ x ∷ drop (suc k) xs
parted [] k x within is = absurd (omega (arith, within))
parted (y ∷ xs) zero x within is = ap (λ z. z ∷ xs) (sym is)
parted (y ∷ xs) (suc k) x within is = ap (λ l. y ∷ l) (parted xs k x (omega (arith, within)) is)

-- ---- one approval more

front_more : (approvals : List Approval) (k : ℕ) (a : Approval) → k < length approvals → a ≡ get_or approvals k a → take (k + 1) approvals ≡ take k approvals ++ a ∷ []
front_more approvals k a within is = take_more approvals k a within ∙ ap (λ (x : Approval). take k approvals ++ x ∷ []) (sym is)

-- what is kept of each request
pub kept_more : (requests : List Request) (approvals : List Approval) (k : ℕ) (a : Approval) (kept new : List ApprovalState) → AllAfter IsGoodRequest [] requests → k < length approvals → a ≡ get_or approvals k a
    → kept ≡ map (approval_of (take k approvals)) requests → MayBeGiven requests kept a
    → ((s : ApprovalState) → new ≡ set kept (a.request - 1) (approved a.person (get_or kept (a.request - 1) s))) → new ≡ map (approval_of (take (k + 1) approvals)) requests
kept_more requests approvals k a kept new good within is kept_is may new_is =
    let there = alone_there requests a.request may.0 in
    let some = there.1 in
    let low = slice_get_within requests (a.request - 1) there.0 there.2 in
    new_is (unapproved [] false)
    ∙ ap (λ l. set l (a.request - 1) (approved a.person (get_or l (a.request - 1) (unapproved [] false)))) kept_is
    ∙ kept_given (take k approvals) a.request a.person 1 (a.request - 1) (unapproved [] false) requests (numbered [] requests good) (omega (arith, some)) low
    ∙ ap (λ l. map (approval_of l) requests) (sym (front_more approvals k a within is))

-- an approval that no test refuses, by what is kept
pub may_kept : (kept : List ApprovalState) (n : ℕ) (person : List ℕ) (s : ApprovalState) → 0 < n → n ≤ length kept → first_refusal (approval_tests person (kept_approval kept n)) ≡ None → refusal_of person (get_or kept (n - 1) s) ≡ None
may_kept kept n person s some low may = by_zero (n == 0) refl may
  where
    by_zero : (t : Bool) → (n == 0) ≡ t → first_refusal (approval_tests person (if t then None else slice_get kept (n - 1))) ≡ None → refusal_of person (get_or kept (n - 1) s) ≡ None
    by_zero true is may = absurd (grind (arith, nat_tests, is, some))
    by_zero false is may = subst (λ found. first_refusal (approval_tests person found) ≡ None) (slice_get-get_or kept (n - 1) s (omega (arith, some, low))) may

pub may_within : (requests : List Request) (kept : List ApprovalState) (a : Approval) → length kept ≡ length requests → MayBeGiven requests kept a → (0 < a.request) × (a.request ≤ length kept)
may_within requests kept a long may =
    let there = alone_there requests a.request may.0 in
    let some = there.1 in
    let low = slice_get_within requests (a.request - 1) there.0 there.2 in
    (some, omega (arith, some, low, long))

pub good_more : (requests : List Request) (approvals : List Approval) (k : ℕ) (a : Approval) (kept : List ApprovalState) → AllAfter IsGoodRequest [] requests → k < length approvals → a ≡ get_or approvals k a
    → kept ≡ map (approval_of (take k approvals)) requests → MayBeGiven requests kept a → AreGoodApprovals requests (take k approvals) → AreGoodApprovals requests (take (k + 1) approvals)
good_more requests approvals k a kept good within is kept_is may before =
    subst (AreGoodApprovals requests) (sym (front_more approvals k a within is)) (record {
      named = each_appended (λ (x : Approval). x.request ≤ length requests) (take k approvals) a before.named (omega (arith, inside.1, long));
      alone = each_appended (λ (x : Approval). came_alone requests x.request ≡ true) (take k approvals) a before.alone may.0;
      approved = subst (λ l. AllByRecursion (λ r. IsApproval (approval_of l r)) requests) (front_more approvals k a within is) (all_before IsApproval (approval_of (take (k + 1) approvals)) requests (subst (AllByRecursion IsApproval) made sound));
    })
  where
    nobody : ApprovalState
    nobody = unapproved [] false

    long : length kept ≡ length requests
    long = ap length kept_is ∙ length-map requests (approval_of (take k approvals))

    inside : (0 < a.request) × (a.request ≤ length kept)
    inside = may_within requests kept a long may

    made : set kept (a.request - 1) (approved a.person (get_or kept (a.request - 1) nobody)) ≡ map (approval_of (take (k + 1) approvals)) requests
    made = kept_more requests approvals k a kept (set kept (a.request - 1) (approved a.person (get_or kept (a.request - 1) nobody))) good within is kept_is may given
      where
        given : (s : ApprovalState) → set kept (a.request - 1) (approved a.person (get_or kept (a.request - 1) nobody)) ≡ set kept (a.request - 1) (approved a.person (get_or kept (a.request - 1) s))
        given s = ap (λ (x : ApprovalState). set kept (a.request - 1) (approved a.person x)) (same_default kept (a.request - 1) nobody s (let some = inside.0 in let low = inside.1 in omega (arith, some, low)))

    sound : AllByRecursion IsApproval (set kept (a.request - 1) (approved a.person (get_or kept (a.request - 1) nobody)))
    sound =
        all_set IsApproval kept (a.request - 1) nobody (approved a.person (get_or kept (a.request - 1) nobody)) (subst (AllByRecursion IsApproval) (sym kept_is) (all_mapped IsApproval (approval_of (take k approvals)) requests before.approved))
        (λ so. unrefused_sound (get_or kept (a.request - 1) nobody) a.person so (may_kept kept a.request a.person nobody inside.0 inside.1 may.1)) (let some = inside.0 in let low = inside.1 in omega (arith, some, low))

-- ---- approvals that a desk could have written

approvers_parted : (approvals : List Approval) (k : ℕ) (a : Approval) (n : ℕ) → k < length approvals → a ≡ get_or approvals k a → (a.request == n) ≡ true
    → approvers_of approvals n ≡ approvers_of (take k approvals) n ++ a.person ∷ approvers_of (drop (suc k) approvals) n
approvers_parted approvals k a n within is same =
    ap (λ l. approvers_of l n) (parted approvals k a within is)
    ∙ ap (map (λ (x : Approval). x.person)) (filter-append (λ (x : Approval). x.request == n) (take k approvals) (a ∷ drop (suc k) approvals))
    ∙ map-append (λ (x : Approval). x.person) (filter (λ (x : Approval). x.request == n) (take k approvals)) (filter (λ (x : Approval). x.request == n) (a ∷ drop (suc k) approvals))
    ∙ ap (λ l. approvers_of (take k approvals) n ++ map (λ (x : Approval). x.person) l) first
  where
    first : filter (λ (x : Approval). x.request == n) (a ∷ drop (suc k) approvals) ≡ a ∷ filter (λ (x : Approval). x.request == n) (drop (suc k) approvals)
    first = rw same refl

-- each was one that no test refused
pub given_at : (requests : List Request) (approvals : List Approval) (k : ℕ) (a : Approval) (kept : List ApprovalState) → AllAfter IsGoodRequest [] requests → AreGoodApprovals requests approvals → k < length approvals → a ≡ get_or approvals k a
    → kept ≡ map (approval_of (take k approvals)) requests → MayBeGiven requests kept a
given_at requests approvals k a kept good are within is kept_is =
    (alone, subst (λ l. first_refusal (approval_tests a.person (kept_approval l a.request)) ≡ None) (sym kept_is) (by_zero (a.request == 0) refl))
  where
    alone : came_alone requests a.request ≡ true
    alone = each_at (λ (x : Approval). came_alone requests x.request ≡ true) approvals k a are.alone within is

    there : (r : Request) × (0 < a.request) × (slice_get requests (a.request - 1) ≡ Some r)
    there = alone_there requests a.request alone

    number : there.0.number ≡ a.request
    number = let at = number_at 1 (a.request - 1) requests there.0 (numbered [] requests good) there.2 in let some = there.1 in omega (arith, at, some)

    sound : IsApproval (approval_of approvals there.0)
    sound = each_there (λ r. IsApproval (approval_of approvals r)) requests (a.request - 1) there.0 are.approved there.2

    same : (a.request == there.0.number) ≡ true
    same = grind (arith, nat_tests, number)

    free : refusal_of a.person (approval_of (take k approvals) there.0) ≡ None
    free = next_may there.0.author there.0.critical (approvers_of (take k approvals) there.0.number) a.person (approvers_of (drop (suc k) approvals) there.0.number)
        (subst (λ l. IsApproval (let s : ApprovalState = record { author = there.0.author; critical = there.0.critical; persons = l } in s)) (approvers_parted approvals k a there.0.number within is same) sound)

    found : slice_get (map (approval_of (take k approvals)) requests) (a.request - 1) ≡ Some (approval_of (take k approvals) there.0)
    found = mapped_at (approval_of (take k approvals)) requests (a.request - 1) there.0 there.2

    by_zero : (t : Bool) → (a.request == 0) ≡ t → first_refusal (approval_tests a.person (if t then None else slice_get (map (approval_of (take k approvals)) requests) (a.request - 1))) ≡ None
    by_zero true e = refl
    by_zero false e = rw found free

-- nobody approved
pub none_given : (requests : List Request) → AreGoodApprovals requests []
none_given requests = record { named = tt; alone = tt; approved = each_unapproved requests }
  where
    each_unapproved : (rs : List Request) → AllByRecursion (λ r. IsApproval (approval_of [] r)) rs
    each_unapproved [] = tt
    each_unapproved (r ∷ rs) = (unapproved_sound r.author r.critical, each_unapproved rs)

-- all were given
pub all_given : (requests : List Request) (approvals : List Approval) (k : ℕ) (kept : List ApprovalState) → length approvals ≤ k → kept ≡ map (approval_of (take k approvals)) requests → AreGoodApprovals requests (take k approvals)
    → (kept ≡ map (approval_of approvals) requests) × AreGoodApprovals requests approvals
all_given requests approvals k kept all is are = (is ∙ ap (λ l. map (approval_of l) requests) (take_all k approvals all), subst (AreGoodApprovals requests) (take_all k approvals all) are)
