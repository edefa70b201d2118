-- The approvals of stacks in tables that were left, one after the other.
use Rattle.std.proofs.Common.{◌≡◌, ℕ, zero, suc, ◌+◌, ◌<◌, ◌||◌, Bool, true, false, cond, not, is_some, Option, Some, None, List, [], ◌∷◌, ◌++◌, length, take, drop, get_or, find, refl, sym, ◌∙◌, ap, subst, arith}
use Rattle.std.specs.Prelude.{IfSome}
use Rattle.std.specs.List.{AllByRecursion, list_any}
use Rattle.std.specs.Option.{option_map}
use Rattle.std.proofs.lemmas.List.{take_more}
use Rattle.tc_types.specs.declared.refusals.Refusal.{Refusal}
use Rattle.tc_types.specs.declared.requests.Request.{Request}
use Rattle.tc_types.specs.declared.tables.rows.StackApproval.{StackApproval}
use Rattle.tc_types.specs.Tests.{first_refusal}
use Rattle.tc_stack.specs.Approvals.{ApprovalState, IsApproval, refusal_of}
use Rattle.tc_types.proofs.RideLemmas.{each_appended}
use Rattle.tc_book.specs.Acts.{approval_tests}
use Rattle.tc_book.specs.GoodApprovals.{AreGoodStackApprovals, MayApproveStack}
use Rattle.tc_book.specs.Known.{approved_book}
use Rattle.tc_book.specs.Stacks.{has_critical_row, has_stack, is_in_stack, stack_approval_at, stack_approvers_of}
use Rattle.tc_book.proofs.StackLemmas.{name_itself, stacks_given, approvers_split, next_may}

-- what is found is among them
found_among : {X : Type 0} {Y : Type 0} (test : X → Bool) (f : X → Y) (xs : List X) (y : Y) → option_map f (find test xs) ≡ Some y → list_any test xs ≡ true
found_among test f [] y is = cc
found_among test f (x ∷ xs) y is = by_test (test x) is (λ rest. found_among test f xs y rest)
  where
    by_test : (t : Bool) → option_map f (cond t (Some x) (find test xs)) ≡ Some y → (option_map f (find test xs) ≡ Some y → list_any test xs ≡ true) → (t || list_any test xs) ≡ true
    by_test true is rest = refl
    by_test false is rest = rest is

-- and where nothing is, none is
none_among : {X : Type 0} {Y : Type 0} (test : X → Bool) (f : X → Y) (xs : List X) → option_map f (find test xs) ≡ None → list_any test xs ≡ false
none_among test f [] is = refl
none_among test f (x ∷ xs) is = by_test (test x) is (λ rest. none_among test f xs rest)
  where
    by_test : (t : Bool) → option_map f (cond t (Some x) (find test xs)) ≡ None → (option_map f (find test xs) ≡ None → list_any test xs ≡ false) → (t || list_any test xs) ≡ false
    by_test true is rest = cc
    by_test false is rest = rest is

-- an approval of a stack that was loaded
pub may_found : (requests : List Request) (before : List StackApproval) (a : StackApproval) (s : ApprovalState) (r : Option Refusal) (t : Bool) → stack_approval_at (approved_book requests [] before) a.stack ≡ Some s
    → r ≡ refusal_of a.person s → is_some r ≡ not t → (t ≡ true → MayApproveStack requests before a) × (MayApproveStack requests before a → t ≡ true)
may_found requests before a s r t found is told = (
  λ yes. (found_among (is_in_stack a.stack) _ requests s found, rw found (sym is ∙ by_none r (told ∙ ap not yes))),
  λ may. by_test t (sym (ap is_some (is ∙ (rw found at may.1))) ∙ told),
)
  where
    by_none : (o : Option Refusal) → is_some o ≡ false → o ≡ None
    by_none None e = refl
    by_none (Some w) e = cc

    by_test : (u : Bool) → false ≡ not u → u ≡ true
    by_test true e = refl
    by_test false e = cc

-- of one that was not
pub may_none : (requests : List Request) (before : List StackApproval) (a : StackApproval) → stack_approval_at (approved_book requests [] before) a.stack ≡ None → MayApproveStack requests before a → ⊥
may_none requests before a none may = let out : has_stack a.stack requests ≡ false = none_among (is_in_stack a.stack) _ requests none in let never : false ≡ true = sym out ∙ may.0 in cc

-- one more
pub stack_more : (requests : List Request) (approvals : List StackApproval) (k : ℕ) (a : StackApproval) → k < length approvals → a ≡ get_or approvals k a → MayApproveStack requests (take k approvals) a
    → AreGoodStackApprovals requests (take k approvals) → AreGoodStackApprovals requests (take (k + 1) approvals)
stack_more requests approvals k a within is may before =
    subst (AreGoodStackApprovals requests) (sym (take_more approvals k a within ∙ ap (λ (x : StackApproval). take k approvals ++ x ∷ []) (sym is))) (record {
      named = each_appended (λ (x : StackApproval). has_stack x.stack requests ≡ true) (take k approvals) a before.named may.0;
      approved = stacks_given requests (take k approvals) a.stack a.person may.1 before.approved;
    })

each_at : {X : Type 0} (P : X → Type 0) (xs : List X) (j : ℕ) (x : X) → AllByRecursion P xs → j < length xs → x ≡ get_or xs j x → P x
each_at P [] j x all within is = absurd (omega (arith, within))
each_at P (y ∷ xs) zero x all within is = subst P (sym is) all.0
each_at P (y ∷ xs) (suc j) x all within is = each_at P xs j x all.1 (omega (arith, within)) is

-- each was one that no test refused
pub stack_given_at : (requests : List Request) (approvals : List StackApproval) (k : ℕ) (a : StackApproval) → AreGoodStackApprovals requests approvals → k < length approvals → a ≡ get_or approvals k a
    → MayApproveStack requests (take k approvals) a
stack_given_at requests approvals k a are within is =
    (each_at (λ (x : StackApproval). has_stack x.stack requests ≡ true) approvals k a are.named within is, by_found (find (is_in_stack a.stack) requests) sound)
  where
    told : List (List ℕ) → Request → ApprovalState
    told persons r = record { author = r.author; critical = has_critical_row a.stack requests; persons = persons }

    sound : IfSome (option_map (told (stack_approvers_of approvals a.stack)) (find (is_in_stack a.stack) requests)) IsApproval
    sound = each_at (λ (x : StackApproval). IfSome (stack_approval_at (approved_book requests [] approvals) x.stack) IsApproval) approvals k a are.approved within is

    by_found : (found : Option Request) → IfSome (option_map (told (stack_approvers_of approvals a.stack)) found) IsApproval
        → first_refusal (approval_tests a.person (option_map (told (stack_approvers_of (take k approvals) a.stack)) found)) ≡ None
    by_found None so = refl
    by_found (Some r) so =
        next_may r.author (has_critical_row a.stack requests) (stack_approvers_of (take k approvals) a.stack) a.person (stack_approvers_of (drop (k + 1) approvals) a.stack)
        (subst (λ l. IsApproval (told l r)) (approvers_split approvals k a a.stack within is (name_itself a.stack)) so)

-- none, and all
pub stack_none : (requests : List Request) → AreGoodStackApprovals requests []
stack_none requests = record { named = tt; approved = tt }
