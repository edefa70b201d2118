-- Each of those who approved may approve after those before.
use Rattle.std.proofs.Common.{◌+◌, ◌≡◌, ◌++◌, ◌∷◌, List, ℕ, Bool, true, false, if◌then◌else◌, [], take, drop, refl, sym, ◌∙◌, ap, subst}
use Rattle.std.proofs.lemmas.List.{append-nil}
use Rattle.tc_types.specs.Names.{is_same_name}
use Rattle.tc_stack.specs.Approvals.{ApprovalState, IsApproval, approved}
use Rattle.tc_book.specs.Stacks.{stack_approvers_of}
use Rattle.tc_book.proofs.StackLemmas.{next_may, approvers_next, approvers_split}
use Rattle.tc_book.proofs.stacks.approval_of_stack.Goals as goal

-- an approval by these persons
abbrev by_persons : List ℕ → Bool → List (List ℕ) → ApprovalState
by_persons author critical persons = record { author = author; critical = critical; persons = persons }

pub add_given-requires : goal.add_given-requires
add_given-requires c = λ same.
    rw (c.loop-approval.invariant)
    (next_may c.args.author c.args.critical (stack_approvers_of (take c.loop-approval.approval-index c.args.approvals.now) c.args.name.now) c.approval-item.result.person
    (stack_approvers_of (drop (c.loop-approval.approval-index + 1) c.args.approvals.now) c.args.name.now)
    (subst (λ persons. IsApproval (by_persons c.args.author c.args.critical persons))
    (approvers_split c.args.approvals.now c.loop-approval.approval-index c.approval-item.result c.args.name.now c.loop-approval-test.true c.approval-item.is same) c.requires))

-- one more, or none
with_one : (author : List ℕ) (critical : Bool) (persons : List (List ℕ)) (person : List ℕ) (t : Bool)
    → (if t then approved person (by_persons author critical persons) else by_persons author critical persons) ≡ by_persons author critical (persons ++ (if t then person ∷ [] else []))
with_one author critical persons person true = refl
with_one author critical persons person false = ap (by_persons author critical) (sym (append-nil persons))

pub loop-approval-preserved : goal.loop-approval-preserved
loop-approval-preserved c =
    c.add_given.ensures
    ∙ ap (λ (s : ApprovalState). if is_same_name c.approval-item.result.stack c.args.name.now then approved c.approval-item.result.person s else s) c.loop-approval.invariant
    ∙ with_one c.args.author c.args.critical (stack_approvers_of (take c.loop-approval.approval-index c.args.approvals.now) c.args.name.now) c.approval-item.result.person (is_same_name c.approval-item.result.stack c.args.name.now)
    ∙ ap (by_persons c.args.author c.args.critical) (sym (approvers_next c.args.approvals.now c.loop-approval.approval-index c.approval-item.result c.args.name.now c.loop-approval-test.true c.approval-item.is))
