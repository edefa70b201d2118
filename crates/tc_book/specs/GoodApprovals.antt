-- Approvals that a desk could have written, beside requests of which each may follow those before it.
use Rattle.std.specs.Prelude.{◌≡◌, ◌≤◌, true, IfSome, Option, None, List, [], length}
use Rattle.std.specs.List.{AllByRecursion}
use Rattle.tc_types.specs.declared.tables.rows.Approval.{Approval}
use Rattle.tc_types.specs.declared.tables.rows.StackApproval.{StackApproval}
use Rattle.tc_types.specs.declared.requests.Request.{Request}
use Rattle.tc_stack.specs.Approvals.{ApprovalState, IsApproval}
use Rattle.tc_book.specs.declared.reopening.complete.Asked.{Asked}
use Rattle.tc_book.specs.Acts.{first_refusal, approval_tests}
use Rattle.tc_book.specs.Approvals.{kept_approval}
use Rattle.tc_book.specs.Book.{approval_of}
use Rattle.tc_book.specs.Known.{approved_book}
use Rattle.tc_book.specs.Stacks.{came_alone, has_stack, stack_approval_at, is_stack_approved}

-- each is of a request that came by itself, and the approval of each request is as it can be
pub record AreGoodApprovals (requests : List Request) (approvals : List Approval) : Type 0 where
  pub named : AllByRecursion (λ (a : Approval). a.request ≤ length requests) approvals
  pub alone : AllByRecursion (λ (a : Approval). came_alone requests a.request ≡ true) approvals
  pub approved : AllByRecursion (λ r. IsApproval (approval_of approvals r)) requests

-- this approval may be given, beside what is kept of each request: it is of one that came by itself, and no test refuses it
abbrev pub MayBeGiven : List Request → List ApprovalState → Approval → Type 0
MayBeGiven requests kept a = (came_alone requests a.request ≡ true) × (first_refusal (approval_tests a.person (kept_approval kept a.request)) ≡ None)

-- ---- the same of stacks

-- the approval of each stack that these are of is as it can be
abbrev pub AreStackApprovals : List Request → List StackApproval → Type 0
AreStackApprovals requests approvals = AllByRecursion (λ (a : StackApproval). IfSome (stack_approval_at (approved_book requests [] approvals) a.stack) IsApproval) approvals

-- each is of a stack that was loaded, and the approval of each such stack is as it can be
pub record AreGoodStackApprovals (requests : List Request) (approvals : List StackApproval) : Type 0 where
  pub named : AllByRecursion (λ (a : StackApproval). has_stack a.stack requests ≡ true) approvals
  pub approved : AreStackApprovals requests approvals

-- this approval of a stack may be given behind these: the stack was loaded, and no test refuses it
abbrev pub MayApproveStack : List Request → List StackApproval → StackApproval → Type 0
MayApproveStack requests before a =
    (has_stack a.stack requests ≡ true) × (first_refusal (approval_tests a.person (stack_approval_at (approved_book requests [] before) a.stack)) ≡ None)

-- these approvals are as they can be, and what is kept of the last stack that was asked for is so
pub record KnowsStacks (requests : List Request) (approvals : List StackApproval) (asked : Option Asked) : Type 0 where
  pub approved : AreStackApprovals requests approvals
  pub last : IfSome asked (λ (a : Asked). a.is_approved ≡ is_stack_approved (approved_book requests [] approvals) a.stack)
