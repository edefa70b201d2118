-- The approval of a stack is as it can be.
use Rattle.std.proofs.Common.{sym}
use Rattle.tc_book.proofs.StackLemmas.{approval_found}
use Rattle.tc_book.proofs.reopening.stack_approvals.stack_approval.Goals as goal

pub approval_of_stack-requires : goal.approval_of_stack-requires
approval_of_stack-requires c =
    rw c.has_critical_row-critical.ensures
    (approval_found c.args.requests.now c.args.approvals.now c.args.name.now c.in_ok-first.first.now c.requires (sym c.in_ok-first.ensures))
