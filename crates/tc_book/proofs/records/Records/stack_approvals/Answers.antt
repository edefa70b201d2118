-- The approval of a stack is as it can be.
use Rattle.std.proofs.Common.{sym}
use Rattle.tc_book.proofs.StackLemmas.{approval_found}
use Rattle.tc_book.proofs.records.Records.stack_approvals.Goals as goal

pub approval_of_stack-requires : goal.approval_of_stack-requires
approval_of_stack-requires g c =
    rw (c.has_critical_row-critical.ensures, c.deref-2.ensures.value, c.deref-3.ensures.value)
    (approval_found c.self.inside.requests.items c.self.inside.stack_approvals.items c.args.name.now c.in_ok-first.first.now c.self.invariant.0.stacks_approved (sym (rw c.deref.ensures.value at c.in_ok-first.ensures)))
