use Rattle.std.proofs.Common.{take}
use Rattle.tc_book.specs.GoodApprovals.{AreGoodStackApprovals}
use Rattle.tc_book.proofs.reopening.stack_approvals.are_stacks_approved.Given as goal

abbrev pub invariant-loop-at : goal.invariant-loop-at
invariant-loop-at l = AreGoodStackApprovals l.requests (take l.at l.approvals)
