use Rattle.std.proofs.Common.{◌≡◌, take}
use Rattle.tc_book.specs.Stacks.{stack_approvers_of}
use Rattle.tc_book.proofs.stacks.approval_of_stack.Given as goal

-- those who approved so far
abbrev pub invariant-loop-approval : goal.invariant-loop-approval
invariant-loop-approval l =
    l.kept ≡ record { author = l.fn.author; critical = l.critical; persons = stack_approvers_of (take l.approval-index l.approvals) l.name }
