use Rattle.std.proofs.Common.{◌≡◌, List, true, map, take}
use Rattle.std.specs.List.{AllByRecursion}
use Rattle.tc_types.specs.declared.history.causes.Cause.TheVariants as cause
use Rattle.tc_types.specs.declared.history.moves.Move.{Move}
use Rattle.tc_types.specs.declared.tables.rows.Approval.{Approval}
use Rattle.tc_book.specs.Book.{approval_of}
use Rattle.tc_book.specs.GoodApprovals.{KnowsStacks}
use Rattle.tc_book.specs.Known.{approved_book}
use Rattle.tc_book.specs.Stacks.{is_fully_approved}
use Rattle.tc_book.proofs.reopening.complete.are_complete.Given as goal

-- the rows so far have them, and what is known of the last stack is so
abbrev pub invariant-loop-row : goal.invariant-loop-row
invariant-loop-row l =
    ((approvals : List Approval) → l.approved ≡ map (approval_of approvals) l.requests
    → AllByRecursion (λ (m : Move). m.cause ≡ cause.Approve → is_fully_approved (approved_book l.requests approvals l.stack_approvals) m.request ≡ true) (take l.row-index l.moves))
    × KnowsStacks l.requests l.stack_approvals l.last
