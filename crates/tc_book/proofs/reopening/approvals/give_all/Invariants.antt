use Rattle.std.proofs.Common.{◌≡◌, map, take}
use Rattle.tc_book.specs.Book.{approval_of}
use Rattle.tc_book.specs.GoodApprovals.{AreGoodApprovals}
use Rattle.tc_book.proofs.reopening.approvals.give_all.Given as goal

-- those so far were given, and could have been
abbrev pub invariant-loop-approval : goal.invariant-loop-approval
invariant-loop-approval g l = (l.kept.items ≡ map (approval_of (take l.approval-index l.approvals)) l.requests) × AreGoodApprovals l.requests (take l.approval-index l.approvals)
