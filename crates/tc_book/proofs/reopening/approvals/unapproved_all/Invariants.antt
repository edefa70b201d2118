use Rattle.std.proofs.Common.{◌≡◌, ◌≤◌, [], map, take, length, vec_capacity}
use Rattle.tc_book.specs.Book.{approval_of}
use Rattle.tc_book.proofs.reopening.approvals.unapproved_all.Given as goal

abbrev pub invariant-loop-request : goal.invariant-loop-request
invariant-loop-request g l = (l.kept.items ≡ map (approval_of []) (take l.request-index l.requests)) × (length l.requests ≤ vec_capacity l.kept)
