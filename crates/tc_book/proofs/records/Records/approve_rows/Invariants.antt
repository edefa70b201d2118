use Rattle.std.proofs.Common.{◌≡◌, ◌+◌, ◌≤◌, length, take, fold, true}
use Rattle.std.specs.Prelude.{count_by}
use Rattle.tc_book.specs.Acts.{row_approved}
use Rattle.tc_book.specs.Records.{KeepsRoom}
use Rattle.tc_book.specs.Stacks.{is_in_stack, is_stack_approved, numbers_in_stack}
use Rattle.tc_book.proofs.records.Records.approve_rows.Given as goal

-- the rows among the requests so far went to Approved, and nothing else changed
abbrev pub invariant-loop-at : goal.invariant-loop-at
invariant-loop-at g l =
    (l.self.book ≡ fold (row_approved l.stamp) l.fn.self.book (numbers_in_stack l.name (take l.at l.fn.self.book.requests)))
    × (l.self.book.requests ≡ l.fn.self.book.requests)
    × (is_stack_approved l.self.book l.name ≡ true)
    × KeepsRoom l.fn.self l.self
    × (length l.self.book.history ≤ length l.fn.self.book.history + count_by (is_in_stack l.name) (take l.at l.fn.self.book.requests))
