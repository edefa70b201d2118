use Rattle.std.proofs.Common.{◌≡◌, ◌+◌, length, take}
use Rattle.tc_book.specs.Loads.{with_rows}
use Rattle.tc_book.specs.Records.{KeepsRoom}
use Rattle.tc_book.specs.Steps.{HasSteps}
use Rattle.tc_book.proofs.acts.load.enter_rows.Given as goal

-- the rows so far are entered, and there is room for the others
abbrev pub invariant-loop-at : goal.invariant-loop-at
invariant-loop-at g l =
    (l.records.book ≡ with_rows l.stamp l.name (length l.fn.records.book.requests + 1) 1 l.fn.records.book (take l.at l.rows))
    × KeepsRoom l.fn.records l.records
    × HasSteps l.stamp l.fn.records.book l.records.book
