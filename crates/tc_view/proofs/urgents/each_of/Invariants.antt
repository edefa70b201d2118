-- The rows of the first of them are there.
use Rattle.std.proofs.Common.{◌≡◌, map, take}
use Rattle.tc_view.specs.Urgents.{row_of}
use Rattle.tc_view.proofs.urgents.each_of.Given as goal

abbrev pub invariant-loop-line : goal.invariant-loop-line
invariant-loop-line g l = l.rows.items ≡ map (row_of l.records.book) (take l.line-index l.lines)
