-- The first of them were looked at.
use Rattle.std.proofs.Common.{take}
use Rattle.tc_view.specs.Gathered.{IsOpenOf}
use Rattle.tc_view.specs.Ways.{open_of}
use Rattle.tc_view.proofs.opens.open_of.Given as goal

abbrev pub invariant-loop-line : goal.invariant-loop-line
invariant-loop-line g l = IsOpenOf (open_of l.records.book (take l.line-index l.lines)) l.found
