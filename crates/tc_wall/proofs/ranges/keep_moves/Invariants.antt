-- The first of them are in their ranges.
use Rattle.std.proofs.Common.{take}
use Rattle.std.specs.List.{AllByRecursion}
use Rattle.tc_wall.specs.Ranges.{IsMoveInRange}
use Rattle.tc_wall.proofs.ranges.keep_moves.Given as goal

abbrev pub invariant-loop-row : goal.invariant-loop-row
invariant-loop-row l = AllByRecursion IsMoveInRange (take l.row-index l.rows)
