-- The first of them are in their ranges.
use Rattle.std.proofs.Common.{take}
use Rattle.std.specs.List.{AllByRecursion}
use Rattle.tc_wall.specs.Ranges.{IsUrgentInRange}
use Rattle.tc_wall.proofs.ranges.keep_urgents.Given as goal

abbrev pub invariant-loop-row : goal.invariant-loop-row
invariant-loop-row l = AllByRecursion IsUrgentInRange (take l.row-index l.rows)
