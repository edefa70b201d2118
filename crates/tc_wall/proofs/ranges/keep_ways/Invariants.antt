-- The first of them are in their ranges.
use Rattle.std.proofs.Common.{take}
use Rattle.std.specs.List.{AllByRecursion}
use Rattle.tc_wall.specs.Ranges.{IsWayInRange}
use Rattle.tc_wall.proofs.ranges.keep_ways.Given as goal

abbrev pub invariant-loop-way : goal.invariant-loop-way
invariant-loop-way l = AllByRecursion IsWayInRange (take l.way-index l.ways)
