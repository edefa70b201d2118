-- The first of them are in their ranges.
use Rattle.std.proofs.Common.{take}
use Rattle.std.specs.List.{AllByRecursion}
use Rattle.tc_wall.specs.Ranges.{IsActivityInRange}
use Rattle.tc_wall.proofs.ranges.keep_activities.Given as goal

abbrev pub invariant-loop-it : goal.invariant-loop-it
invariant-loop-it l = AllByRecursion IsActivityInRange (take l.it-index l.activities)
