-- The first of them are in their ranges.
use Rattle.std.proofs.Common.{◌<◌, ◌^◌, take}
use Rattle.std.specs.List.{AllByRecursion}
use Rattle.tc_wall.proofs.ranges.keep_left.Given as goal

abbrev pub invariant-loop-count : goal.invariant-loop-count
invariant-loop-count l = AllByRecursion (λ n. n < 2 ^ 64) (take l.count-index l.left)
