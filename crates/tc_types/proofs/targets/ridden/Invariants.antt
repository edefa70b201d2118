use Rattle.std.proofs.Common.{◌≡◌, take, map, length}
use Rattle.tc_types.specs.Schedule.{ridden}
use Rattle.tc_types.proofs.targets.ridden.Given as goal

abbrev pub invariant-loop-at : goal.invariant-loop-at
invariant-loop-at l = (take l.at l.places ≡ map ridden (take l.at l.rides)) × (length l.places ≡ 8)
