use Rattle.std.proofs.Common.{take}
use Rattle.std.specs.List.{AllByRecursion}
use Rattle.tc_types.specs.Grammar.{IsRide}
use Rattle.tc_types.proofs.rides.keep_ranges.Given as goal

-- those that were read are in their ranges
abbrev pub invariant-loop-ride : goal.invariant-loop-ride
invariant-loop-ride l = AllByRecursion IsRide (take l.ride-index l.rides)
