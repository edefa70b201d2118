-- Those that were looked at fit.
use Rattle.std.proofs.Common.{take}
use Rattle.std.specs.List.{AllByRecursion}
use Rattle.tc_packets.specs.Flights.{FitsActivity}
use Rattle.tc_packets.proofs.flights.fit_activities.Given as goal

abbrev pub invariant-loop-at : goal.invariant-loop-at
invariant-loop-at l = AllByRecursion (FitsActivity l.profile) (take l.at l.activities)
