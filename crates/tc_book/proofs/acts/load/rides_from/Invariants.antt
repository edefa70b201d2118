use Rattle.std.proofs.Common.{◌≡◌, length, map, take}
use Rattle.tc_book.specs.Loads.{ride_from}
use Rattle.tc_book.proofs.acts.load.rides_from.Given as goal

-- those so far
abbrev pub invariant-loop-at : goal.invariant-loop-at
invariant-loop-at l = (take l.at l.places ≡ map (ride_from l.start) (take l.at l.ride-items)) × (length l.places ≡ 8)
