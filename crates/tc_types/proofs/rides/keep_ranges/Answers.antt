use Rattle.std.proofs.Common.{rules}
use Rattle.tc_types.specs.Grammar.{IsRide}
use Rattle.tc_types.proofs.RideLemmas.{each_next}
use Rattle.tc_types.proofs.rides.keep_ranges.Goals as goal

pub loop-ride-preserved : goal.loop-ride-preserved
loop-ride-preserved c = each_next IsRide c.args.rides.now c.loop-ride.ride-index c.ride-item.result c.loop-ride-test.true c.loop-ride.invariant (rw (← c.ride-item.is) (search rules))
