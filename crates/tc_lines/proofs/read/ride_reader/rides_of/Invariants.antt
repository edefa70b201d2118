use Rattle.std.proofs.Common.{◌-◌}
use Rattle.tc_types.proofs.RideLemmas.{HasRead}
use Rattle.tc_lines.proofs.read.ride_reader.rides_of.Given as goal

abbrev pub invariant-loop-count : goal.invariant-loop-count
invariant-loop-count l = HasRead l.fn.targets l.fn.times l.targets l.times l.count l.places

abbrev pub decreases-loop-count : goal.decreases-loop-count
decreases-loop-count l = 8 - l.count
