use Rattle.tc_types.proofs.RideLemmas.{reads_lists}
use Rattle.tc_lines.proofs.read.ride_reader.rides.Goals as goal

pub returns : goal.returns
returns c = reads_lists c.args.target.now c.args.time.now c.rides_of.result (rw (← c.new.ensures, ← c.new-2.ensures) c.rides_of.ensures.found) (rw (← c.new.ensures, ← c.new-2.ensures) c.rides_of.ensures.only)
