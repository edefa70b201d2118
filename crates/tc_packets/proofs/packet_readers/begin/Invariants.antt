use Rattle.std.proofs.Common.{length, ◌-◌}
use Rattle.tc_packets.proofs.ReceiverLemmas.{Begins}
use Rattle.tc_packets.proofs.packet_readers.begin.Given as goal

-- the packets so far, and those that begin from here on
abbrev pub invariant-loop-at : goal.invariant-loop-at
invariant-loop-at g l = Begins l.octets l.at l.fn.out.items l.out.items

abbrev pub decreases-loop-at : goal.decreases-loop-at
decreases-loop-at g l = length l.octets - l.at
