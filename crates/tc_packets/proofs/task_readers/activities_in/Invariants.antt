-- So many activities were read, and these octets are left.
use Rattle.tc_packets.proofs.ActivityLemmas.{HasRead}
use Rattle.tc_packets.proofs.task_readers.activities_in.Given as goal

abbrev pub invariant-loop-at : goal.invariant-loop-at
invariant-loop-at l = HasRead l.profile l.octets l.left l.at l.places
