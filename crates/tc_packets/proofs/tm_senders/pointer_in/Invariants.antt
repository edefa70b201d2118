use Rattle.std.proofs.Common.{◌≡◌, drop}
use Rattle.tc_packets.specs.Carriers.{pointer_in}
use Rattle.tc_packets.proofs.tm_senders.pointer_in.Given as goal

-- none of the places so far lies in the data field
abbrev pub invariant-loop-place : goal.invariant-loop-place
invariant-loop-place l = pointer_in l.begin l.size l.places ≡ pointer_in l.begin l.size (drop l.place-index l.places)
