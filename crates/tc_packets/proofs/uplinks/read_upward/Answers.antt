-- A reader says of the frame what it says of the packet in it.
use Rattle.tc_packets.proofs.UplinkLemmas.{from_packet}
use Rattle.tc_packets.proofs.uplinks.read_upward.Goals as goal

pub returns-in-Ok-Ad : goal.returns-in-Ok-Ad
returns-in-Ok-Ad c =
    from_packet c.args.profile.now c.args.octets.now c.in-Ok-Ad.packet.now c.in-Ok-Ad.ns c.request_in.result
    (rw c.in-Ok-Ad.field-0-is at c.in-Ok-Ad.ensures.value) c.request_in.ensures
