use Rattle.std.proofs.Common.{◌≡◌, map, take}
use Rattle.std.specs.List.{concat}
use Rattle.tc_packets.specs.Carriers.{octets_of, starts}
use Rattle.tc_packets.proofs.tm_senders.put_packets.Given as goal

-- the packets so far
abbrev pub invariant-loop-packet : goal.invariant-loop-packet
invariant-loop-packet g l = record {
  octets : l.octets.items ≡ concat (map octets_of (take l.packet-index l.packets));
  places : l.places.items ≡ starts 0 (map octets_of (take l.packet-index l.packets));
}
