-- The packets, and then their fill.
use Rattle.std.proofs.Common.{map}
use Rattle.tc_packets.specs.Carriers.{octets_of}
use Rattle.tc_packets.proofs.SenderLemmas.{octets_filled, places_filled}
use Rattle.tc_packets.proofs.tm_senders.join.Goals as goal

pub returns-clause-octets : goal.returns-clause-octets
returns-clause-octets g c =
    octets_filled (map octets_of c.args.packets.now) c.args.size c.put_packets.new.octets.items c.fill.new.octets.items
    c.in_ok-put_packets.ensures.octets c.in_ok-fill.ensures.octets

pub returns-clause-places : goal.returns-clause-places
returns-clause-places g c =
    places_filled (map octets_of c.args.packets.now) c.args.size c.put_packets.new.octets.items c.put_packets.new.places.items c.fill.new.places.items
    c.in_ok-put_packets.ensures.octets c.in_ok-put_packets.ensures.places c.in_ok-fill.ensures.places
