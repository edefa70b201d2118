-- The time's line, and those of the packet.
use Rattle.std.proofs.lemmas.Result.{on_ok_weaker}
use Rattle.tc_decoded.proofs.AddedLemmas.{activity}
use Rattle.tc_decoded.proofs.inserts.tell_activity.Goals as goal

pub returns : goal.returns
returns g c =
    on_ok_weaker c.tell_activity_packet.result
    (λ second. activity c.args.place.now c.later.result c.args.word c.telecommand_word-inner.result c.args.profile.now c.args.octets.now
    c.octets_within-packet.result.now c.time_octets-time.result c.activity_length.result c.args.out.now.items c.tell_time.new.out.items
    c.tell_activity_packet.new.out.items
    c.time_octets-time.ensures c.activity_length.ensures.value c.octets_within-packet.ensures c.later.ensures
    c.telecommand_word-inner.ensures c.in_ok-tell_time.ensures second)
    c.tell_activity_packet.ensures
