-- The fields, the packet's lines, and what closes the frame.
use Rattle.std.proofs.Common.{List, ◌++◌, ◌∙◌, ap, None}
use Rattle.std.proofs.lemmas.Result.{on_ok_weaker}
use Rattle.tc_decoded.specs.TcFrameLines.{closing_rows}
use Rattle.tc_decoded.specs.declared.rows.Row.{Row}
use Rattle.tc_decoded.proofs.FrameAddedLemmas.{carrier}
use Rattle.tc_decoded.proofs.tc_frames.tell_carrier.Goals as goal

pub returns : goal.returns
returns g c =
    on_ok_weaker c.tell-2.result
    (λ last. carrier c.args.place.now c.later.result c.args.profile.now c.args.octets.now c.octets_within-packet.result.now c.packet_at-begin.result
    c.packet_length.result c.deref.result.now c.deref-2.result.now c.args.out.now.items c.tell.new.out.items c.tell_telecommand.new.out.items
    c.tell-2.new.out.items (c.deref.ensures.value ∙ c.in_ok-rows.ensures) c.packet_at-begin.ensures.value c.packet_length.ensures
    c.octets_within-packet.ensures c.later.ensures
    (c.deref-2.ensures.value ∙ c.in_ok-put_closing.ensures
    ∙ ap (λ (l : List Row). l ++ closing_rows c.args.profile.now None c.args.octets.now) c.new-rows.ensures.items)
    c.in_ok-tell.ensures c.in_ok-tell_telecommand.ensures last)
    c.tell-2.ensures
