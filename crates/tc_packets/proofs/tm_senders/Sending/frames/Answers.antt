-- There is a packet at least, so the frames are those that the packets and their fill take.
use Rattle.std.proofs.Common.{map, sym, ap, ◌∙◌}
use Rattle.tc_octets.specs.TmFrames.{tm_frame_of}
use Rattle.tc_packets.proofs.SenderLemmas.{frames_there}
use Rattle.tc_packets.proofs.tm_senders.Sending.frames.Goals as goal

pub returns : goal.returns
returns g c =
    c.in_ok-frames.ensures
    ∙ ap (λ l. map (λ frame. tm_frame_of c.args.self.now.profile.now frame) l)
    (frames_there c.args.self.now.profile.now c.args.self.now.sender c.args.self.now.word c.data_length.result c.args.packets.now c.deref.result.now
    c.deref-2.result.now
    (sym c.is_empty.ensures ∙ c.if-is_empty.false) c.data_length.ensures.value (c.deref.ensures.value ∙ c.in_ok-joined.ensures.octets)
    (c.deref-2.ensures.value ∙ c.in_ok-joined.ensures.places))
