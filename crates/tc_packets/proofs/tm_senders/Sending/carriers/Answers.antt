-- Each turn adds its frame.
use Rattle.std.proofs.Common.{ap, ◌∙◌}
use Rattle.tc_octets.specs.TmFrames.{TmParts, tm_frame_of}
use Rattle.tc_packets.specs.Carriers.{carrying}
use Rattle.tc_packets.proofs.SenderLemmas.{frames_more, turn_is}
use Rattle.tc_packets.proofs.tm_senders.Sending.carriers.Goals as goal

pub loop-count-preserved : goal.loop-count-preserved
loop-count-preserved g c =
    frames_more (λ (frame : TmParts). tm_frame_of c.args.self.now.profile.now frame)
    (carrying c.args.self.now.profile.now c.args.self.now.sender c.args.self.now.word c.args.octets.now c.args.places.now)
    c.loop-count.count c.loop-count.frames.items c.push.new.self.items c.in_ok-frame.frame c.loop-count.invariant
    (c.in_ok-frame.ensures
    ∙ ap (λ (frame : TmParts). tm_frame_of c.args.self.now.profile.now frame)
    (turn_is c.args.self.now.profile.now c.args.self.now.sender c.args.self.now.word c.loop-count.count c.pointer_in-pointer.result
    c.data_length-size.result
    c.args.octets.now c.args.places.now c.data_length-size.ensures.value c.pointer_in-pointer.ensures.value))
    c.in_ok-push.ensures.items
