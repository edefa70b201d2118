-- The frame has the length of the link's frames.
use Rattle.std.proofs.Common.{arith}
use Rattle.tc_packets.proofs.SenderLemmas.{frame_length}
use Rattle.tc_packets.proofs.tm_senders.Sending.frame.Goals as goal

pub tm_frame-requires : goal.tm_frame-requires
tm_frame-requires g c = record {
  vcid = let fits = c.args.self.now.profile.now.tm.vcid_fits in omega arith;
  master_count = omega (arith, c.plus.ensures);
  channel_count = omega (arith, c.plus-2.ensures);
  status = omega (arith, c.requires.pointer);
  word = c.args.self.now.word_fits;
  long = frame_length c.args.self.now.profile.now c.args.content.now c.requires.content;
}
