use Rattle.std.proofs.Common.{length}
use Rattle.tc_decoded.proofs.tm_frames.+tell_given.Given as goal

abbrev pub decreases-tell_given : goal.decreases-tell_given
decreases-tell_given g l = length l.items.now
