-- What was told so far, and where the receiver is.
use Rattle.std.proofs.Common.{◌≡◌}
use Rattle.tc_decoded.specs.CltuLines.{mode_of}
use Rattle.tc_decoded.proofs.CltuAddedLemmas.{Streamed}
use Rattle.tc_decoded.proofs.cltus.tell_stream.Given as goal

abbrev pub invariant-loop-at : goal.invariant-loop-at
invariant-loop-at g l = (l.reader.mode ≡ mode_of l.profile) × Streamed l.profile l.octets l.reader.last.place l.at l.fn.out.items l.out.items
