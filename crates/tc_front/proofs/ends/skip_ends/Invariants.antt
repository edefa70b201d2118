use Rattle.std.proofs.Common.{◌≡◌, length}
use Rattle.tc_front.specs.Ends.{skip_ends}
use Rattle.tc_front.proofs.ends.skip_ends.Given as goal

-- What is left lacks CR and LF bytes of the front alone.
abbrev pub invariant-loop-byte : goal.invariant-loop-byte
invariant-loop-byte l = skip_ends l.text ≡ skip_ends l.left

abbrev pub decreases-loop-byte : goal.decreases-loop-byte
decreases-loop-byte l = length l.left
