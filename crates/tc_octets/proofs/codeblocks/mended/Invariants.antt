use Rattle.std.proofs.Common.{◌≡◌}
use Rattle.tc_octets.specs.Codeblocks.{with_one_turned}
use Rattle.tc_octets.proofs.codeblocks.mended.Given as goal

-- none of the bits from this one on mends the block
abbrev pub invariant-loop-place : goal.invariant-loop-place
invariant-loop-place l = with_one_turned 64 l.block ≡ with_one_turned l.place l.block
