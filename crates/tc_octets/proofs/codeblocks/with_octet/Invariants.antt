use Rattle.std.proofs.Common.{◌≡◌, ◌<◌, ◌^◌}
use Rattle.std.specs.List.{fold}
use Rattle.tc_octets.specs.Bits.{bits}
use Rattle.tc_octets.specs.Codeblocks.{bch_step}
use Rattle.tc_octets.proofs.codeblocks.with_octet.Given as goal

abbrev pub invariant-loop-place : goal.invariant-loop-place
invariant-loop-place l = record {
  folded : fold bch_step l.register (bits 8 l.octet) ≡ fold bch_step l.after (bits l.place l.octet);
  small : l.after < 2 ^ 7;
}
