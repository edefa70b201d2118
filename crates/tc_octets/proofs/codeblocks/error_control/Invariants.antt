use Rattle.std.proofs.Common.{◌≡◌, ◌<◌, ◌^◌, take}
use Rattle.tc_octets.specs.Bits.{bits_of}
use Rattle.tc_octets.specs.Codeblocks.{bch_from}
use Rattle.tc_octets.proofs.codeblocks.error_control.Given as goal

abbrev pub invariant-loop-octet : goal.invariant-loop-octet
invariant-loop-octet l = record {
  folded : l.register ≡ bch_from 0 (bits_of (take l.octet-index l.information));
  small : l.register < 2 ^ 7;
}
