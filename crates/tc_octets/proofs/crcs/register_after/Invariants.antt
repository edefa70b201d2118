use Rattle.std.proofs.Common.{◌≡◌, take}
use Rattle.tc_octets.specs.Crc.{crc_of}
use Rattle.tc_octets.proofs.crcs.register_after.Given as goal

abbrev pub invariant-loop-octet : goal.invariant-loop-octet
invariant-loop-octet l = l.register ≡ crc_of (take l.octet-index l.octets)
