use Rattle.std.proofs.Common.{◌≡◌}
use Rattle.std.specs.List.{fold}
use Rattle.tc_octets.specs.Bits.{bits}
use Rattle.tc_octets.specs.Crc.{crc_step}
use Rattle.tc_octets.proofs.crcs.with_octet.Given as goal

-- the bits that are left lead from the register of now to that of the end
abbrev pub invariant-loop-place : goal.invariant-loop-place
invariant-loop-place l = fold crc_step l.register (bits 8 l.octet) ≡ fold crc_step l.after (bits l.place l.octet)
