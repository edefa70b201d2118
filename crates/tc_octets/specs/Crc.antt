-- The cyclic redundancy check CRC-16 of frames (CCSDS 232.0-B, 132.0-B) and packets (ECSS-E-ST-70-41C): x^16 + x^12 + x^5 + 1.
use Rattle.std.specs.Prelude.{ℕ, ◌*◌, ◌/◌, ◌%◌, ◌^◌, ◌==◌, if◌then◌else◌, List, bit_xor}
use Rattle.std.specs.List.{fold}
use Rattle.tc_octets.specs.Bits.{bits_of}

-- One bit goes into the register of 16 bits: it is shifted, and where its top bit and this one differ, the generator without its first term is laid
-- over it.
unfoldable pub crc_step : ℕ → ℕ → ℕ
crc_step register bit = if register / 2 ^ 15 == bit then register * 2 % 2 ^ 16 else bit_xor (register * 2 % 2 ^ 16) 0x1021

-- what the register has after these bits
abbrev pub crc_from : ℕ → List ℕ → ℕ
crc_from register bits = fold crc_step register bits

-- the CRC-16 of octets: the register is preset to ones, and nothing is added at the end
abbrev pub crc_of : List ℕ → ℕ
crc_of octets = crc_from 0xffff (bits_of octets)
