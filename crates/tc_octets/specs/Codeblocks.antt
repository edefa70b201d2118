-- Codeblocks of the BCH code (CCSDS 231.0-B): 7 octets of information, and an octet of 7 parity bits and a filler bit.
use Rattle.std.specs.Prelude.{ℕ, zero, suc, ◌*◌, ◌/◌, ◌%◌, ◌^◌, ◌==◌, if◌then◌else◌, Bool, List, [], ◌∷◌, ◌++◌, take, Option, Some, None}
use Rattle.std.specs.Prelude.{slice_index, slice_set, bit_xor}
use Rattle.std.specs.List.{fold}
use Rattle.tc_octets.specs.Bits.{bits_of}
use Rattle.tc_octets.specs.declared.codeblocks.Mode.{Mode}
use Rattle.tc_octets.specs.declared.codeblocks.Mode.TheVariants.{Detecting, Correcting}

-- One bit goes into the register of 7 bits: it is shifted, and where its top bit and this one differ, the generator x^7 + x^6 + x^2 + 1 without its
-- first term is laid over it.
unfoldable pub bch_step : ℕ → ℕ → ℕ
bch_step register bit = if register / 2 ^ 6 == bit then register * 2 % 2 ^ 7 else bit_xor (register * 2 % 2 ^ 7) 0x45

-- what the register has after these bits
abbrev pub bch_from : ℕ → List ℕ → ℕ
bch_from register bits = fold bch_step register bits

-- the last octet: the remainder with each bit turned, and the filler bit 0
abbrev pub error_control_of : List ℕ → ℕ
error_control_of information = bit_xor (bch_from 0 (bits_of information)) 0x7f * 2

abbrev pub codeblock_of : List ℕ → List ℕ
codeblock_of information = information ++ error_control_of information ∷ []

-- whether 8 octets are a codeblock
unfoldable pub is_codeblock : List ℕ → Bool
is_codeblock block = error_control_of (take 7 block) == slice_index block 7

-- a bit of a block turned, of 64
abbrev pub turned : ℕ → List ℕ → List ℕ
turned place block = slice_set block (place / 8) (bit_xor (slice_index block (place / 8)) (128 / 2 ^ (place % 8)))

-- a codeblock that differs from these octets in one of so many bits
unfoldable pub with_one_turned : ℕ → List ℕ → Option (List ℕ)
with_one_turned zero block = None
with_one_turned (suc place) block = if is_codeblock (turned place block) then Some (turned place block) else with_one_turned place block

-- the codeblock that a decoder takes for the one that was sent
abbrev pub mended_by : Mode → List ℕ → Option (List ℕ)
mended_by Detecting block = None
mended_by Correcting block = with_one_turned 64 block

unfoldable pub sent_of : Mode → List ℕ → Option (List ℕ)
sent_of mode block = if is_codeblock block then Some block else mended_by mode block
