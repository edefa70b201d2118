-- Octets and bits. Octets are numbers below 256; the most significant bit comes first.
use Rattle.std.specs.Prelude.{ℕ, zero, suc, ◌+◌, ◌*◌, ◌/◌, ◌%◌, ◌^◌, List, [], ◌∷◌, slice_index}
use Rattle.std.specs.List.{flat_map}

-- the lowest n bits of a number, the highest of them first
abbrev pub bits : ℕ → ℕ → List ℕ
bits zero number = []
bits (suc n) number = number / 2 ^ n % 2 ∷ bits n number

-- the bits of an octet
unfoldable pub octet_bits : ℕ → List ℕ
octet_bits octet = bits 8 octet

-- the bits of octets
abbrev pub bits_of : List ℕ → List ℕ
bits_of octets = flat_map octet_bits octets

-- a number below 2 ^ 16 as two octets
abbrev pub pair : ℕ → List ℕ
pair number = number / 256 ∷ number % 256 ∷ []

-- the number that two octets are
abbrev pub pair_at : List ℕ → ℕ → ℕ
pair_at octets at = slice_index octets at * 256 + slice_index octets (at + 1)
