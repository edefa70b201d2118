-- What the check finds. Errors are bits that are laid over the bits of octets.
use Rattle.std.specs.Prelude.{◌≡◌, ◌≢◌, ◌↔◌, ℕ, ◌+◌, ◌*◌, ◌%◌, ◌^◌, ◌<◌, ◌≤◌, List, [], ◌∷◌, ◌++◌, length, replicate, bit_xor, ⊤}
use Rattle.tc_octets.specs.Crc.{crc_of}
use Rattle.tc_octets.specs.Bits.{bits_of, pair}

-- one list laid over another of its length
abbrev pub laid : List ℕ → List ℕ → List ℕ
laid [] errors = []
laid (x ∷ xs) [] = x ∷ xs
laid (x ∷ xs) (e ∷ errors) = bit_xor x e ∷ laid xs errors

abbrev pub AllBelow : ℕ → List ℕ → Type 0
AllBelow most [] = ⊤
AllBelow most (x ∷ xs) = (x < most) × AllBelow most xs

-- the number that bits are, the first of them the highest
abbrev pub number_of_bits : List ℕ → ℕ
number_of_bits [] = 0
number_of_bits (bit ∷ bits) = bit * 2 ^ length bits + number_of_bits bits

-- how many of these bits are ones
abbrev pub ones : List ℕ → ℕ
ones [] = 0
ones (bit ∷ bits) = bit + ones bits

-- how many bits of octets these errors turn
abbrev pub wrong_bits : List ℕ → ℕ
wrong_bits errors = ones (bits_of errors)

-- Errors that the CRC finds: a burst that begins and ends within 16 bits; an odd number of wrong bits; two wrong bits within 4,095 octets.
pub data AreFound (errors : List ℕ) : Type 0 where
  in_burst : (before after : ℕ) (inner : List ℕ) → AllBelow 2 inner → length inner ≤ 16 → number_of_bits inner ≢ 0
      → bits_of errors ≡ replicate before 0 ++ inner ++ replicate after 0 → AreFound errors
  odd_bits : wrong_bits errors % 2 ≡ 1 → AreFound errors
  two_bits : length errors ≤ 4095 → wrong_bits errors ≡ 2 → AreFound errors

-- What the check of octets shows: with such errors laid over them they have another, and with two octets after them they have the check 0 exactly if
-- these two are theirs.
pub record Shows (octets : List ℕ) (check : ℕ) : Type 0 where
  pub found : (errors : List ℕ) → length octets ≡ length errors → AreFound errors → crc_of (laid octets errors) ≢ check
  pub whole : (last : ℕ) → last < 2 ^ 16 → (crc_of (octets ++ pair last) ≡ 0) ↔ (last ≡ check)

-- Octets with their CRC after them, and errors that it finds laid over all of that.
pub record IsDamaged (octets : List ℕ) : Type 0 where
  pub inside : List ℕ
  pub errors : List ℕ
  pub long : length (inside ++ pair (crc_of inside)) ≡ length errors
  pub found : AreFound errors
  pub came : octets ≡ laid (inside ++ pair (crc_of inside)) errors
