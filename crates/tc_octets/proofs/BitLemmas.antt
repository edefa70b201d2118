-- Registers over bits: one bit more, one octet more.
use Rattle.std.proofs.Common.{◌≡◌, ℕ, ◌+◌, ◌/◌, ◌%◌, ◌^◌, ◌<◌, List, [], ◌∷◌, ◌++◌, take, length, get_or, refl, ap, ◌∙◌, add-one}
use Rattle.std.specs.Prelude.{bit_xor}
use Rattle.std.specs.List.{fold}
use Rattle.std.proofs.lemmas.Nat.{xor_lt}
use Rattle.std.proofs.lemmas.List.{take_more, append-nil}
use Rattle.std.proofs.lemmas.List.Sums.{fold-append}
use Rattle.std.proofs.lemmas.List.Concat.{flat_map-append}
use Rattle.tc_octets.specs.Bits.{bits, bits_of, octet_bits}

pub xor_of_7 : (a b : ℕ) → a < 2 ^ 7 → b < 2 ^ 7 → bit_xor a b < 2 ^ 7
xor_of_7 a b h k = xor_lt 7 a b h k

-- a register that has taken the bits above this place takes the next one
pub bit_folded : (step : ℕ → ℕ → ℕ) (register place octet : ℕ)
    → fold step register (bits (place + 1) octet) ≡ fold step (step register (octet / 2 ^ place % 2)) (bits place octet)
bit_folded step register place octet = ap (λ n. fold step register (bits n octet)) (add-one place)

pub no_bits_folded : (step : ℕ → ℕ → ℕ) (register octet : ℕ) → fold step register (bits 0 octet) ≡ register
no_bits_folded step register octet = refl

-- a register that has taken the octets before this one takes it, too
pub octet_folded : (step : ℕ → ℕ → ℕ) (register : ℕ) (octets : List ℕ) (i : ℕ) → i < length octets
    → fold step register (bits_of (take (i + 1) octets)) ≡ fold step (fold step register (bits_of (take i octets))) (octet_bits (get_or octets i 0))
octet_folded step register octets i h =
    ap (λ l. fold step register (bits_of l)) (take_more octets i 0 h)
    ∙ ap (λ l. fold step register l) (flat_map-append octet_bits (take i octets) (get_or octets i 0 ∷ []))
    ∙ fold-append step register (bits_of (take i octets)) (octet_bits (get_or octets i 0) ++ [])
    ∙ ap (λ l. fold step (fold step register (bits_of (take i octets))) l) (append-nil (octet_bits (get_or octets i 0)))
