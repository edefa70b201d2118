-- Octets with their CRC behind them have the CRC 0, and with no other check.
use Rattle.std.proofs.Common.{◌≡◌, ℕ, zero, suc, ◌+◌, ◌-◌, ◌*◌, ◌/◌, ◌%◌, ◌^◌, ◌<◌, ◌≤◌, List, [], ◌∷◌, ◌++◌, length, refl, sym, ap, ◌∙◌, subst, inl}
use Rattle.std.specs.Prelude.{◌≢◌, ◌↔◌}
use Rattle.std.proofs.Common.{inr, arith, one-add, zero-add, zero-mul, one-mul, pow-suc, add-mul, add_assoc, mul_assoc, mul-one}
use Rattle.std.proofs.Common.{mul-lt-mul_of_pos_right}
use Rattle.std.proofs.lemmas.Nat.{mod-pow-add, pow-add, pow_pos}
use Rattle.std.proofs.lemmas.List.{append-nil, length-append}
use Rattle.std.proofs.lemmas.List.Concat.{flat_map-append}
use Rattle.std.proofs.lemmas.List.Sums.{fold-append}
use Rattle.tc_octets.specs.Bits.{bits, bits_of, octet_bits, pair}
use Rattle.tc_octets.specs.Crc.{crc_from, crc_of, crc_step}
use Rattle.tc_octets.specs.CrcLaws.{AllBelow, IsDamaged, Shows, number_of_bits}
use Rattle.tc_octets.proofs.CrcLawLemmas.{errors_found, from_small, reads_zero, step_tells}
use Rattle.tc_octets.proofs.RegisterLemmas.{all_length, all_small}

-- ---- bits as numbers

bits_length : (n number : ℕ) → length (bits n number) ≡ n
bits_length zero number = refl
bits_length (suc n) number = ap suc (bits_length n number)

number_of : (n number : ℕ) → number_of_bits (bits n number) ≡ number % 2 ^ n
number_of zero number = let one : number % 2 ^ 0 ≡ 0 = omega arith in sym one
number_of (suc n) number =
    ap (λ m. number / 2 ^ n % 2 * 2 ^ m + number_of_bits (bits n number)) (bits_length n number)
    ∙ ap (λ m. number / 2 ^ n % 2 * 2 ^ n + m) (number_of n number)
    ∙ sym (mod-pow-add number 1 n)
    ∙ ap (λ m. number % 2 ^ m) (one-add n)

number-append : (xs ys : List ℕ) → number_of_bits (xs ++ ys) ≡ number_of_bits xs * 2 ^ length ys + number_of_bits ys
number-append [] ys = sym (ap (λ n. n + number_of_bits ys) (zero-mul (2 ^ length ys)) ∙ zero-add (number_of_bits ys))
number-append (x ∷ xs) ys =
    let power : 2 ^ length (xs ++ ys) ≡ 2 ^ length xs * 2 ^ length ys = ap (λ n. 2 ^ n) (length-append xs ys) ∙ pow-add 2 (length xs) (length ys) in
    let high : x * 2 ^ length (xs ++ ys) ≡ x * 2 ^ length xs * 2 ^ length ys =
    ap (λ n. x * n) power ∙ sym (mul_assoc x (2 ^ length xs) (2 ^ length ys)) in
    let both = add-mul (x * 2 ^ length xs) (number_of_bits xs) (2 ^ length ys) in
    ap (λ n. n + number_of_bits (xs ++ ys)) high
    ∙ ap (λ n. x * 2 ^ length xs * 2 ^ length ys + n) (number-append xs ys)
    ∙ sym (add_assoc (x * 2 ^ length xs * 2 ^ length ys) (number_of_bits xs * 2 ^ length ys) (number_of_bits ys))
    ∙ ap (λ n. n + number_of_bits ys) (sym both)

number_of_octet : (octet : ℕ) → number_of_bits (octet_bits octet) ≡ octet % 2 ^ 8
unfolding octet_bits
number_of_octet octet = number_of 8 octet

octet_size : (octet : ℕ) → length (octet_bits octet) ≡ 8
unfolding octet_bits
octet_size octet = refl

number_of_pair : (check : ℕ) → check < 2 ^ 16 → number_of_bits (bits_of (pair check)) ≡ check
number_of_pair check small =
    let low = check % 256 in
    let high = check / 256 in
    ap (λ l. number_of_bits (octet_bits high ++ l)) (append-nil (octet_bits low))
    ∙ number-append (octet_bits high) (octet_bits low)
    ∙ ap (λ n. number_of_bits (octet_bits high) * 2 ^ n + number_of_bits (octet_bits low)) (octet_size low)
    ∙ ap (λ n. n * 2 ^ 8 + number_of_bits (octet_bits low)) (number_of_octet high)
    ∙ ap (λ n. high % 2 ^ 8 * 2 ^ 8 + n) (number_of_octet low)
    ∙ (let same : check / 256 % 2 ^ 8 * 2 ^ 8 + check % 256 % 2 ^ 8 ≡ check = omega arith in same)

-- ---- a register that reads itself

one_bit_small : (bit n v : ℕ) → bit < 2 → v < 2 ^ n → bit * 2 ^ n + v < 2 ^ suc n
one_bit_small zero n v h k = let power = pow-suc 2 n in let none = zero-mul (2 ^ n) in omega arith
one_bit_small (suc zero) n v h k = let power = pow-suc 2 n in let one = one-mul (2 ^ n) in omega arith
one_bit_small (suc (suc bit)) n v h k = absurd (omega arith)

number_small : (bits : List ℕ) → AllBelow 2 bits → number_of_bits bits < 2 ^ length bits
number_small [] all = omega arith
number_small (bit ∷ bits) all = one_bit_small bit (length bits) (number_of_bits bits) all.0 (number_small bits all.1)

top_and_rest : (register bit low : ℕ) → bit < 2 → low < 2 ^ 15 → register ≡ bit * 2 ^ 15 + low
    → (register / 2 ^ 15 ≡ bit) × (register * 2 % 2 ^ 16 ≡ low * 2)
top_and_rest register bit low h k e = (omega arith, omega arith)

shifted_out : (register bit low : ℕ) → bit < 2 → low < 2 ^ 15 → register ≡ bit * 2 ^ 15 + low → crc_step register bit ≡ low * 2
shifted_out register bit low h k e =
    let parts = top_and_rest register bit low h k e in
    elim (step_tells register bit) [
      | inl t ↦ t.1 ∙ parts.1
      | inr t ↦ absurd (t.0 parts.0)
    ]

power_split : (n k : ℕ) → n + k ≡ 15 → 2 ^ n * 2 ^ k ≡ 2 ^ 15
power_split n k e = sym (pow-add 2 n k) ∙ ap (λ m. 2 ^ m) e

product_small : (v n k : ℕ) → n + k ≡ 15 → v < 2 ^ n → v * 2 ^ k < 2 ^ 15
product_small v n k e h = subst (λ (m : ℕ). v * 2 ^ k < m) (power_split n k e) (mul-lt-mul_of_pos_right h (pow_pos k))

reads_itself : (register : ℕ) (bits : List ℕ) → AllBelow 2 bits → length bits ≤ 16 → register ≡ number_of_bits bits * 2 ^ (16 - length bits)
    → crc_from register bits ≡ 0
reads_itself register [] all few e = e
reads_itself register (bit ∷ bits) all few e =
    let n = length bits in
    let k = 16 - suc n in
    let v = number_of_bits bits in
    let sum : n + k ≡ 15 = omega arith in
    let parts : register ≡ bit * 2 ^ 15 + v * 2 ^ k =
    e ∙ add-mul (bit * 2 ^ n) v (2 ^ k) ∙ ap (λ m. m + v * 2 ^ k) (mul_assoc bit (2 ^ n) (2 ^ k) ∙ ap (λ m. bit * m) (power_split n k sum)) in
    let more : suc k ≡ 16 - n = omega arith in
    let twice : v * 2 ^ k * 2 ≡ v * 2 ^ (16 - n) = mul_assoc v (2 ^ k) 2 ∙ ap (λ m. v * m) (sym (pow-suc 2 k)) ∙ ap (λ m. v * 2 ^ m) more in
    reads_itself (crc_step register bit) bits all.1 (omega arith)
    (shifted_out register bit (v * 2 ^ k) all.0 (product_small v n k sum (number_small bits all.1)) parts ∙ twice)

whole_from : (octets : List ℕ) (check : ℕ) → crc_of (octets ++ pair check) ≡ crc_from (crc_of octets) (bits_of (pair check))
whole_from octets check =
    ap (λ l. crc_from 65535 l) (flat_map-append octet_bits octets (pair check)) ∙ fold-append crc_step 65535 (bits_of octets) (bits_of (pair check))

scaled : (check : ℕ) → check < 2 ^ 16 → number_of_bits (bits_of (pair check)) * 2 ^ (16 - length (bits_of (pair check))) ≡ check
scaled check small =
    ap (λ n. number_of_bits (bits_of (pair check)) * 2 ^ (16 - n)) (all_length (pair check))
    ∙ mul-one (number_of_bits (bits_of (pair check)))
    ∙ number_of_pair check small

-- If two octets stand after others, the CRC of the whole is 0 exactly if they are the CRC of the others.
pub whole_zero : (octets : List ℕ) (check : ℕ) → check < 2 ^ 16 → (crc_of (octets ++ pair check) ≡ 0) ↔ (check ≡ crc_of octets)
whole_zero octets check small =
    let behind = bits_of (pair check) in
    let long : length behind ≤ 16 = omega (arith, all_length (pair check)) in (
      λ e. sym (reads_zero (crc_of octets) behind (from_small 65535 (bits_of octets) (omega arith)) (all_small (pair check)) long
          (sym (whole_from octets check) ∙ e)
          ∙ scaled check small),
      λ e. whole_from octets check ∙ reads_itself (crc_of octets) behind (all_small (pair check)) long (sym e ∙ sym (scaled check small)),
    )

pub crc_shows : (octets : List ℕ) (check : ℕ) → check ≡ crc_of octets → Shows octets check
crc_shows octets check e =
    let shows : Shows octets (crc_of octets) =
    record { found = λ errors same are. errors_found octets errors same are; whole = λ last small. whole_zero octets last small } in
    subst (λ (n : ℕ). Shows octets n) (sym e) shows

-- octets that are closed by their CRC have the CRC 0
pub closed_zero : (octets : List ℕ) → crc_of (octets ++ pair (crc_of octets)) ≡ 0
closed_zero octets = (whole_zero octets (crc_of octets) (from_small 65535 (bits_of octets) (omega arith))).1 refl

-- damaged octets do not
pub damage_found : (octets : List ℕ) → IsDamaged octets → crc_of octets ≢ 0
damage_found octets bad e =
    errors_found (bad.inside ++ pair (crc_of bad.inside)) bad.errors bad.long bad.found
    (ap (λ (l : List ℕ). crc_of l) (sym bad.came) ∙ e ∙ sym (closed_zero bad.inside))

-- so they are not closed by their CRC
pub damage_shows : (octets rest : List ℕ) → IsDamaged octets → octets ≡ rest ++ pair (crc_of rest) → ⊥
damage_shows octets rest bad e = damage_found octets bad (ap (λ (l : List ℕ). crc_of l) e ∙ closed_zero rest)
