-- The CRC is linear. It finds every burst of up to 16 bits, every odd number of wrong bits, and every two within 32,767 bits.
use Rattle.std.proofs.Common.{◌≡◌, ℕ, zero, suc, ◌+◌, ◌-◌, ◌*◌, ◌/◌, ◌%◌, ◌^◌, ◌<◌, ◌≤◌, Bool, true, false, List, [], ◌∷◌, ◌++◌, length, replicate}
use Rattle.std.proofs.Common.{refl, sym, ap, ◌∙◌, subst, inl, inr, arith, add-zero, add-suc}
use Rattle.std.specs.Prelude.{◌≢◌, ◌⊎◌, ◌==◌, if◌then◌else◌, ◌&&◌, bit_xor}
use Rattle.std.specs.Int.Bits.{xor_assoc, xor_self, xor_zero_l}
use Rattle.std.proofs.Math.Nat.{mul_assoc, add-mul, pow-suc, suc-mul}
use Rattle.std.proofs.lemmas.Nat.{ones_cat, xor_lt, xor_mod, pow-add, pow_pos}
use Rattle.std.proofs.lemmas.Bool.{and_parts, cond-true, cond-false, true≢false}
use Rattle.std.proofs.lemmas.Bool.Decides.{eqb_tells}
use Rattle.std.proofs.lemmas.List.Sums.{fold-append}
use lib.Count.{ones as count_ones}
use Rattle.tc_octets.specs.Bits.{bits_of}
use Rattle.tc_octets.specs.Crc.{crc_step, crc_from, crc_of}
use Rattle.tc_octets.specs.CrcLaws.{AllBelow, AreFound, in_burst, laid, number_of_bits, odd_bits, ones, two_bits}
use Rattle.tc_octets.proofs.RegisterLemmas.{all_laid, all_length, all_small, from_linear, no_ones, parity_kept}

-- what a step gives: the shifted register alone, or with the generator over it
pub step_tells : (register bit : ℕ) → ((register / 2 ^ 15 ≡ bit) × (crc_step register bit ≡ register * 2 % 2 ^ 16))
    ⊎ ((register / 2 ^ 15 ≢ bit) × (crc_step register bit ≡ bit_xor (register * 2 % 2 ^ 16) 4129))
unfolding crc_step
step_tells register bit =
    elim (eqb_tells (register / 2 ^ 15) bit) [
      | inl t ↦ inl (t.1, cond-true (register / 2 ^ 15 == bit) (register * 2 % 2 ^ 16) (bit_xor (register * 2 % 2 ^ 16) 4129) t.0)
      | inr t ↦ inr (t.1, cond-false (register / 2 ^ 15 == bit) (register * 2 % 2 ^ 16) (bit_xor (register * 2 % 2 ^ 16) 4129) t.0)
    ]

step_small : (register bit : ℕ) → crc_step register bit < 2 ^ 16
step_small register bit =
    elim (step_tells register bit) [
      | inl t ↦ (let e = t.1 in omega arith)
      | inr t ↦ subst (λ (n : ℕ). n < 2 ^ 16) (sym t.1) (xor_lt 16 (register * 2 % 2 ^ 16) 4129 (omega arith) (omega arith))
    ]

-- with the generator over it, it is odd
odd_after : (shifted : ℕ) → shifted % 2 ≡ 0 → bit_xor shifted 4129 % 2 ≡ 1
odd_after shifted even = xor_mod shifted 4129 1 ∙ ap (λ n. bit_xor n 1) even

-- what is even came of the shift alone
step_even : (register bit : ℕ) → crc_step register bit % 2 ≡ 0 → (register / 2 ^ 15 ≡ bit) × (crc_step register bit ≡ register * 2 % 2 ^ 16)
step_even register bit even =
    elim (step_tells register bit) [
      | inl t ↦ t
      | inr t ↦ absurd (let odd : bit_xor (register * 2 % 2 ^ 16) 4129 % 2 ≡ 1 = odd_after (register * 2 % 2 ^ 16) (omega arith) in
          let same : crc_step register bit % 2 ≡ bit_xor (register * 2 % 2 ^ 16) 4129 % 2 = ap (λ n. n % 2) t.1 in omega arith)
    ]

sum_up : (register bit low : ℕ) → register < 2 ^ 16 → register / 2 ^ 15 ≡ bit → register * 2 % 2 ^ 16 ≡ low * 2 → register ≡ bit * 2 ^ 15 + low
sum_up register bit low small top shifted = omega arith

shift_in : (register bit value k n : ℕ) → register < 2 ^ 16 → n + k ≡ 15 → register / 2 ^ 15 ≡ bit → register * 2 % 2 ^ 16 ≡ value * 2 ^ suc k
    → register ≡ (bit * 2 ^ n + value) * 2 ^ k
shift_in register bit value k n small e top shifted =
    let power : 2 ^ n * 2 ^ k ≡ 2 ^ 15 = sym (pow-add 2 n k) ∙ ap (λ m. 2 ^ m) e in
    let twice : value * 2 ^ suc k ≡ value * 2 ^ k * 2 = ap (λ m. value * m) (pow-suc 2 k) ∙ sym (mul_assoc value (2 ^ k) 2) in
    let parts : (bit * 2 ^ n + value) * 2 ^ k ≡ bit * 2 ^ 15 + value * 2 ^ k =
    add-mul (bit * 2 ^ n) value (2 ^ k) ∙ ap (λ m. m + value * 2 ^ k) (mul_assoc bit (2 ^ n) (2 ^ k) ∙ ap (λ m. bit * m) power) in
    sum_up register bit (value * 2 ^ k) small top (shifted ∙ twice) ∙ sym parts

even_of : (m n : ℕ) → m ≡ n * 2 → m % 2 ≡ 0
even_of m n e = omega arith

even_shift : (value k : ℕ) → value * 2 ^ suc k % 2 ≡ 0
even_shift value k =
    let twice : value * 2 ^ suc k ≡ value * 2 ^ k * 2 = ap (λ m. value * m) (pow-suc 2 k) ∙ sym (mul_assoc value (2 ^ k) 2) in
    even_of (value * 2 ^ suc k) (value * 2 ^ k) twice

-- A register that bits lead to zero had them at its top.
pub reads_zero : (register : ℕ) (bits : List ℕ) → register < 2 ^ 16 → AllBelow 2 bits → length bits ≤ 16 → crc_from register bits ≡ 0
    → register ≡ number_of_bits bits * 2 ^ (16 - length bits)
reads_zero register [] small all few e = e
reads_zero register (bit ∷ bits) small all few e =
    let next : crc_step register bit ≡ number_of_bits bits * 2 ^ (16 - length bits) =
    reads_zero (crc_step register bit) bits (step_small register bit) all.1 (omega arith) e in
    let more : 16 - length bits ≡ suc (16 - suc (length bits)) = omega arith in
    let there : crc_step register bit ≡ number_of_bits bits * 2 ^ suc (16 - suc (length bits)) = next ∙ ap (λ m. number_of_bits bits * 2 ^ m) more in
    let even : crc_step register bit % 2 ≡ 0 = ap (λ m. m % 2) there ∙ even_shift (number_of_bits bits) (16 - suc (length bits)) in
    let shifted = step_even register bit even in
    shift_in register bit (number_of_bits bits) (16 - suc (length bits)) (length bits) small (omega arith) shifted.0 (sym shifted.1 ∙ there)

-- zeros leave a register of zeros, and no other becomes one
zeros_keep : (count : ℕ) → crc_from 0 (replicate count 0) ≡ 0
unfolding crc_step
zeros_keep zero = refl
zeros_keep (suc count) = zeros_keep count

zero_stays : (register : ℕ) → register < 2 ^ 16 → crc_step register 0 ≡ 0 → register ≡ 0
zero_stays register small e =
    let shifted = step_even register 0 (ap (λ n. n % 2) e) in
    let top = shifted.0 in
    let low : register * 2 % 2 ^ 16 ≡ 0 = sym shifted.1 ∙ e in
    omega arith

others_stay : (register count : ℕ) → register < 2 ^ 16 → register ≢ 0 → crc_from register (replicate count 0) ≢ 0
others_stay register zero small some = some
others_stay register (suc count) small some =
    others_stay (crc_step register 0) count (step_small register 0) (λ e. some (zero_stays register small e))

pub from_small : (register : ℕ) (bits : List ℕ) → register < 2 ^ 16 → crc_from register bits < 2 ^ 16
from_small register [] small = small
from_small register (bit ∷ bits) small = from_small (crc_step register bit) bits (step_small register bit)

no_factor : (m n : ℕ) → 0 < n → m * n ≡ 0 → m ≡ 0
no_factor zero n h e = refl
no_factor (suc m) n h e = absurd (omega (arith, suc-mul m n))

burst_some : (burst : List ℕ) → AllBelow 2 burst → length burst ≤ 16 → number_of_bits burst ≢ 0 → crc_from 0 burst ≢ 0
burst_some burst all few some e =
    let product = reads_zero 0 burst (omega arith) all few e in
    some (no_factor (number_of_bits burst) (2 ^ (16 - length burst)) (pow_pos (16 - length burst)) (sym product))

bursts_found : (before after : ℕ) (burst : List ℕ) → AllBelow 2 burst → length burst ≤ 16 → number_of_bits burst ≢ 0
    → crc_from 0 (replicate before 0 ++ burst ++ replicate after 0) ≢ 0
bursts_found before after burst all few some e =
    let whole : crc_from 0 (replicate before 0 ++ burst ++ replicate after 0) ≡ crc_from (crc_from 0 burst) (replicate after 0) =
    fold-append crc_step 0 (replicate before 0 ++ burst) (replicate after 0)
    ∙ ap (λ r. crc_from r (replicate after 0)) (fold-append crc_step 0 (replicate before 0) burst ∙ ap (λ r. crc_from r burst) (zeros_keep before)) in
    others_stay (crc_from 0 burst) after (from_small 0 burst (omega arith)) (burst_some burst all few some) (sym whole ∙ e)

-- ---- the CRC is linear

-- The CRC of octets with errors laid over them is the CRC of the octets, with that of the errors laid over it, which is read from a register of zeros.
pub crc_linear : (octets errors : List ℕ) → length octets ≡ length errors
    → crc_of (laid octets errors) ≡ bit_xor (crc_of octets) (crc_from 0 (bits_of errors))
unfolding crc_step
crc_linear octets errors e =
    ap (λ l. crc_from 65535 l) (all_laid octets errors e)
    ∙ from_linear 15 4129 (omega arith) 65535 0 (bits_of octets) (bits_of errors) (omega arith) (omega arith)
    (all_length octets ∙ ap (λ n. 8 * n) e ∙ sym (all_length errors)) (all_small octets) (all_small errors)

-- Errors that leave a register of zeros no zero are found in all octets.
found_from : (octets errors : List ℕ) → length octets ≡ length errors → crc_from 0 (bits_of errors) ≢ 0 → crc_of (laid octets errors) ≢ crc_of octets
found_from octets errors same some e =
    some
    (sym (xor_zero_l (crc_from 0 (bits_of errors)))
    ∙ ap (λ n. bit_xor n (crc_from 0 (bits_of errors))) (sym (xor_self (crc_of octets)))
    ∙ xor_assoc (crc_of octets) (crc_of octets) (crc_from 0 (bits_of errors))
    ∙ ap (λ n. bit_xor (crc_of octets) n) (sym (crc_linear octets errors same) ∙ e)
    ∙ xor_self (crc_of octets))

-- ---- an odd number of wrong bits

mask_parts : count_ones 1 + count_ones 33 ≡ 3
unfolding count_ones
mask_parts = refl

-- the generator's mask has three ones
odd_mask : count_ones 4129 % 2 ≡ 1
odd_mask = ap (λ n. n % 2) (ones_cat 12 1 33 (omega arith) ∙ mask_parts)

differ_in_parity : (n : ℕ) → 0 % 2 ≡ (0 + n) % 2 → n % 2 ≡ 1 → ⊥
differ_in_parity n e odd = omega arith

odd_some : (errors : List ℕ) → AllBelow 2 errors → ones errors % 2 ≡ 1 → crc_from 0 errors ≢ 0
unfolding crc_step
odd_some errors all odd e =
    let kept : count_ones (crc_from 0 errors) % 2 ≡ (count_ones 0 + ones errors) % 2 =
    parity_kept 15 4129 odd_mask (omega arith) 0 errors (omega arith) all in
    differ_in_parity (ones errors) (ap (λ n. n % 2) (sym (ap count_ones e ∙ no_ones)) ∙ kept ∙ ap (λ n. (n + ones errors) % 2) no_ones) odd

-- ---- two wrong bits

-- A register does not come to a one at its top alone within so many steps of a 0.
stays_away : ℕ → ℕ → Bool
stays_away zero register = true
stays_away (suc steps) register = if register == 32768 then false else stays_away steps (crc_step register 0)

away_now : (steps register : ℕ) → stays_away (suc steps) register ≡ true → (register ≢ 32768) × (stays_away steps (crc_step register 0) ≡ true)
unfolding stays_away
away_now steps register e =
    elim (eqb_tells register 32768) [
      | inl t ↦ absurd (true≢false (sym e ∙ cond-true (register == 32768) false (stays_away steps (crc_step register 0)) t.0))
      | inr t ↦ (t.1, sym (cond-false (register == 32768) false (stays_away steps (crc_step register 0)) t.0) ∙ e)
    ]

away_later : (steps register : ℕ) → register ≢ 32768 → stays_away steps (crc_step register 0) ≡ true → stays_away (suc steps) register ≡ true
unfolding stays_away
away_later steps register other e =
    elim (eqb_tells register 32768) [
      | inl t ↦ absurd (other t.1)
      | inr t ↦ cond-false (register == 32768) false (stays_away steps (crc_step register 0)) t.0 ∙ e
    ]

-- the register after so many steps of a 0
walked : ℕ → ℕ → ℕ
walked zero register = register
walked (suc steps) register = walked steps (crc_step register 0)

away_joined : (first second register : ℕ) → stays_away first register ≡ true → stays_away second (walked first register) ≡ true
    → stays_away (second + first) register ≡ true
unfolding walked
away_joined zero second register a b = ap (λ n. stays_away n register) (add-zero second) ∙ b
away_joined (suc first) second register a b =
    let now_and_later = away_now first register a in
    ap (λ n. stays_away n register) (add-suc second first)
    ∙ away_later (second + first) register now_and_later.0 (away_joined first second (crc_step register 0) now_and_later.1 b)

none_away : (register : ℕ) → stays_away 0 register ≡ true
unfolding stays_away
none_away register = refl

-- the same in so many rows of 258 steps
rows_away : ℕ → ℕ → Bool
rows_away zero register = true
rows_away (suc rows) register = stays_away 258 register && rows_away rows (walked 258 register)

away_rows : (rows register : ℕ) → rows_away rows register ≡ true → stays_away (rows * 258) register ≡ true
unfolding rows_away
away_rows zero register e = none_away register
away_rows (suc rows) register e =
    let parts = and_parts (stays_away 258 register) (rows_away rows (walked 258 register)) e in
    ap (λ n. stays_away n register) (suc-mul rows 258) ∙ away_joined 258 (rows * 258) register parts.0 (away_rows rows (walked 258 register) parts.1)

-- bits without a one
no_ones_left : (bits : List ℕ) → ones bits ≡ 0 → bits ≡ replicate (length bits) 0
no_ones_left [] e = refl
no_ones_left (bit ∷ bits) e =
    let none : bit ≡ 0 = omega arith in
    ap (λ b. b ∷ bits) none ∙ ap (λ l. 0 ∷ l) (no_ones_left bits (omega arith))

-- the last one, read by a register that is not that of a one at its top
last_one : (register : ℕ) (rest : List ℕ) → register < 2 ^ 16 → register ≢ 32768 → ones rest ≡ 0 → crc_from (crc_step register 1) rest ≢ 0
last_one register rest small other none e =
    let stayed : crc_from (crc_step register 1) (replicate (length rest) 0) ≡ 0 =
    ap (λ l. crc_from (crc_step register 1) l) (sym (no_ones_left rest none)) ∙ e in
    others_stay (crc_step register 1) (length rest) (step_small register 1)
    (λ zero_now. other (reads_zero register (1 ∷ []) small (omega arith, tt) (omega arith) zero_now))
    stayed

one_some : (steps register : ℕ) (errors : List ℕ) → register < 2 ^ 16 → stays_away steps register ≡ true → length errors ≤ steps → AllBelow 2 errors
    → ones errors ≡ 1 → crc_from register errors ≢ 0
one_some steps register [] small away few all one = absurd (omega arith)
one_some zero register (bit ∷ errors) small away few all one = absurd (omega arith)
one_some (suc steps) register (zero ∷ errors) small away few all one =
    one_some steps (crc_step register 0) errors (step_small register 0) (away_now steps register away).1 (omega arith) all.1 (omega arith)
one_some (suc steps) register (suc zero ∷ errors) small away few all one =
    last_one register errors small (away_now steps register away).0 (omega arith)
one_some (suc steps) register (suc (suc bit) ∷ errors) small away few all one = absurd (let h = all.0 in omega arith)

-- x has the order 32,767: a one that was read comes to the top alone no sooner
rows_long : rows_away 127 4129 ≡ true
unfolding rows_away stays_away walked crc_step
rows_long = refl

away_long : stays_away 32766 4129 ≡ true
away_long = away_rows 127 4129 rows_long

two_some : (errors : List ℕ) → AllBelow 2 errors → length errors ≤ 32767 → ones errors ≡ 2 → crc_from 0 errors ≢ 0
unfolding crc_step
two_some [] all few two = absurd (omega arith)
two_some (zero ∷ errors) all few two = two_some errors all.1 (omega arith) (omega arith)
two_some (suc zero ∷ errors) all few two = one_some 32766 4129 errors (omega arith) away_long (omega arith) all.1 (omega arith)
two_some (suc (suc bit) ∷ errors) all few two = absurd (let h = all.0 in omega arith)

-- ---- errors that are found

errors_some : (errors : List ℕ) → AreFound errors → crc_from 0 (bits_of errors) ≢ 0
errors_some errors (in_burst before after inner all few some is) e =
    bursts_found before after inner all few some (ap (λ (l : List ℕ). crc_from 0 l) (sym is) ∙ e)
errors_some errors (odd_bits is) e = odd_some (bits_of errors) (all_small errors) is e
errors_some errors (two_bits few are) e =
    two_some (bits_of errors) (all_small errors) (let long = all_length errors in omega arith) are e

pub errors_found : (octets errors : List ℕ) → length octets ≡ length errors → AreFound errors → crc_of (laid octets errors) ≢ crc_of octets
errors_found octets errors same are = found_from octets errors same (errors_some errors are)
