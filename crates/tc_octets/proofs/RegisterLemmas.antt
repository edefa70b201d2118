-- Registers of codes: they are linear, and their parity is that of the bits that went in.
use Rattle.std.proofs.Common.{◌≡◌, ℕ, zero, suc, ◌+◌, ◌*◌, ◌/◌, ◌%◌, ◌^◌, ◌<◌, ◌≤◌, List, [], ◌∷◌, ◌++◌, length, refl, sym, ap, ◌∙◌, subst, inl, inr}
use Rattle.std.proofs.Common.{arith, add-zero, zero-mul, one-mul}
use Rattle.std.specs.Prelude.{◌≢◌, ◌⊎◌, ◌==◌, if◌then◌else◌, bit_xor}
use Rattle.std.specs.List.{fold}
use Rattle.std.specs.Int.Bits.{xor_assoc, xor_self, xor_zero_r}
use Rattle.std.proofs.lemmas.Nat.{xor_comm, xor_lt, xor_shr, xor_mod, xor_block, pow_pos, div_below, mod_below, mod-pow-add, shr_split, ones_cat}
use Rattle.std.proofs.lemmas.Nat.{ones-le}
use Rattle.std.proofs.lemmas.Grind.{pow_more}
use Rattle.std.proofs.lemmas.Bool.{cond-true, cond-false}
use Rattle.std.proofs.lemmas.Bool.Decides.{eqb_tells}
use Rattle.std.proofs.lemmas.List.{length-append}
use lib.Count.{ones as count_ones, ones_step}
use Rattle.tc_octets.specs.Bits.{bits, bits_of, octet_bits}
use Rattle.tc_octets.specs.CrcLaws.{AllBelow, laid, ones}

-- One bit goes into a register whose top bit has place k. The mask is the generator without its first term.
abbrev pub register_step : ℕ → ℕ → ℕ → ℕ → ℕ
register_step k mask register bit =
    if register / 2 ^ k == bit then register * 2 % 2 ^ (k + 1) else bit_xor (register * 2 % 2 ^ (k + 1)) mask

-- what a step gives: the shifted register alone, or with the mask over it
step_tells : (k mask register bit : ℕ)
    → ((register / 2 ^ k ≡ bit) × (register_step k mask register bit ≡ register * 2 % 2 ^ (k + 1)))
    ⊎ ((register / 2 ^ k ≢ bit) × (register_step k mask register bit ≡ bit_xor (register * 2 % 2 ^ (k + 1)) mask))
step_tells k mask register bit =
    elim (eqb_tells (register / 2 ^ k) bit) [
      | inl t ↦ inl (t.1, cond-true (register / 2 ^ k == bit) (register * 2 % 2 ^ (k + 1)) (bit_xor (register * 2 % 2 ^ (k + 1)) mask) t.0)
      | inr t ↦ inr (t.1, cond-false (register / 2 ^ k == bit) (register * 2 % 2 ^ (k + 1)) (bit_xor (register * 2 % 2 ^ (k + 1)) mask) t.0)
    ]

shifted_small : (k register : ℕ) → register * 2 % 2 ^ (k + 1) < 2 ^ (k + 1)
shifted_small k register = mod_below (register * 2) (2 ^ (k + 1)) (pow_pos (k + 1))

step_small : (k mask register bit : ℕ) → mask < 2 ^ (k + 1) → register_step k mask register bit < 2 ^ (k + 1)
step_small k mask register bit h =
    elim (step_tells k mask register bit) [
      | inl t ↦ subst (λ (n : ℕ). n < 2 ^ (k + 1)) (sym t.1) (shifted_small k register)
      | inr t ↦ subst (λ (n : ℕ). n < 2 ^ (k + 1)) (sym t.1) (xor_lt (k + 1) (register * 2 % 2 ^ (k + 1)) mask (shifted_small k register) h)
    ]

top_small : (k register : ℕ) → register < 2 ^ (k + 1) → register / 2 ^ k < 2
top_small k register small = div_below register (2 ^ k) 2 (pow_pos k) (let more = pow_more 2 k in omega arith)

-- ---- linear

pub swapped : (p q m n : ℕ) → bit_xor (bit_xor p q) (bit_xor m n) ≡ bit_xor (bit_xor p m) (bit_xor q n)
swapped p q m n =
    xor_assoc p q (bit_xor m n)
    ∙ ap (λ x. bit_xor p x) (sym (xor_assoc q m n) ∙ ap (λ x. bit_xor x n) (xor_comm q m) ∙ xor_assoc m q n)
    ∙ sym (xor_assoc p m (bit_xor q n))

bits_differ : (x y : ℕ) → x < 2 → y < 2 → x ≢ y → bit_xor x y ≡ 1
bits_differ zero zero h k ne = absurd (ne refl)
bits_differ zero (suc zero) h k ne = refl
bits_differ (suc zero) zero h k ne = refl
bits_differ (suc zero) (suc zero) h k ne = absurd (ne refl)
bits_differ (suc (suc x)) y h k ne = absurd (omega arith)
bits_differ zero (suc (suc y)) h k ne = absurd (omega arith)
bits_differ (suc zero) (suc (suc y)) h k ne = absurd (omega arith)

masks_linear : (mask t u : ℕ) → t < 2 → u < 2 → bit_xor t u * mask ≡ bit_xor (t * mask) (u * mask)
masks_linear mask zero u h k = sym (ap (λ x. bit_xor x (u * mask)) (zero-mul mask))
masks_linear mask (suc zero) zero h k = sym (ap (λ x. bit_xor (1 * mask) x) (zero-mul mask) ∙ xor_zero_r (1 * mask))
masks_linear mask (suc zero) (suc zero) h k = zero-mul mask ∙ sym (xor_self (1 * mask))
masks_linear mask (suc zero) (suc (suc u)) h k = absurd (omega arith)
masks_linear mask (suc (suc t)) u h k = absurd (omega arith)

-- a step without a choice
step_shape : (k mask register bit : ℕ) → register < 2 ^ (k + 1) → bit < 2
    → register_step k mask register bit ≡ bit_xor (register * 2 % 2 ^ (k + 1)) (bit_xor (register / 2 ^ k) bit * mask)
step_shape k mask register bit small h =
    let shifted = register * 2 % 2 ^ (k + 1) in
    elim (step_tells k mask register bit) [
      | inl t ↦ t.1 ∙ sym (ap (λ x. bit_xor shifted (x * mask)) (ap (λ x. bit_xor x bit) t.0 ∙ xor_self bit)
          ∙ ap (λ x. bit_xor shifted x) (zero-mul mask) ∙ xor_zero_r shifted)
      | inr t ↦ t.1
          ∙ sym (ap (λ x. bit_xor shifted (x * mask)) (bits_differ (register / 2 ^ k) bit (top_small k register small) h t.0)
          ∙ ap (λ x. bit_xor shifted x) (one-mul mask))
    ]

pub twice_linear : (r s : ℕ) → bit_xor r s * 2 ≡ bit_xor (r * 2) (s * 2)
twice_linear r s =
    let block : bit_xor (r * 2 + 0) (s * 2 + 0) ≡ bit_xor r s * 2 + 0 = xor_block 1 r s 0 0 (omega arith) (omega arith) in
    sym (ap (λ x. bit_xor x (s * 2)) (sym (add-zero (r * 2))) ∙ ap (λ x. bit_xor (r * 2 + 0) x) (sym (add-zero (s * 2))) ∙ block
    ∙ add-zero (bit_xor r s * 2))

shift_linear : (k r s : ℕ) → bit_xor r s * 2 % 2 ^ (k + 1) ≡ bit_xor (r * 2 % 2 ^ (k + 1)) (s * 2 % 2 ^ (k + 1))
shift_linear k r s = ap (λ x. x % 2 ^ (k + 1)) (twice_linear r s) ∙ xor_mod (r * 2) (s * 2) (k + 1)

step_linear : (k mask r s a b : ℕ) → r < 2 ^ (k + 1) → s < 2 ^ (k + 1) → a < 2 → b < 2
    → register_step k mask (bit_xor r s) (bit_xor a b) ≡ bit_xor (register_step k mask r a) (register_step k mask s b)
step_linear k mask r s a b hr hs ha hb =
    let hx = top_small k r hr in
    let hy = top_small k s hs in
    let both : bit_xor (bit_xor r s / 2 ^ k) (bit_xor a b) ≡ bit_xor (bit_xor (r / 2 ^ k) a) (bit_xor (s / 2 ^ k) b) =
    ap (λ t. bit_xor t (bit_xor a b)) (xor_shr r s k) ∙ swapped (r / 2 ^ k) (s / 2 ^ k) a b in
    step_shape k mask (bit_xor r s) (bit_xor a b) (xor_lt (k + 1) r s hr hs) (xor_lt 1 a b ha hb)
    ∙ ap (λ t. bit_xor t (bit_xor (bit_xor r s / 2 ^ k) (bit_xor a b) * mask)) (shift_linear k r s)
    ∙ ap (λ t. bit_xor (bit_xor (r * 2 % 2 ^ (k + 1)) (s * 2 % 2 ^ (k + 1))) t)
    (ap (λ t. t * mask) both
    ∙ masks_linear mask (bit_xor (r / 2 ^ k) a) (bit_xor (s / 2 ^ k) b) (xor_lt 1 (r / 2 ^ k) a hx ha) (xor_lt 1 (s / 2 ^ k) b hy hb))
    ∙ swapped (r * 2 % 2 ^ (k + 1)) (s * 2 % 2 ^ (k + 1)) (bit_xor (r / 2 ^ k) a * mask) (bit_xor (s / 2 ^ k) b * mask)
    ∙ ap (λ t. bit_xor t (bit_xor (s * 2 % 2 ^ (k + 1)) (bit_xor (s / 2 ^ k) b * mask))) (sym (step_shape k mask r a hr ha))
    ∙ ap (λ t. bit_xor (register_step k mask r a) t) (sym (step_shape k mask s b hs hb))

pub from_linear : (k mask : ℕ) → mask < 2 ^ (k + 1) → (r s : ℕ) (bits errors : List ℕ) → r < 2 ^ (k + 1) → s < 2 ^ (k + 1)
    → length bits ≡ length errors → AllBelow 2 bits → AllBelow 2 errors
    → fold (register_step k mask) (bit_xor r s) (laid bits errors)
    ≡ bit_xor (fold (register_step k mask) r bits) (fold (register_step k mask) s errors)
from_linear k mask h r s [] [] hr hs e all few = refl
from_linear k mask h r s [] (b ∷ errors) hr hs e all few = absurd (omega arith)
from_linear k mask h r s (a ∷ bits) [] hr hs e all few = absurd (omega arith)
from_linear k mask h r s (a ∷ bits) (b ∷ errors) hr hs e all few =
    ap (λ t. fold (register_step k mask) t (laid bits errors)) (step_linear k mask r s a b hr hs all.0 few.0)
    ∙ from_linear k mask h (register_step k mask r a) (register_step k mask s b) bits errors
    (step_small k mask r a h) (step_small k mask s b h) (omega arith) all.1 few.1

-- the bits of octets with errors laid over them
bits_laid : (n a b : ℕ) → bits n (bit_xor a b) ≡ laid (bits n a) (bits n b)
bits_laid zero a b = refl
bits_laid (suc n) a b =
    ap (λ t. t ∷ bits n (bit_xor a b)) (ap (λ t. t % 2) (xor_shr a b n) ∙ xor_mod (a / 2 ^ n) (b / 2 ^ n) 1)
    ∙ ap (λ l. bit_xor (a / 2 ^ n % 2) (b / 2 ^ n % 2) ∷ l) (bits_laid n a b)

laid-append : (xs es ys fs : List ℕ) → length xs ≡ length es → laid (xs ++ ys) (es ++ fs) ≡ laid xs es ++ laid ys fs
laid-append [] [] ys fs e = refl
laid-append [] (f ∷ es) ys fs e = absurd (omega arith)
laid-append (x ∷ xs) [] ys fs e = absurd (omega arith)
laid-append (x ∷ xs) (f ∷ es) ys fs e = ap (λ l. bit_xor x f ∷ l) (laid-append xs es ys fs (omega arith))

pub octet_length : (octet : ℕ) → length (octet_bits octet) ≡ 8
unfolding octet_bits
octet_length octet = refl

octet_laid : (a b : ℕ) → octet_bits (bit_xor a b) ≡ laid (octet_bits a) (octet_bits b)
unfolding octet_bits
octet_laid a b = bits_laid 8 a b

pub all_laid : (octets errors : List ℕ) → length octets ≡ length errors → bits_of (laid octets errors) ≡ laid (bits_of octets) (bits_of errors)
all_laid [] [] e = refl
all_laid [] (f ∷ errors) e = absurd (omega arith)
all_laid (x ∷ octets) [] e = absurd (omega arith)
all_laid (x ∷ octets) (f ∷ errors) e =
    ap (λ l. l ++ bits_of (laid octets errors)) (octet_laid x f)
    ∙ ap (λ l. laid (octet_bits x) (octet_bits f) ++ l) (all_laid octets errors (omega arith))
    ∙ sym (laid-append (octet_bits x) (octet_bits f) (bits_of octets) (bits_of errors) (octet_length x ∙ sym (octet_length f)))

bits_small : (n number : ℕ) → AllBelow 2 (bits n number)
bits_small zero number = tt
bits_small (suc n) number = (omega arith, bits_small n number)

below-append : (xs ys : List ℕ) → AllBelow 2 xs → AllBelow 2 ys → AllBelow 2 (xs ++ ys)
below-append [] ys all few = few
below-append (x ∷ xs) ys all few = (all.0, below-append xs ys all.1 few)

octet_small : (octet : ℕ) → AllBelow 2 (octet_bits octet)
unfolding octet_bits
octet_small octet = bits_small 8 octet

pub all_small : (octets : List ℕ) → AllBelow 2 (bits_of octets)
all_small [] = tt
all_small (x ∷ octets) = below-append (octet_bits x) (bits_of octets) (octet_small x) (all_small octets)

pub all_length : (octets : List ℕ) → length (bits_of octets) ≡ 8 * length octets
all_length [] = refl
all_length (x ∷ octets) = omega (arith, length-append (octet_bits x) (bits_of octets), octet_length x, all_length octets)

-- ---- parity

pub no_ones : count_ones 0 ≡ 0
no_ones = omega (arith, ones-le 0 0 (omega arith))

xor_of_bits : (x y : ℕ) → x < 2 → y < 2 → bit_xor x y ≡ (x + y) % 2
xor_of_bits zero zero h k = refl
xor_of_bits zero (suc zero) h k = refl
xor_of_bits (suc zero) zero h k = refl
xor_of_bits (suc zero) (suc zero) h k = refl
xor_of_bits (suc (suc x)) y h k = absurd (omega arith)
xor_of_bits zero (suc (suc y)) h k = absurd (omega arith)
xor_of_bits (suc zero) (suc (suc y)) h k = absurd (omega arith)

xor_low : (a b : ℕ) → bit_xor a b % 2 ≡ (a % 2 + b % 2) % 2
xor_low a b = xor_mod a b 1 ∙ xor_of_bits (a % 2) (b % 2) (omega arith) (omega arith)

parity_up_to : (most a b : ℕ) → a ≤ most → count_ones (bit_xor a b) % 2 ≡ (count_ones a + count_ones b) % 2
parity_up_to zero a b h =
    let none : a ≡ 0 = omega arith in
    let left : count_ones (bit_xor a b) ≡ count_ones b = ap (λ n. count_ones (bit_xor n b)) none in
    let right : count_ones a ≡ 0 = ap count_ones none ∙ no_ones in
    omega arith
parity_up_to (suc most) a b h =
    let whole = ones_step (bit_xor a b) in
    let first = ones_step a in
    let second = ones_step b in
    let half : count_ones (bit_xor a b / 2) ≡ count_ones (bit_xor (a / 2) (b / 2)) = ap count_ones (xor_shr a b 1) in
    let rest = parity_up_to most (a / 2) (b / 2) (omega arith) in
    let low = xor_low a b in
    omega arith

pub parity_of_xor : (a b : ℕ) → count_ones (bit_xor a b) % 2 ≡ (count_ones a + count_ones b) % 2
parity_of_xor a b = parity_up_to a a b (omega arith)

ones_of_bit : (bit : ℕ) → bit < 2 → count_ones bit ≡ bit
ones_of_bit zero h = no_ones
ones_of_bit (suc zero) h = omega (arith, ones_step 1, no_ones)
ones_of_bit (suc (suc bit)) h = absurd (omega arith)

ones_shifted : (k register : ℕ) → count_ones (register * 2 % 2 ^ (k + 1)) ≡ count_ones (register % 2 ^ k)
ones_shifted k register =
    let half : register * 2 / 2 ^ 1 ≡ register = omega arith in
    let even : register * 2 % 2 ^ 1 ≡ 0 = omega arith in
    ap count_ones (mod-pow-add (register * 2) k 1 ∙ ap (λ n. (n % 2 ^ k) * 2 ^ 1 + register * 2 % 2 ^ 1) half
    ∙ ap (λ n. (register % 2 ^ k) * 2 ^ 1 + n) even)
    ∙ ones_cat 1 (register % 2 ^ k) 0 (omega arith)
    ∙ ap (λ n. count_ones (register % 2 ^ k) + n) no_ones
    ∙ add-zero (count_ones (register % 2 ^ k))

ones_split : (k register : ℕ) → register < 2 ^ (k + 1) → count_ones register ≡ register / 2 ^ k + count_ones (register % 2 ^ k)
ones_split k register small =
    ap count_ones (sym (shr_split register k))
    ∙ ones_cat k (register / 2 ^ k) (register % 2 ^ k) (mod_below register (2 ^ k) (pow_pos k))
    ∙ ap (λ n. n + count_ones (register % 2 ^ k)) (ones_of_bit (register / 2 ^ k) (top_small k register small))

parity_taken : (top bit low whole after : ℕ) → top ≡ bit → whole ≡ top + low → after ≡ low → after % 2 ≡ (whole + bit) % 2
parity_taken top bit low whole after same sum e = omega arith

parity_laid : (top bit low whole after : ℕ) → top < 2 → bit < 2 → top ≢ bit → whole ≡ top + low → after % 2 ≡ (low + 1) % 2
    → after % 2 ≡ (whole + bit) % 2
parity_laid top bit low whole after h k other sum e = omega arith

plus_odd : (low mask : ℕ) → mask % 2 ≡ 1 → (low + mask) % 2 ≡ (low + 1) % 2
plus_odd low mask odd = omega arith

parity_of_step : (k mask register bit : ℕ) → count_ones mask % 2 ≡ 1 → register < 2 ^ (k + 1) → bit < 2
    → count_ones (register_step k mask register bit) % 2 ≡ (count_ones register + bit) % 2
parity_of_step k mask register bit odd small h =
    let shifted = register * 2 % 2 ^ (k + 1) in
    let low = count_ones (register % 2 ^ k) in
    let moved = ones_shifted k register in
    let whole = ones_split k register small in
    elim (step_tells k mask register bit) [
      | inl t ↦ parity_taken (register / 2 ^ k) bit low (count_ones register) (count_ones (register_step k mask register bit)) t.0 whole
          (ap count_ones t.1 ∙ moved)
      | inr t ↦ (let both = parity_of_xor shifted mask in
          let after : count_ones (register_step k mask register bit) % 2 ≡ (low + 1) % 2 =
          ap (λ n. count_ones n % 2) t.1 ∙ both ∙ ap (λ n. (n + count_ones mask) % 2) moved ∙ plus_odd low (count_ones mask) odd in
          parity_laid (register / 2 ^ k) bit low (count_ones register) (count_ones (register_step k mask register bit)) (top_small k register small)
          h t.0 whole after)
    ]

parity_joined : (after before bit rest : ℕ) → after % 2 ≡ (before + bit) % 2 → (after + rest) % 2 ≡ (before + (bit + rest)) % 2
parity_joined after before bit rest e = omega arith

-- the parity of a register is that of what it was and of the bits that it read
pub parity_kept : (k mask : ℕ) → count_ones mask % 2 ≡ 1 → mask < 2 ^ (k + 1) → (register : ℕ) (bits : List ℕ) → register < 2 ^ (k + 1)
    → AllBelow 2 bits
    → count_ones (fold (register_step k mask) register bits) % 2 ≡ (count_ones register + ones bits) % 2
parity_kept k mask odd h register [] small all = ap (λ n. n % 2) (sym (add-zero (count_ones register)))
parity_kept k mask odd h register (bit ∷ bits) small all =
    let first = parity_of_step k mask register bit odd small all.0 in
    let rest = parity_kept k mask odd h (register_step k mask register bit) bits (step_small k mask register bit h) all.1 in
    rest ∙ parity_joined (count_ones (register_step k mask register bit)) (count_ones register) bit (ones bits) first
