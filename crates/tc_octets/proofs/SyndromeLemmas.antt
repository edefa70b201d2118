-- The syndrome of a block of 64 bits: it is 0 of codeblocks alone, and each bit that is turned lays its own number over it.
use Rattle.std.proofs.Common.{◌≡◌, ℕ, zero, suc, ◌+◌, ◌*◌, ◌/◌, ◌%◌, ◌^◌, ◌<◌, Bool, true, false, List, [], ◌∷◌, take, length, replicate, get_or, set}
use Rattle.std.proofs.Common.{refl, sym, ap, ◌∙◌, arith}
use Rattle.std.specs.Prelude.{◌≢◌, ◌==◌, ◌&&◌, bit_xor, slice_index}
use Rattle.std.specs.Int.Bits.{xor_assoc, xor_self, xor_zero_r}
use Rattle.std.proofs.lemmas.Nat.{xor_comm}
use Rattle.std.proofs.lemmas.Bool.{eq-eqb, ne_eqb}
use Rattle.std.proofs.lemmas.Bool.Decides.{Decides-below_and, Decides-eqb}
use Rattle.std.proofs.lemmas.List.{get_or-replicate, length-append, length-set, length-take-le, take_at, get_or_at}
use lib.Count.{ones as count_ones}
use Rattle.tc_octets.specs.Bits.{bits_of, octet_bits}
use Rattle.tc_octets.specs.Codeblocks.{bch_from, bch_step, codeblock_of, error_control_of, is_codeblock, turned}
use Rattle.tc_octets.specs.CodeblockLaws.{turned_at, tail}
use Rattle.tc_octets.specs.CrcLaws.{AllBelow, laid}
use Rattle.tc_octets.proofs.RegisterLemmas.{all_laid, all_length, all_small, from_linear, parity_of_xor, swapped, twice_linear}

-- what its last octet has, laid over what it should have
pub syndrome : List ℕ → ℕ
syndrome block = bit_xor (error_control_of (take 7 block)) (get_or block 7 0)

-- what errors lay over the syndrome
change : List ℕ → ℕ
change errors = bit_xor (bch_from 0 (bits_of (take 7 errors)) * 2) (get_or errors 7 0)

-- errors in one bit
one_bit : ℕ → List ℕ
one_bit place = turned place (replicate 8 0)

-- what each of the 64 bits lays over the syndrome: x ^ (62 - i) modulo the generator, twice; and the filler bit
abbrev pub changes : List ℕ
changes =
    0xc4 ∷ 0x62 ∷ 0xf4 ∷ 0x7a ∷ 0xf8 ∷ 0x7c ∷ 0x3e ∷ 0xda ∷ 0xa8 ∷ 0x54 ∷ 0x2a ∷ 0xd0 ∷ 0x68 ∷ 0x34 ∷ 0x1a ∷ 0xc8 ∷ 0x64 ∷ 0x32 ∷ 0xdc ∷ 0x6e ∷ 0xf2
    ∷ 0xbc ∷ 0x5e ∷ 0xea ∷ 0xb0 ∷ 0x58 ∷ 0x2c ∷ 0x16 ∷ 0xce ∷ 0xa2 ∷ 0x94 ∷ 0x4a ∷ 0xe0 ∷ 0x70 ∷ 0x38 ∷ 0x1c ∷ 0x0e ∷ 0xc2 ∷ 0xa4 ∷ 0x52 ∷ 0xec
    ∷ 0x76 ∷ 0xfe ∷ 0xba ∷ 0x98 ∷ 0x4c ∷ 0x26 ∷ 0xd6 ∷ 0xae ∷ 0x92 ∷ 0x8c ∷ 0x46 ∷ 0xe6 ∷ 0xb6 ∷ 0x9e ∷ 0x8a ∷ 0x80 ∷ 0x40 ∷ 0x20 ∷ 0x10 ∷ 0x08
    ∷ 0x04 ∷ 0x02 ∷ 0x01
    ∷ []

-- ---- linear

take-laid : (n : ℕ) (xs es : List ℕ) → length xs ≡ length es → take n (laid xs es) ≡ laid (take n xs) (take n es)
take-laid zero xs es e = refl
take-laid (suc n) [] [] e = refl
take-laid (suc n) [] (f ∷ es) e = absurd (omega arith)
take-laid (suc n) (x ∷ xs) [] e = absurd (omega arith)
take-laid (suc n) (x ∷ xs) (f ∷ es) e = ap (λ l. bit_xor x f ∷ l) (take-laid n xs es (omega arith))

get_or-laid : (xs es : List ℕ) (i : ℕ) → length xs ≡ length es → i < length xs → get_or (laid xs es) i 0 ≡ bit_xor (get_or xs i 0) (get_or es i 0)
get_or-laid [] es i e h = absurd (omega arith)
get_or-laid (x ∷ xs) [] i e h = absurd (omega arith)
get_or-laid (x ∷ xs) (f ∷ es) zero e h = refl
get_or-laid (x ∷ xs) (f ∷ es) (suc i) e h = get_or-laid xs es i (omega arith) (omega arith)

remainder_laid : (octets errors : List ℕ) → length octets ≡ length errors
    → bch_from 0 (bits_of (laid octets errors)) ≡ bit_xor (bch_from 0 (bits_of octets)) (bch_from 0 (bits_of errors))
unfolding bch_step
remainder_laid octets errors e =
    ap (λ l. bch_from 0 l) (all_laid octets errors e)
    ∙ from_linear 6 69 (omega arith) 0 0 (bits_of octets) (bits_of errors) (omega arith) (omega arith)
    (all_length octets ∙ ap (λ n. 8 * n) e ∙ sym (all_length errors)) (all_small octets) (all_small errors)

turned_last : (a b mask : ℕ) → bit_xor (bit_xor a b) mask * 2 ≡ bit_xor (bit_xor a mask * 2) (b * 2)
turned_last a b mask =
    ap (λ n. n * 2) (xor_assoc a b mask ∙ ap (λ n. bit_xor a n) (xor_comm b mask) ∙ sym (xor_assoc a mask b)) ∙ twice_linear (bit_xor a mask) b

control_laid : (octets errors : List ℕ) → length octets ≡ length errors
    → error_control_of (laid octets errors) ≡ bit_xor (error_control_of octets) (bch_from 0 (bits_of errors) * 2)
control_laid octets errors e =
    ap (λ n. bit_xor n 0x7f * 2) (remainder_laid octets errors e) ∙ turned_last (bch_from 0 (bits_of octets)) (bch_from 0 (bits_of errors)) 0x7f

syndrome_laid : (block errors : List ℕ) → length block ≡ 8 → length errors ≡ 8
    → syndrome (laid block errors) ≡ bit_xor (syndrome block) (change errors)
unfolding syndrome change
syndrome_laid block errors long h =
    let fronts : length (take 7 block) ≡ length (take 7 errors) =
    length-take-le 7 block (omega arith) ∙ sym (length-take-le 7 errors (omega arith)) in
    ap (λ l. bit_xor (error_control_of l) (get_or (laid block errors) 7 0)) (take-laid 7 block errors (omega arith))
    ∙ ap (λ n. bit_xor n (get_or (laid block errors) 7 0)) (control_laid (take 7 block) (take 7 errors) fronts)
    ∙ ap (λ n. bit_xor (bit_xor (error_control_of (take 7 block)) (bch_from 0 (bits_of (take 7 errors)) * 2)) n)
    (get_or-laid block errors 7 (omega arith) (omega arith))
    ∙ swapped (error_control_of (take 7 block)) (bch_from 0 (bits_of (take 7 errors)) * 2) (get_or block 7 0) (get_or errors 7 0)

-- ---- one bit turned

laid_zeros : (xs : List ℕ) → laid xs (replicate (length xs) 0) ≡ xs
laid_zeros [] = refl
laid_zeros (x ∷ xs) = ap (λ n. n ∷ laid xs (replicate (length xs) 0)) (xor_zero_r x) ∙ ap (λ l. x ∷ l) (laid_zeros xs)

set_laid : (xs : List ℕ) (i m : ℕ) → i < length xs → set xs i (bit_xor (get_or xs i 0) m) ≡ laid xs (set (replicate (length xs) 0) i m)
set_laid [] i m h = absurd (omega arith)
set_laid (x ∷ xs) zero m h = ap (λ l. bit_xor x m ∷ l) (sym (laid_zeros xs))
set_laid (x ∷ xs) (suc i) m h =
    ap (λ n. n ∷ set xs i (bit_xor (get_or xs i 0) m)) (sym (xor_zero_r x)) ∙ ap (λ l. bit_xor x 0 ∷ l) (set_laid xs i m (omega arith))

turned_laid : (place : ℕ) (block : List ℕ) → place < 64 → length block ≡ 8 → turned place block ≡ laid block (one_bit place)
unfolding one_bit
turned_laid place block h long =
    let i = place / 8 in
    let m = 128 / 2 ^ (place % 8) in
    set_laid block i m (omega arith)
    ∙ ap (λ n. laid block (set (replicate n 0) i m)) long
    ∙ ap (λ n. laid block (set (replicate 8 0) i (bit_xor n m))) (sym (get_or-replicate 8 i 0 0 (omega arith)))

pub turned_length : (place : ℕ) (block : List ℕ) → length (turned place block) ≡ length block
turned_length place block = length-set block (place / 8) (bit_xor (slice_index block (place / 8)) (128 / 2 ^ (place % 8)))

bit_length : (place : ℕ) → length (one_bit place) ≡ 8
unfolding one_bit
bit_length place = turned_length place (replicate 8 0)

abbrev all_as_told : ℕ → Bool
all_as_told zero = true
all_as_told (suc n) = (change (one_bit n) == get_or changes n 0) && all_as_told n

change_of_bit : (place : ℕ) → place < 64 → change (one_bit place) ≡ get_or changes place 0
unfolding change one_bit octet_bits bch_step
change_of_bit place h =
    (Decides-below_and (λ n. change (one_bit n) == get_or changes n 0) (λ n. change (one_bit n) ≡ get_or changes n 0) all_as_told
    (λ n. Decides-eqb (change (one_bit n)) (get_or changes n 0)) refl (λ n. refl) 64).0 refl place h

pub syndrome_turned : (place : ℕ) (block : List ℕ) → place < 64 → length block ≡ 8
    → syndrome (turned place block) ≡ bit_xor (syndrome block) (get_or changes place 0)
syndrome_turned place block h long =
    ap syndrome (turned_laid place block h long)
    ∙ syndrome_laid block (one_bit place) long (bit_length place)
    ∙ ap (λ n. bit_xor (syndrome block) n) (change_of_bit place h)

-- ---- parity: each bit lays an odd number over it

abbrev all_odd : ℕ → Bool
all_odd zero = true
all_odd (suc n) = (count_ones (get_or changes n 0) % 2 == 1) && all_odd n

change_odd : (place : ℕ) → place < 64 → count_ones (get_or changes place 0) % 2 ≡ 1
unfolding count_ones
change_odd place h =
    (Decides-below_and (λ n. count_ones (get_or changes n 0) % 2 == 1) (λ n. count_ones (get_or changes n 0) % 2 ≡ 1) all_odd
    (λ n. Decides-eqb (count_ones (get_or changes n 0) % 2) 1) refl (λ n. refl) 64).0 refl place h

pub all_turned_length : (places block : List ℕ) → length (turned_at places block) ≡ length block
all_turned_length [] block = refl
all_turned_length (place ∷ places) block = turned_length place (turned_at places block) ∙ all_turned_length places block

parity_one_more : (whole part change count before : ℕ) → whole % 2 ≡ (part + change) % 2 → change % 2 ≡ 1 → part % 2 ≡ (before + count) % 2
    → whole % 2 ≡ (before + suc count) % 2
parity_one_more whole part change count before e odd rest = omega arith

pub parity_turned : (places block : List ℕ) → AllBelow 64 places → length block ≡ 8
    → count_ones (syndrome (turned_at places block)) % 2 ≡ (count_ones (syndrome block) + length places) % 2
parity_turned [] block all long = ap (λ n. n % 2) (let same : count_ones (syndrome block) ≡ count_ones (syndrome block) + 0 = omega arith in same)
parity_turned (place ∷ places) block all long =
    let one = ap (λ n. count_ones n % 2) (syndrome_turned place (turned_at places block) all.0 (all_turned_length places block ∙ long)) in
    let both = parity_of_xor (syndrome (turned_at places block)) (get_or changes place 0) in
    parity_one_more (count_ones (syndrome (turned_at (place ∷ places) block))) (count_ones (syndrome (turned_at places block)))
    (count_ones (get_or changes place 0)) (length places) (count_ones (syndrome block)) (one ∙ both) (change_odd place all.0)
    (parity_turned places block all.1 long)

-- ---- codeblocks

pub not_codeblock : (block : List ℕ) → syndrome block ≢ 0 → is_codeblock block ≡ false
unfolding syndrome is_codeblock
not_codeblock block some =
    ne_eqb (error_control_of (take 7 block)) (get_or block 7 0)
    (λ same. some (ap (λ n. bit_xor n (get_or block 7 0)) same ∙ xor_self (get_or block 7 0)))

front_of : (information : List ℕ) → length information ≡ 7 → take 7 (codeblock_of information) ≡ information
front_of information long = take_at information (error_control_of information ∷ []) 7 long

last_of : (information : List ℕ) → length information ≡ 7 → get_or (codeblock_of information) 7 0 ≡ error_control_of information
last_of information long = get_or_at information (error_control_of information) [] 0 7 long

pub codeblock_length : (information : List ℕ) → length information ≡ 7 → length (codeblock_of information) ≡ 8
codeblock_length information long = length-append information (error_control_of information ∷ []) ∙ ap (λ n. n + 1) long

pub codeblock_is : (information : List ℕ) → length information ≡ 7 → is_codeblock (codeblock_of information) ≡ true
unfolding is_codeblock
codeblock_is information long =
    eq-eqb (error_control_of (take 7 (codeblock_of information))) (get_or (codeblock_of information) 7 0)
    (ap error_control_of (front_of information long) ∙ sym (last_of information long))

pub codeblock_syndrome : (information : List ℕ) → length information ≡ 7 → syndrome (codeblock_of information) ≡ 0
unfolding syndrome
codeblock_syndrome information long =
    ap (λ l. bit_xor (error_control_of l) (get_or (codeblock_of information) 7 0)) (front_of information long)
    ∙ ap (λ n. bit_xor (error_control_of information) n) (last_of information long)
    ∙ xor_self (error_control_of information)

pub tail_syndrome : syndrome tail ≡ 0x87
unfolding syndrome octet_bits bch_step
tail_syndrome = refl
