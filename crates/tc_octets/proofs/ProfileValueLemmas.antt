-- Values of a profile as they are read from a text without a fault.
use Rattle.std.proofs.Common.{◌≡◌, ◌↔◌, ◌⊎◌, ℕ, ℤ, ◌%◌, ◌<◌, ◌≤◌, ◌^◌, Bool, true, false, IsTrue, Option, Some, None, List, get_or, refl, ap, ◌∙◌}
use Rattle.std.proofs.Common.{sym, ⊎_elim, arith}
use Rattle.std.specs.Prelude.{codes}
use Rattle.std.specs.Option.{unwrap_or}
use Rattle.std.specs.Fmt.{decimal, signed_decimal}
use Rattle.std.proofs.lemmas.Fmt.{decimal_injective}
use Rattle.tc_octets.specs.Epochs.{IsEpoch}
use Rattle.tc_octets.specs.ProfileKeys.{IsNumber, IsWindow, IsYesOrNo, IsSeconds, ReadsWord, yes_no, fine_word}
use Rattle.tc_octets.specs.ProfileParts.{IsNumberIn}
use Rattle.tc_octets.proofs.NumberWords.{IsSmall, first_digit}

pub number_is : (word : List ℕ) (read : Option ℕ) (other least most : ℕ) → ReadsWord decimal IsSmall word read → most < 2 ^ 32
    → IsNumber least most word
    → IsNumberIn least most (unwrap_or read other) word
number_is word read other least most reads small is =
    let below : is.0 < 2 ^ 32 = omega (arith, is.2) in
    let here : read ≡ Some is.0 = reads.only is.0 below is.3 in
    rw here (record { digits = is.3; above = is.1; below = is.2 })

pub yes_is : (word : List ℕ) (b : Bool) → IsYesOrNo word → (IsTrue b ↔ (word ≡ codes "yes")) → yes_no b ≡ word
yes_is word b is h = by_choice b is.0 is.1 h
  where
    by_choice : (b given : Bool) → word ≡ yes_no given → (IsTrue b ↔ (word ≡ codes "yes")) → yes_no b ≡ word
    by_choice true given e k = sym (k.0 refl)
    by_choice false true e k = absurd (let wrong : false ≡ true = k.1 e in cc)
    by_choice false false e k = sym e

-- digits are no word
pub no_word : (n : ℕ) → n < 2 ^ 64 → codes "none" ≡ decimal n → ⊥
no_word n small e =
    let range = first_digit n small in
    let first : 110 ≡ get_or (decimal n) 0 0 = ap (λ octets. get_or octets 0 0) e in
    omega arith

pub no_map : (word : List ℕ) → ReadsWord decimal IsSmall word None → (word ≡ codes "none") ⊎ IsNumber 0 63 word → codes "none" ≡ word
no_map word reads is =
    ⊎_elim (λ e. sym e) (λ (number : IsNumber 0 63 word). let below : number.0 < 2 ^ 32 =
    omega (arith, number.2) in let wrong : ◌≡◌ {A = Option ℕ} None (Some number.0) = reads.only number.0 below number.3 in absurd (cc)) is

pub some_map : (word : List ℕ) (id : ℕ) → ReadsWord decimal IsSmall word (Some id) → (word ≡ codes "none") ⊎ IsNumber 0 63 word → id ≤ 63
some_map word id reads is =
    let small : id < 2 ^ 32 = reads.found.1 in
    ⊎_elim (λ e. absurd (no_word id (omega arith) (sym e ∙ reads.found.0)))
    (λ (number : IsNumber 0 63 word).
    let below : number.0 ≤ 63 = number.2 in
    let same : id ≡ number.0 = decimal_injective id number.0 (omega arith) (omega arith) (sym reads.found.0 ∙ number.3) in omega arith) is

pub window_even : (word : List ℕ) (n : ℕ) → IsWindow word → IsNumberIn 2 254 n word → n % 2 ≡ 0
window_even word n is read =
    let below : is.0 ≤ 254 = is.2 in
    let most : n ≤ 254 = read.below in
    let same : is.0 ≡ n = decimal_injective is.0 n (omega arith) (omega arith) (sym is.4 ∙ read.digits) in rw (← same) is.3

pub window_number : (word : List ℕ) → IsWindow word → IsNumber 2 254 word
window_number word is = (is.0, is.1, is.2, is.4)

pub epoch_is : (word : List ℕ) (read : Option ℤ) (other : ℤ) → ReadsWord signed_decimal IsEpoch word read → IsSeconds word
    → (signed_decimal (unwrap_or read other) ≡ word) × IsEpoch (unwrap_or read other)
epoch_is word read other reads is =
    let here : read ≡ Some is.0 = reads.only is.0 is.1 is.2 in rw here (sym is.2, is.1)

pub fine_is : (word : List ℕ) (fine : Bool) → (word ≡ codes "0") ⊎ (word ≡ codes "2") → (IsTrue fine ↔ (word ≡ codes "2")) → fine_word fine ≡ word
fine_is word true is h = sym (h.0 refl)
fine_is word false is h = ⊎_elim (λ e. sym e) (λ e. absurd (let wrong : false ≡ true = h.1 e in cc)) is
