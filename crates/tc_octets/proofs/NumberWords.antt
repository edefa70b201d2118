-- Decimal numbers as they are read.
use Rattle.std.proofs.Common.{◌≡◌, ◌≢◌, ◌↔◌, ℕ, ℤ, pos, negsuc, ◌<◌, ◌≤◌, ◌^◌, Bool, true, false, IsTrue, Option, Some, None, Result, Ok, Err, List}
use Rattle.std.proofs.Common.{◌∷◌, length, get_or, refl, ap, zero, suc, ◌∙◌, sym, ⊎_elim, arith}
use Rattle.std.specs.Result.{result_ok}
use Rattle.std.specs.Fmt.{decimal, signed_decimal}
use Rattle.std.specs.Str.{IsUtf8}
use Rattle.std.specs.Str.Parse.{AllDigits, digits_value, ParsesUnsigned}
use Rattle.std.proofs.lemmas.Str.{IsUtf8-from_ascii}
use Rattle.std.proofs.lemmas.Str.Parse.{IsNumeralModel, numerals_by_value, tells_digits, digit_at, parse_plain}
use Rattle.std.proofs.lemmas.Fmt.{decimal_nonempty, first_decimal, decimal_digit, digits_decimal, decimal-digits_value, parse-decimal}
use Rattle.std.proofs.lemmas.Fmt.{IsAscii-decimal, decimal_injective}
use Rattle.std.proofs.lemmas.Bool.{cases_lt}
use Rattle.std.proofs.lemmas.Int.{ints}
use Rattle.std.proofs.Math.IntN.{neg_ℤ}
use Rattle.tc_octets.specs.Epochs.{IsEpoch}
use Rattle.tc_octets.specs.ProfileKeys.{ReadsWord}

-- std's words for digits and their value
pub numeral : IsNumeralModel (AllDigits 10) (digits_value 10)
numeral = numerals_by_value (AllDigits 10) tells_digits

-- a word that no other word of the same number has
abbrev pub IsShortest : List ℕ → Type 0
IsShortest word = (get_or word 0 0 ≢ 43) × (get_or word 0 0 ≡ 48 → length word ≡ 1)

-- a number of 32 bits
abbrev pub IsSmall : ℕ → Type 0
IsSmall n = n < 2 ^ 32

pub first_digit : (n : ℕ) → n < 2 ^ 64 → (48 ≤ get_or (decimal n) 0 0) × (get_or (decimal n) 0 0 ≤ 57)
first_digit n h = digit_at (decimal n) 0 (digits_decimal numeral n h) (decimal_nonempty n h)

shortest_decimal : (n : ℕ) → n < 2 ^ 64 → IsShortest (decimal n)
shortest_decimal n h =
    let range = first_digit n h in (
      λ e. omega arith,
      λ e.
          ⊎_elim (λ (zero : n < 1). let is : n ≡ 0 = omega arith in rw is (ap length (decimal_digit 0 (omega arith))))
          (λ (more : 1 ≤ n). let larger : 48 < get_or (decimal n) 0 0 = first_decimal n more h in absurd (omega arith))
          (cases_lt n 1),
    )

pub not_shortest : (word : List ℕ) (b : Bool) → (IsTrue b ↔ IsShortest word) → b ≡ false → ReadsWord decimal IsSmall word None
not_shortest word b h e =
    record {
      found = tt;
      only = λ x small is. let t : b ≡ true = h.1 (rw is (shortest_decimal x (omega arith))) in cc;
    }

pub not_text : (word : List ℕ) → (IsUtf8 word → ⊥) → ReadsWord decimal IsSmall word None
not_text word h =
    record { found = tt; only = λ x small is. absurd (h (rw is (IsUtf8-from_ascii (decimal x) (IsAscii-decimal x (omega arith))))) }

pub parsed : {E : Type 0} (word : List ℕ) (b : Bool) (r : Result ℕ E) → (IsTrue b ↔ IsShortest word) → b ≡ true → ParsesUnsigned 32 10 word r
    → ReadsWord decimal IsSmall word (result_ok r)
parsed {E = E} word b (Ok n) h e p =
    let plain : IsShortest word = h.0 e in
    let value = parse_plain numeral {E = E} 32 word (Ok n) p plain.0 in
    let small : digits_value 10 word < 2 ^ 32 = value.0.2 in
    record {
      found = (sym (decimal-digits_value numeral word value.0.0 value.0.1 plain.1 (omega arith)) ∙ ap decimal (sym value.1), rw value.1 small);
      only = λ x below is. ap (result_ok {T = ℕ} {E = E}) (parse-decimal {E = E} 32 x word (Ok n) below (omega arith) is p);
    }
parsed {E = E} word b (Err fault) h e p =
    record { found = tt; only = λ x small is. ap (result_ok {T = ℕ} {E = E}) (parse-decimal {E = E} 32 x word (Err fault) small (omega arith) is p) }

-- an epoch's number is a small one
pub small_epoch : (n : ℕ) → IsEpoch (pos n) → n < 2 ^ 32
small_epoch n h = omega (arith, ints, h)

no_minus : (n : ℕ) (digits : List ℕ) → n < 2 ^ 64 → 45 ∷ digits ≡ decimal n → ⊥
no_minus n digits h e =
    let range = first_digit n h in
    let is : 45 ≡ get_or (decimal n) 0 0 = ap (λ bytes. get_or bytes 0 0) e in
    omega arith

-- a word with a minus in front spells a negative number alone
pub minus_is : (digits : List ℕ) (z : ℤ) → IsEpoch z → 45 ∷ digits ≡ signed_decimal z
    → (m : ℕ) × (z ≡ negsuc m) × (digits ≡ decimal (suc m)) × (suc m ≤ 378691200)
minus_is digits (pos n) h e = absurd (no_minus n digits (let small : n < 2 ^ 32 = small_epoch n h in omega arith) e)
minus_is digits (negsuc m) h e = (m, refl, cc, omega (arith, ints, h.0))

pub back_none : (digits : List ℕ) → ReadsWord decimal IsSmall digits None → ReadsWord signed_decimal IsEpoch (45 ∷ digits) None
back_none digits h =
    record {
      found = tt;
      only = λ z inside e.
          let is = minus_is digits z inside e in
          let small : suc is.0 ≤ 378691200 = is.3 in
          let bad : ◌≡◌ {A = Option ℕ} None (Some (suc is.0)) = h.only (suc is.0) (omega arith) is.2 in cc;
    }

-- 0 has no sign, and no epoch is as early as that
pub back_outside : (digits : List ℕ) (n : ℕ) → digits ≡ decimal n → n < 2 ^ 32 → (0 < n → n ≤ 378691200 → ⊥)
    → ReadsWord signed_decimal IsEpoch (45 ∷ digits) None
back_outside digits n h below outside =
    record {
      found = tt;
      only = λ z inside e.
          let is = minus_is digits z inside e in
          let small : suc is.0 ≤ 378691200 = is.3 in
          let same : n ≡ suc is.0 = decimal_injective n (suc is.0) (omega arith) (omega arith) (sym h ∙ is.2) in
          absurd (outside (omega arith) (omega arith));
    }

pub back_some : (digits : List ℕ) (n : ℕ) (y : ℤ) → digits ≡ decimal n → 0 < n → n ≤ 378691200 → y ≡ neg_ℤ (pos n)
    → ReadsWord signed_decimal IsEpoch (45 ∷ digits) (Some y)
back_some digits zero y e more small is = absurd (omega arith)
back_some digits (suc m) y e more small is =
    let here : y ≡ negsuc m = omega (arith, ints, is) in
    record {
      found = (rw (here, e) refl, (omega (arith, ints, here), omega (arith, ints, here)));
      only = λ z inside same.
          let at = minus_is digits z inside same in
          let below : suc at.0 ≤ 378691200 = at.3 in
          let equal : suc m ≡ suc at.0 = decimal_injective (suc m) (suc at.0) (omega arith) (omega arith) (sym e ∙ at.2) in
          let shown : y ≡ z = omega (arith, ints, here, at.1) in rw shown refl;
    }
