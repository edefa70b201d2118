-- The loops over header fields and over digits.
use Rattle.std.proofs.Common.{◌≡◌, ◌≢◌, ◌⊎◌, inl, inr, ◌↔◌, ℕ, ◌+◌, ◌*◌, ◌-◌, ◌≤◌, ◌<◌, Bool, true, false, IsTrue, List, [], ◌∷◌, refl, sym, map, min, length, slice_range, arith, All}
use Rattle.std.specs.Char.{to_ascii_lowercase, digit_value}
use Rattle.std.specs.Str.Parse.{AllDigits, digits_value, digits_value_after}
use Rattle.httparse.specs.declared.spans.HeaderSpan.{HeaderSpan}
use Rattle.httparse.specs.Spans.{IsHeaderWithin, header_bytes}
use Rattle.tc_front.specs.Fields.{values, found_of, found_view, several}
use Rattle.tc_front.specs.declared.fields.FieldValues.{FieldValues}
use Rattle.tc_front.specs.declared.fields.FieldValues.TheVariants.{Absent, One, Many}
use Rattle.tc_front.proofs.WordLemmas.{differ, agree}
use Rattle.std.proofs.lemmas.List.Elements.{All-tail}
use Rattle.std.proofs.lemmas.Str.{digit_value_digit}
use Rattle.std.proofs.lemmas.Bool.{cases_lt}

abbrev pub with_found : FieldValues → List (List ℕ) → List (List ℕ)
with_found Absent rest = rest
with_found (One value) rest = value.now ∷ rest
with_found Many rest = rest

abbrev pub IsFew : FieldValues → Type 0
IsFew Absent = Unit {0}
IsFew (One value) = Unit {0}
IsFew Many = ⊥

abbrev pub pairs : List ℕ → List HeaderSpan → List (List ℕ × List ℕ)
pairs head headers = map (header_bytes head) headers

abbrev pub lower : List ℕ → List ℕ
lower word = map to_ascii_lowercase word

-- a field of another name
pub miss : (name head word : List ℕ) (left rest : List HeaderSpan) (h : HeaderSpan) (r : Bool) → left ≡ h ∷ rest
    → word ≡ slice_range head h.name.start h.name.end → (IsTrue r ↔ (lower word ≡ lower name)) → r ≡ false → values name (pairs head left) ≡ values name (pairs head rest)
miss name head word left rest h r is of same not_so = rw is (rw (sym of) (rw (differ (lower word) (lower name) r same not_so) refl))

-- a field of this name
pub hit : (name head word value : List ℕ) (left rest : List HeaderSpan) (h : HeaderSpan) (r : Bool) → left ≡ h ∷ rest
    → word ≡ slice_range head h.name.start h.name.end → value ≡ slice_range head h.value.start h.value.end
    → (IsTrue r ↔ (lower word ≡ lower name)) → r ≡ true → values name (pairs head left) ≡ value ∷ values name (pairs head rest)
hit name head word value left rest h r is of at same so = rw is (rw (sym of) (rw (agree (lower word) (lower name) r same so) (rw at refl)))

-- the headers behind the first
pub behind : (head : List ℕ) (left rest : List HeaderSpan) (h : HeaderSpan) → left ≡ h ∷ rest → All (IsHeaderWithin (length head)) left → All (IsHeaderWithin (length head)) rest
behind head left rest h is all = All-tail (IsHeaderWithin (length head)) h rest (rw is at all)

-- what was found before, and one more
pub twice : (all now rest : List (List ℕ)) (value : List ℕ) (found : FieldValues) → IsFew found → (found ≢ Absent) → all ≡ with_found found now → now ≡ value ∷ rest → found_of all ≡ several
twice all now rest value Absent few some is one = absurd (some refl)
twice all now rest value (One v) few some is one = rw is (rw one refl)
twice all now rest value Many few some is one = absurd few

-- what was found, where no header is left
pub found_all : (all now : List (List ℕ)) (found : FieldValues) → IsFew found → all ≡ with_found found now → now ≡ [] → found_of all ≡ found_view found
found_all all now Absent few is none = rw is (rw none refl)
found_all all now (One v) few is none = rw is (rw none refl)
found_all all now Many few is none = absurd few

-- ---- digits

grows : (ds : List ℕ) (n : ℕ) → n ≤ digits_value_after 10 n ds
grows [] n = omega arith
grows (d ∷ ds) n = let more : n * 10 + digit_value d ≤ digits_value_after 10 (n * 10 + digit_value d) ds = grows ds (n * 10 + digit_value d) in omega arith

saturate_by : (ds : List ℕ) (n m : ℕ) → m ≡ min n 65537 → (n < 65537) ⊎ (65537 ≤ n) → min (digits_value_after 10 n ds) 65537 ≡ min (digits_value_after 10 m ds) 65537
saturate_by ds n m is (inl small) = let same : m ≡ n = omega arith in rw same refl
saturate_by ds n m is (inr large) =
    let same : m ≡ 65537 = omega arith in
    let a : n ≤ digits_value_after 10 n ds = grows ds n in
    let b : m ≤ digits_value_after 10 m ds = grows ds m in omega arith

saturate : (ds : List ℕ) (n m : ℕ) → m ≡ min n 65537 → min (digits_value_after 10 n ds) 65537 ≡ min (digits_value_after 10 m ds) 65537
saturate ds n m is = saturate_by ds n m is (cases_lt n 65537)

-- one digit more
pub digit_step : (value left rest : List ℕ) (size byte new : ℕ) → min (digits_value 10 value) 65537 ≡ min (digits_value_after 10 size left) 65537
    → left ≡ byte ∷ rest → 48 ≤ byte → byte ≤ 57 → new ≡ min (size * 10 + (byte - 48)) 65537 → min (digits_value 10 value) 65537 ≡ min (digits_value_after 10 new rest) 65537
digit_step value left rest size byte new found is low high next =
    let digit : digit_value byte + 48 ≡ byte = digit_value_digit byte (low, high) in
    let same : new ≡ min (size * 10 + digit_value byte) 65537 = omega arith in
    rw found (rw is (saturate rest (size * 10 + digit_value byte) new same))

pub digits_on : (left rest : List ℕ) (byte : ℕ) → left ≡ byte ∷ rest → AllDigits 10 left → AllDigits 10 rest
digits_on left rest byte is all = let both : AllDigits 10 (byte ∷ rest) = rw is at all in both.1

pub digits_back : (left rest : List ℕ) (byte : ℕ) → left ≡ byte ∷ rest → 48 ≤ byte → byte ≤ 57 → AllDigits 10 rest → AllDigits 10 left
digits_back left rest byte is low high all =
    let digit : digit_value byte + 48 ≡ byte = digit_value_digit byte (low, high) in
    rw is (omega arith, all)
