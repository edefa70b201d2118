-- The numbers of the arguments.
use Rattle.std.proofs.Common.{◌≡◌, ◌≤◌, ◌<◌, ◌^◌, ℕ, Bool, true, false, List, Option, Some, None, Result, Ok, Err, refl, subst, arith}
use Rattle.std.specs.Prelude.{◌&&◌, if◌then◌else◌, IfSome, nat_le, nat_lt}
use Rattle.std.proofs.lemmas.Bool.{le-leb, leb-true, lt-ltb}
use Rattle.std.specs.Str.Parse.{ParsesUnsigned, digits_value, without_leading_plus}
use Rattle.clap.specs.Matches.{ReadsOne, one_text}
use Rattle.clap.specs.ValueTests.{accepts, is_numeral}
use Rattle.clap.specs.Words.{Text, one_of, rows_of}
use Rattle.clap.specs.declared.parser.matches.Found.{Found}
use Rattle.clap.specs.declared.builder.value_parser.ValueParser.TheVariants as parser
use Rattle.clap.proofs.WalkLemmas.{both, one_text-rows}
use Rattle.clap.proofs.ValueTestLemmas.{Accepts-accepts, accepts-Accepts}
use Rattle.tc_world.specs.declared.configs.TheConstants.{GREATEST_RING}
use Rattle.tc_world.specs.Config.{IsRing}
use Rattle.tc_words.specs.Asked.{number_within}

-- a number that was read, where it is one from least to most
abbrev kept : ℕ → ℕ → Option ℕ → Option ℕ
kept least most None = None
kept least most (Some n) = if nat_le least n && nat_le n most then Some n else None

pub kept_in : (least most n : ℕ) (r : Option ℕ) → r ≡ Some n → least ≤ n → n ≤ most → Some n ≡ kept least most r
kept_in least most n r is low high = rw (is, le-leb _ _ low, le-leb _ _ high) refl

pub kept_none : (least most : ℕ) (r : Option ℕ) → r ≡ None → None ≡ kept least most r
kept_none least most r is = rw is refl

pub kept_out : (least most n : ℕ) (r : Option ℕ) → r ≡ Some n → (least ≤ n → n ≤ most → ⊥) → None ≡ kept least most r
kept_out least most n r is out = rw is (go (nat_le least n && nat_le n most) refl)
  where
    go : (b : Bool) → (nat_le least n && nat_le n most) ≡ b → None ≡ (if b then Some n else None)
    go false e = refl
    go true e = let parts = both _ _ e in absurd (out (leb-true _ _ parts.0) (leb-true _ _ parts.1))

-- a ring of a number that was read has a size that there is
pub ring_within : (r : Option ℕ) → IfSome r (λ number. (1 ≤ number) × (number ≤ GREATEST_RING)) → IsRing r
ring_within None within = tt
ring_within (Some n) within = within

-- the texts that a u32 reads as a number from least to most are those which the parser of an argument lets through
module _ (E : Type 0) (least most : ℕ) (text : Text) where
  passes : (n : ℕ) → ParsesUnsigned {E = E} 32 10 text (Ok n) → accepts false (parser.Unsigned least most) text ≡ (nat_le least n && nat_le n most)
  passes n h =
      let small : digits_value 10 (without_leading_plus text) < 4294967296 = h.0.1 in
      let own = Accepts-accepts false (parser.Unsigned (digits_value 10 (without_leading_plus text)) (digits_value 10 (without_leading_plus text))) text
      (h.0.0, omega arith, omega arith, omega arith) in
      let numeral : is_numeral (without_leading_plus text) ≡ true = (both _ _ own).0 in
      let wide : nat_lt (digits_value 10 (without_leading_plus text)) (2 ^ 64) ≡ true = lt-ltb _ _ (omega arith) in
      rw (numeral, wide, h.1) refl

  read_text : most < 4294967296 → (r : Option ℕ) → ReadsOne {T = ℕ} {E = E} (ParsesUnsigned 32 10) text r → kept least most r ≡ number_within least most (Some text)
  read_text small (Some n) h = rw (passes n h, h.1) refl
  read_text small None h = go (accepts false (parser.Unsigned least most) text) refl
    where
      go : (b : Bool) → accepts false (parser.Unsigned least most) text ≡ b → None ≡ (if b then Some (digits_value 10 (without_leading_plus text)) else None)
      go false e = refl
      go true e =
          let within = accepts-Accepts false (parser.Unsigned least most) text e in
          absurd (h.1 (within.0, omega arith))

read_weaker : {T E : Type 0} (gives weaker : List ℕ → Result T E → Type 0) → ((t : List ℕ) (r : Result T E) → gives t r → weaker t r)
    → (t : List ℕ) (o : Option T) → ReadsOne {T = T} {E = E} gives t o → ReadsOne {T = T} {E = E} weaker t o
read_weaker gives weaker less t (Some v) h = less t (Ok v) h
read_weaker gives weaker less t None h = (h.0, less t (Err h.0) h.1)

-- what was read of an option is the number that stands in the rows
pub read_number : {E : Type 0} (gives : List ℕ → Result ℕ E → Type 0) → ((t : List ℕ) (r : Result ℕ E) → gives t r → ParsesUnsigned 32 10 t r)
    → (f : Found) (id : Text) (least most : ℕ) (r : Option ℕ) → most < 4294967296
    → (one_text f id ≡ None → r ≡ None) → ((t : List ℕ) → one_text f id ≡ Some t → ReadsOne {T = ℕ} {E = E} gives t r)
    → kept least most r ≡ number_within least most (one_of id (rows_of f))
read_number {E = E} gives less f id least most r small none value =
    subst (λ (o : Option Text). kept least most r ≡ number_within least most o) (one_text-rows f id) (go (one_text f id) refl)
  where
    go : (o : Option Text) → one_text f id ≡ o → kept least most r ≡ number_within least most o
    go None e = rw (none e) refl
    go (Some t) e = read_text E least most t small r (read_weaker gives (ParsesUnsigned 32 10) less t r (value t e))
