-- Words that are compared with words of the grammar.
use Rattle.std.proofs.Common.{◌≡◌, ◌≢◌, ◌∙◌, ℕ, ◌<◌, ◌||◌, Bool, true, false, List, [], ◌∷◌, codes, refl, sym, inl, inr, arith}
use Rattle.std.specs.Prelude.{◌⊎◌}
use Rattle.std.specs.Cmp.Lexicographic.{same_text}
use Rattle.std.specs.Fmt.{decimal, digits}
use Rattle.std.proofs.lemmas.Fmt.{decimal_injective}
use Rattle.tc_script.specs.Verbs.{same}
use Rattle.tc_script.specs.Fits.{is_one_of}

pub word_is : (a b : List ℕ) → same a b ≡ true → a ≡ b
word_is a b is = same_text a b (sym is)

-- a word is one of these
abbrev pub IsAny : List ℕ → List (List ℕ) → Type 0
IsAny word [] = ⊥
IsAny word (name ∷ names) = (word ≡ name) ⊎ IsAny word names

pub any_of : (names : List (List ℕ)) (word : List ℕ) → is_one_of names word ≡ true → IsAny word names
any_of [] word is = cc
any_of (name ∷ names) word is = by_first (same word name) refl is (any_of names word)
  where
    by_first : (first : Bool) → same word name ≡ first → (first || is_one_of names word) ≡ true → (is_one_of names word ≡ true → IsAny word names) → (word ≡ name) ⊎ IsAny word names
    by_first true equal is later = inl (word_is word name equal)
    by_first false equal is later = inr (later is)

-- the decimals of the on-board schedule's service and subtypes
pub decimal_1 : decimal 1 ≡ codes "1"
unfolding digits
decimal_1 = refl

pub decimal_2 : decimal 2 ≡ codes "2"
unfolding digits
decimal_2 = refl

pub decimal_3 : decimal 3 ≡ codes "3"
unfolding digits
decimal_3 = refl

pub decimal_4 : decimal 4 ≡ codes "4"
unfolding digits
decimal_4 = refl

pub decimal_5 : decimal 5 ≡ codes "5"
unfolding digits
decimal_5 = refl

pub decimal_7 : decimal 7 ≡ codes "7"
unfolding digits
decimal_7 = refl

pub decimal_11 : decimal 11 ≡ codes "11"
unfolding digits
decimal_11 = refl

pub decimal_15 : decimal 15 ≡ codes "15"
unfolding digits
decimal_15 = refl

pub decimal_17 : decimal 17 ≡ codes "17"
unfolding digits
decimal_17 = refl

-- another service has another word
pub other_service : (service : ℕ) → service < 256 → service ≢ 11 → same (decimal service) (codes "11") ≡ false
other_service service small other = by_case (same (decimal service) (codes "11")) refl
  where
    by_case : (is : Bool) → same (decimal service) (codes "11") ≡ is → is ≡ false
    by_case false is = refl
    by_case true is = absurd (other (decimal_injective service 11 (omega arith) (omega arith) (word_is (decimal service) (codes "11") is ∙ sym decimal_11)))
