-- Words that lack the separator are the words of the text that joins them.
use Rattle.std.proofs.Common.{◌≡◌, ℕ, ◌+◌, ◌-◌, ◌<◌, ◌≤◌, Bool, true, false, not, eqb, ltb, Option, Some, None, List, [], ◌∷◌, length, take, drop, refl, ap, ◌∙◌, sym, ⊎_elim, arith, rules}
use Rattle.std.specs.List.{list_all, join_with_byte, position, position_or_len, All}
use Rattle.std.proofs.Math.Seq.{take-length}
use Rattle.std.proofs.lemmas.List.{length-drop}
use Rattle.std.proofs.lemmas.List.Sums.{AllPass-from_list_all, fails_before_first}
use Rattle.std.proofs.lemmas.List.Folds.{list_all-append}
use Rattle.std.proofs.lemmas.List.Splits.{slice_split_none, slice_split_at, slice_split_first, length-slice_split, join_with_byte-slice_split}
use Rattle.std.proofs.lemmas.Bool.{cases_Bool, ltb-true, ltb-false, eq-eqb, not-true, and_parts}
use Rattle.tc_types.specs.Words.{words}
use Rattle.tc_types.specs.Grammar.{Reads}

-- no byte of the word is c
abbrev pub lacks : ℕ → List ℕ → Bool
lacks c word = list_all (λ byte. not (eqb byte c)) word

-- a text has a word, be it empty
pub words_nonempty : (c : ℕ) (text : List ℕ) → words c text ≡ [] → ⊥
words_nonempty c text e = omega (arith, length-slice_split (λ byte. eqb byte c) text, ap length e)

place_of : (p : ℕ → Bool) (text : List ℕ) (place : ℕ) → position p text ≡ Some place → (position_or_len p text < length text) × (place ≡ position_or_len p text)
place_of p text place e =
    ⊎_elim (λ b. (ltb-true _ _ b, search rules)) (λ b. search rules) (cases_Bool (ltb (position_or_len p text) (length text)))

no_place : (p : ℕ → Bool) (text : List ℕ) → position p text ≡ None → length text ≤ position_or_len p text
no_place p text e =
    ⊎_elim (λ b. search rules) (λ b. ltb-false _ _ b) (cases_Bool (ltb (position_or_len p text) (length text)))

-- the first word ends at the first separator
pub first_word : (c : ℕ) (text : List ℕ) (place : ℕ) → position (λ byte. eqb byte c) text ≡ Some place → words c text ≡ take place text ∷ words c (take (length text - (place + 1)) (drop (place + 1) text))
first_word c text place e =
    let found = place_of (λ byte. eqb byte c) text place e in
    let rest : take (length text - (place + 1)) (drop (place + 1) text) ≡ drop (place + 1) text = rw (← length-drop (place + 1) text) (take-length (drop (place + 1) text)) in
    rw (rest, found.1) (slice_split_first (λ byte. eqb byte c) text 0 found.0)

-- where there is no separator, the text is its one word
pub only_word : (c : ℕ) (text : List ℕ) → position (λ byte. eqb byte c) text ≡ None → words c text ≡ text ∷ []
only_word c text e =
    slice_split_none (λ byte. eqb byte c) text (λ k d h. fails_before_first (λ byte. eqb byte c) text k d (omega (arith, no_place (λ byte. eqb byte c) text e)))

all_fail : (c : ℕ) (word : List ℕ) → lacks c word ≡ true → All (λ byte. eqb byte c ≡ false) word
all_fail c word h = λ k d below. not-true _ (AllPass-from_list_all (λ byte. not (eqb byte c)) word h k d below)

-- what is joined is cut into the same words
pub words_joined : (c : ℕ) (ws : List (List ℕ)) → list_all (lacks c) ws ≡ true → 0 < length ws → words c (join_with_byte c ws) ≡ ws
words_joined c [] h some = absurd (omega arith)
words_joined c (w ∷ []) h some = slice_split_none (λ byte. eqb byte c) w (all_fail c w (and_parts _ _ h).0)
words_joined c (w ∷ v ∷ ws) h some =
    let parts = and_parts (lacks c w) (list_all (lacks c) (v ∷ ws)) h in
    slice_split_at (λ byte. eqb byte c) w c (join_with_byte c (v ∷ ws)) (all_fail c w parts.0) (eq-eqb c c refl)
    ∙ ap (λ others. w ∷ others) (words_joined c (v ∷ ws) parts.1 (omega arith))

-- what joins words without a byte has it not, if it is not the one that joins them
pub lacks_joined : (c d : ℕ) (ws : List (List ℕ)) → eqb c d ≡ false → list_all (lacks d) ws ≡ true → lacks d (join_with_byte c ws) ≡ true
lacks_joined c d [] ne h = refl
lacks_joined c d (w ∷ []) ne h = (and_parts _ _ h).0
lacks_joined c d (w ∷ v ∷ ws) ne h =
    let parts = and_parts (lacks d w) (list_all (lacks d) (v ∷ ws)) h in
    let rest : lacks d (join_with_byte c (v ∷ ws)) ≡ true = lacks_joined c d (v ∷ ws) ne parts.1 in
    list_all-append (λ byte. not (eqb byte d)) w (c ∷ join_with_byte c (v ∷ ws)) ∙ rw (parts.0, ne, rest) refl

-- a reader of words is a reader of the text that they are joined to
pub reads_joined : {X : Type 0} (c : ℕ) (spell : X → List (List ℕ)) (In : X → Type 0) (text : List ℕ) (read : Option X) → ((x : X) → In x → (list_all (lacks c) (spell x) ≡ true) × (0 < length (spell x))) → Reads spell In (words c text) read → Reads (λ x. join_with_byte c (spell x)) In text read
reads_joined c spell In text None parted given =
    record { found = tt; only = λ x h e. given.only x h (ap (words c) e ∙ words_joined c (spell x) (parted x h).0 (parted x h).1) }
reads_joined c spell In text (Some read) parted given =
    record {
      found = (sym (join_with_byte-slice_split c text) ∙ ap (join_with_byte c) given.found.0, given.found.1);
      only = λ x h e. given.only x h (ap (words c) e ∙ words_joined c (spell x) (parted x h).0 (parted x h).1);
    }
