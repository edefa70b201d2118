-- The lines of a text, and texts without the spaces around them.
use Rattle.std.proofs.Common.{◌≡◌, ◌≢◌, ℕ, ◌+◌, ◌-◌, ◌<◌, ◌≤◌, zero, suc, Bool, true, false, not, ◌||◌, get_or, eqb, ltb, cond, Some, None, List, []}
use Rattle.std.proofs.Common.{◌∷◌, ◌++◌, length, take, drop, reverse, refl, ap, ◌∙◌, ⊎_elim, arith, rules}
use Rattle.std.specs.Prelude.{if◌then◌else◌}
use Rattle.std.specs.List.{position, position_or_len, before_first, after_first, list_any, slice_split, onto_first}
use Rattle.std.specs.Str.Lines.{lines, lines_of_parts, strip_carriage_return}
use Rattle.std.proofs.Math.Dec.{eqb-suc-zero}
use Rattle.std.proofs.Math.Seq.{take-length}
use Rattle.std.proofs.lemmas.List.{length-drop, drop_all, reverse-append, reverse-reverse}
use Rattle.std.proofs.lemmas.List.Sums.{fails_before_first}
use Rattle.std.proofs.lemmas.List.Splits.{slice_split_none, slice_split_first, length-slice_split}
use Rattle.std.proofs.lemmas.Bool.{cases_Bool, ltb-true, ltb-false, eq-eqb, ne_eqb}
use Rattle.tc_octets.specs.ProfileTexts.{blank, setting, bad, is_equals, trimmed, trimmed_start, statement_in}

abbrev pub is_end : ℕ → Bool
is_end octet = eqb octet 10

-- ---- the first line

pub parts_nonempty : (text : List ℕ) → slice_split is_end text ≡ [] → ⊥
parts_nonempty text e = omega (arith, length-slice_split is_end text, ap length e)

place_of : (p : ℕ → Bool) (text : List ℕ) (place : ℕ) → position p text ≡ Some place
    → (position_or_len p text < length text) × (place ≡ position_or_len p text)
place_of p text place e =
    ⊎_elim (λ b. (ltb-true _ _ b, search rules)) (λ b. search rules) (cases_Bool (ltb (position_or_len p text) (length text)))

no_place : (p : ℕ → Bool) (text : List ℕ) → position p text ≡ None → length text ≤ position_or_len p text
no_place p text e =
    ⊎_elim (λ b. search rules) (λ b. ltb-false _ _ b) (cases_Bool (ltb (position_or_len p text) (length text)))

-- a part that another part follows was ended by an LF
pub more_parts : (part : List ℕ) (parts : List (List ℕ)) → (parts ≡ [] → ⊥)
    → lines_of_parts (part ∷ parts) ≡ strip_carriage_return part ∷ lines_of_parts parts
more_parts part [] h = absurd (h refl)
more_parts part (next ∷ parts) h = refl

one_part : (text : List ℕ) → 0 < length text → lines_of_parts (text ∷ []) ≡ text ∷ []
one_part [] h = absurd (omega arith)
one_part (octet ∷ octets) h = rw (eqb-suc-zero (length octets)) refl

-- the first line ends at the first LF
pub ended_line : (text : List ℕ) (place : ℕ) → position is_end text ≡ Some place
    → lines text ≡ strip_carriage_return (take place text) ∷ lines (take (length text - (place + 1)) (drop (place + 1) text))
ended_line text place e =
    let found = place_of is_end text place e in
    let rest : take (length text - (place + 1)) (drop (place + 1) text) ≡ drop (place + 1) text =
    rw (← length-drop (place + 1) text) (take-length (drop (place + 1) text)) in
    let parts : slice_split is_end text ≡ take place text ∷ slice_split is_end (take (length text - (place + 1)) (drop (place + 1) text)) =
    rw (rest, found.1) (slice_split_first is_end text 0 found.0) in
    ap lines_of_parts parts ∙ more_parts (take place text) _ (parts_nonempty (take (length text - (place + 1)) (drop (place + 1) text)))

take_nothing : (n : ℕ) (xs : List ℕ) → xs ≡ [] → take n xs ≡ []
take_nothing zero xs e = refl
take_nothing (suc n) xs e = rw e refl

-- a text without an LF is its only line
pub last_line : (text : List ℕ) → 0 < length text → position is_end text ≡ None
    → lines text ≡ text ∷ lines (take (length text - length text) (drop (length text) text))
last_line text some e =
    let parts : slice_split is_end text ≡ text ∷ [] =
    slice_split_none is_end text (λ k d h. fails_before_first is_end text k d (omega (arith, no_place is_end text e))) in
    let gone : take (length text - length text) (drop (length text) text) ≡ [] =
    take_nothing (length text - length text) (drop (length text) text) (drop_all (length text) text (omega arith)) in
    rw gone (ap lines_of_parts parts ∙ one_part text some)

-- ---- a text has no more lines than octets

one_at_most : (b : Bool) (part : List ℕ) → length (if b then [] else part ∷ []) ≤ 1
one_at_most true part = omega arith
one_at_most false part = omega arith

one_more : (b : Bool) (octet n : ℕ) (parts : List (List ℕ)) → (parts ≡ [] → ⊥) → length (lines_of_parts parts) ≤ n
    → length (lines_of_parts (cond b ([] ∷ parts) (onto_first octet parts))) ≤ n + 1
one_more b octet n [] h k = absurd (h refl)
one_more true octet n (part ∷ parts) h k = omega arith
one_more false octet n (part ∷ []) h k = omega (arith, one_at_most (eqb (length (octet ∷ part)) 0) (octet ∷ part))
one_more false octet n (part ∷ next ∷ parts) h k = k'
  where
    k' : suc (length (lines_of_parts (next ∷ parts))) ≤ n + 1
    k' = omega (arith, k)

pub few_lines : (text : List ℕ) → length (lines text) ≤ length text
few_lines [] = omega arith
few_lines (octet ∷ octets) =
    let more = one_more (is_end octet) octet (length octets) (slice_split is_end octets) (parts_nonempty octets) (few_lines octets) in omega
    (arith, more)

-- ---- spaces

pub start_step : (text more : List ℕ) → text ≡ 32 ∷ more → trimmed_start text ≡ trimmed_start more
start_step text more e = rw e refl

pub start_stays : (octet : ℕ) (more : List ℕ) → octet ≢ 32 → trimmed_start (octet ∷ more) ≡ octet ∷ more
start_stays octet more h = rw (ne_eqb octet 32 h) refl

pub end_step : (text more : List ℕ) → text ≡ more ++ (32 ∷ []) → trimmed_start (reverse text) ≡ trimmed_start (reverse more)
end_step text more e = rw (e, reverse-append more (32 ∷ [])) refl

pub end_stays : (text more : List ℕ) (octet : ℕ) → text ≡ more ++ (octet ∷ []) → octet ≢ 32 → reverse (trimmed_start (reverse text)) ≡ text
end_stays text more octet e h =
    let turned : reverse text ≡ octet ∷ reverse more = rw (e, reverse-append more (octet ∷ [])) refl in
    rw (turned, start_stays octet (reverse more) h, ← turned) (reverse-reverse text)

-- ---- what a line says

found_any : (b : Bool) (n m : ℕ) (others : Bool) → cond (not b) (1 + n) 0 < suc m → (n < m → others ≡ true) → (b || others) ≡ true
found_any true n m others h more = refl
found_any false n m others h more = more (omega arith)

pub any_found : (p : ℕ → Bool) (xs : List ℕ) → position_or_len p xs < length xs → list_any p xs ≡ true
any_found p [] h = absurd (omega arith)
any_found p (x ∷ xs) h = found_any (p x) (position_or_len p xs) (length xs) (list_any p xs) h (any_found p xs)

found_none : (b : Bool) (n m : ℕ) (others : Bool) → suc m ≤ cond (not b) (1 + n) 0 → (m ≤ n → others ≡ false) → (b || others) ≡ false
found_none true n m others h more = absurd (omega arith)
found_none false n m others h more = more (omega arith)

pub any_none : (p : ℕ → Bool) (xs : List ℕ) → length xs ≤ position_or_len p xs → list_any p xs ≡ false
any_none p [] h = refl
any_none p (x ∷ xs) h = found_none (p x) (position_or_len p xs) (length xs) (list_any p xs) h (any_none p xs)

pub says_nothing : (words : List ℕ) → length words ≡ 0 → statement_in words ≡ blank
says_nothing [] h = refl
says_nothing (first ∷ rest) h = absurd (omega arith)

pub comment_in : (words : List ℕ) → 0 < length words → get_or words 0 0 ≡ 35 → statement_in words ≡ blank
comment_in [] some h = absurd (omega arith)
comment_in (first ∷ rest) some h = rw (eq-eqb first 35 h) refl

-- what words without a comment say
no_comment : (words : List ℕ) → 0 < length words → get_or words 0 0 ≢ 35
    → statement_in words ≡ (if list_any is_equals words then setting (trimmed (before_first is_equals words)) (trimmed (after_first is_equals words))
    else bad)
no_comment [] some h = absurd (omega arith)
no_comment (first ∷ rest) some h = rw (ne_eqb first 35 h) refl

pub setting_in : (words : List ℕ) (place : ℕ) → 0 < length words → get_or words 0 0 ≢ 35 → position is_equals words ≡ Some place
    → statement_in words ≡ setting (trimmed (take place words)) (trimmed (take (length words - (place + 1)) (drop (place + 1) words)))
setting_in words place some h e =
    let found = place_of is_equals words place e in
    let rest : take (length words - (place + 1)) (drop (place + 1) words) ≡ drop (place + 1) words =
    rw (← length-drop (place + 1) words) (take-length (drop (place + 1) words)) in
    no_comment words some h ∙ rw (rest, found.1, any_found is_equals words found.0) refl

pub bad_in : (words : List ℕ) → 0 < length words → get_or words 0 0 ≢ 35 → position is_equals words ≡ None → statement_in words ≡ bad
bad_in words some h e = no_comment words some h ∙ rw (any_none is_equals words (no_place is_equals words e)) refl

pub nonempty : (b : Bool) (xs : List ℕ) → b ≡ eqb (length xs) 0 → b ≡ false → 0 < length xs
nonempty b [] e h = absurd (cc)
nonempty b (x ∷ xs) e h = omega arith
