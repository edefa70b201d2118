-- A line more.
use Rattle.std.proofs.Common.{◌≡◌, ◌∙◌, ℕ, ◌+◌, ◌<◌, ◌≤◌, Bool, true, false, List, [], ◌∷◌, ◌++◌, codes, length, take, nat_lt, ◌==◌, min, refl, sym, ap, subst, append_assoc, arith}
use Rattle.std.proofs.lemmas.Bool.Decides.{nat_tests}
use Rattle.std.proofs.lemmas.Grind.{flat_map-append}
use Rattle.std.proofs.lemmas.List.{append-nil, length-append, take_all, take-append-le}
use Rattle.tc_check.specs.declared.findings.Findings.{Findings}
use Rattle.std.specs.String.{string_bytes}
use Rattle.tc_check.specs.Findings.{Shows, ended, first_line, front_of, is_none_found, shown_lines}

-- ---- tests of how many there are

not_more : (n : ℕ) → n ≤ 20 → nat_lt 20 n ≡ false
not_more n few = grind (arith, nat_tests, few)

is_more : (n : ℕ) → 20 < n → nat_lt 20 n ≡ true
is_more n many = grind (arith, nat_tests, many)

-- ---- what is shown

pub shown_few : (lines : List (List ℕ)) → length lines ≤ 20 → shown_lines lines ≡ ended lines
shown_few lines few =
    rw (not_more (length lines) few) (append-nil (ended (take 20 lines)) ∙ ap ended (take_all 20 lines few))

ended_more : (lines : List (List ℕ)) (line : List ℕ) → ended (lines ++ line ∷ []) ≡ (ended lines ++ line) ++ 10 ∷ []
ended_more lines line =
    flat_map-append (λ (l : List ℕ). l ++ 10 ∷ []) lines (line ∷ [])
    ∙ (ap (λ (l : List ℕ). ended lines ++ l) (append-nil (line ++ 10 ∷ [])) ∙ sym (append_assoc (ended lines) line (10 ∷ [])))

-- one of the first 20
pub shown_more : (lines : List (List ℕ)) (line : List ℕ) → length lines < 20 → shown_lines (lines ++ line ∷ []) ≡ (shown_lines lines ++ line) ++ 10 ∷ []
shown_more lines line few =
    let many = length-append lines (line ∷ []) in
    shown_few (lines ++ line ∷ []) (omega (arith, many, few)) ∙ (ended_more lines line ∙ ap (λ (l : List ℕ). (l ++ line) ++ 10 ∷ []) (sym (shown_few lines (omega (arith, few)))))

-- the first that is not shown
pub shown_last : (lines : List (List ℕ)) (line : List ℕ) → length lines ≡ 20 → shown_lines (lines ++ line ∷ []) ≡ shown_lines lines ++ codes "and more\n"
shown_last lines line many =
    let more = length-append lines (line ∷ []) in
    rw (is_more (length (lines ++ line ∷ [])) (omega (arith, more, many)))
    (ap (λ (l : List (List ℕ)). ended l ++ codes "and more\n") (take-append-le 20 lines (line ∷ []) (omega (arith, many)) ∙ take_all 20 lines (omega (arith, many)))
    ∙ ap (λ (l : List ℕ). l ++ codes "and more\n") (sym (shown_few lines (omega (arith, many)))))

-- no other changes what is shown
pub shown_same : (lines : List (List ℕ)) (line : List ℕ) → 20 < length lines → shown_lines (lines ++ line ∷ []) ≡ shown_lines lines
shown_same lines line many =
    let more = length-append lines (line ∷ []) in
    rw (is_more (length (lines ++ line ∷ [])) (omega (arith, more, many)), is_more (length lines) many)
    (ap (λ (l : List (List ℕ)). ended l ++ codes "and more\n") (take-append-le 20 lines (line ∷ []) (omega (arith, many))))

not_zero : (n : ℕ) → 0 < n → (n == 0) ≡ false
not_zero n some = grind (arith, nat_tests, some)

-- the first of them stays
first_same : (lines : List (List ℕ)) (line : List ℕ) → 0 < length lines → first_line lines ≡ first_line (lines ++ line ∷ [])
first_same [] line some = absurd (omega (arith, some))
first_same (l ∷ ls) line some = refl

pub none_shown : (lines : List (List ℕ)) (kept : Findings) (none : Bool) → Shows lines kept → none ≡ (kept.count == 0) → none ≡ is_none_found lines
none_shown [] kept none shows is = let count = shows.count in is ∙ rw count refl
none_shown (line ∷ lines) kept none shows is = let count = shows.count in is ∙ not_zero kept.count (omega (arith, count))

-- ---- one line after the other

-- the front of these lines is kept, and these are left
pub record ShowsFront (all left : List (List ℕ)) (kept : Findings) : Type 0 where
  pub front : List (List ℕ)
  pub shows : Shows front kept
  pub are : front ++ left ≡ all

pub front_none : (all : List (List ℕ)) (kept : Findings) → Shows [] kept → ShowsFront all all kept
front_none all kept shows = record { front = []; shows = shows; are = refl }

pub front_more : (all lines left : List (List ℕ)) (old new : Findings) → ShowsFront all (lines ++ left) old → ((found : List (List ℕ)) → Shows found old → Shows (found ++ lines) new)
    → ShowsFront all left new
front_more all lines left old new so adds = record { front = so.front ++ lines; shows = adds so.front so.shows; are = append_assoc so.front lines left ∙ so.are }

pub front_all : (all left : List (List ℕ)) (kept : Findings) → ShowsFront all left kept → left ≡ [] → Shows all kept
front_all all left kept so none = subst (λ (lines : List (List ℕ)). Shows lines kept) (sym (append-nil so.front) ∙ (ap (λ (l : List (List ℕ)). so.front ++ l) (sym none) ∙ so.are)) so.shows

-- ---- a line more, as it is kept

first_more : (lines : List (List ℕ)) (line : List ℕ) (count : ℕ) (old new : List ℕ) → count ≡ min (length lines) 21 → old ≡ first_line lines → new ≡ old ++ front_of count line
    → new ≡ first_line (lines ++ line ∷ [])
first_more [] line count old new many is more =
    let none : count ≡ 0 = omega (arith, many) in
    more ∙ rw (is, none) refl
first_more (l ∷ ls) line count old new many is more =
    let other : (count == 0) ≡ false = not_zero count (omega (arith, many)) in
    more ∙ (rw other (append-nil old) ∙ is)

pub shows_more : (lines : List (List ℕ)) (line : List ℕ) (old new : Findings) → Shows lines old → old.count < 20 → string_bytes new.first ≡ string_bytes old.first ++ front_of old.count line
    → string_bytes new.text ≡ (string_bytes old.text ++ line) ++ 10 ∷ [] → new.count ≡ old.count + 1 → Shows (lines ++ line ∷ []) new
shows_more lines line old new shows few first text count =
    let many = shows.count in
    let more = length-append lines (line ∷ []) in
    let small : length lines < 20 = omega (arith, many, few) in
    record {
      first = first_more lines line old.count (string_bytes old.first) (string_bytes new.first) many shows.first first;
      text = text ∙ (ap (λ (l : List ℕ). (l ++ line) ++ 10 ∷ []) shows.text ∙ sym (shown_more lines line small));
      count = omega (arith, many, more, count, few);
    }

-- that there are more
pub shows_last : (lines : List (List ℕ)) (line : List ℕ) (old new : Findings) → Shows lines old → old.count ≡ 20 → string_bytes new.first ≡ string_bytes old.first
    → string_bytes new.text ≡ string_bytes old.text ++ codes "and more\n" → new.count ≡ old.count + 1 → Shows (lines ++ line ∷ []) new
shows_last lines line old new shows full first text count =
    let many = shows.count in
    let more = length-append lines (line ∷ []) in
    let all : length lines ≡ 20 = omega (arith, many, full) in
    record {
      first = first ∙ (shows.first ∙ first_same lines line (omega (arith, all)));
      text = text ∙ (ap (λ (l : List ℕ). l ++ codes "and more\n") shows.text ∙ sym (shown_last lines line all));
      count = omega (arith, many, more, count, full);
    }

pub shows_same : (lines : List (List ℕ)) (line : List ℕ) (kept : Findings) → Shows lines kept → 20 < kept.count → Shows (lines ++ line ∷ []) kept
shows_same lines line kept shows over =
    let many = shows.count in
    let more = length-append lines (line ∷ []) in
    let past : 20 < length lines = omega (arith, many, over) in
    record {
      first = shows.first ∙ first_same lines line (omega (arith, past));
      text = shows.text ∙ sym (shown_same lines line past);
      count = omega (arith, many, more, over);
    }
