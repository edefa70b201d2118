-- Where faults are told.
use Rattle.std.proofs.Common.{◌≡◌, ◌<◌, ◌^◌, ℕ, suc, Bool, true, false, List, [], ◌∷◌, ◌++◌, refl, sym, ap, ◌∙◌, arith}
use Rattle.std.specs.Prelude.{Some, None, Contains, ◌==◌, ◌&&◌, ◌||◌, if◌then◌else◌, slice_index}
use Rattle.std.specs.List.{list_any}
use Rattle.std.proofs.lemmas.Bool.{true≢false}
use Rattle.std.proofs.lemmas.List.Folds.{list_any-append}
use Rattle.tc_decoded.specs.declared.lines.Line.{Line}
use Rattle.tc_decoded.specs.declared.names.Name.{Name}
use Rattle.tc_decoded.specs.declared.places.Place.{Place}
use Rattle.tc_decoded.specs.declared.rows.Fit.TheVariants as fit
use Rattle.tc_decoded.specs.declared.rows.Row.{Row}
use Rattle.tc_decoded.specs.declared.rows.Word.{Word}
use Rattle.tc_decoded.specs.declared.rows.Word.TheVariants as words
use Rattle.tc_decoded.specs.Decoded.{is_fault, is_some}
use Rattle.tc_decoded.specs.Faults.{EndsAt}
use Rattle.tc_decoded.specs.Rows.{fails, line_of, told, word_code}
use Rattle.tc_decoded.specs.Tables.{refused}

-- octets are numbers below 256
abbrev pub AreOctets : List ℕ → Type 0
AreOctets octets = (at : ℕ) → slice_index octets at < 2 ^ 8

-- Some row does not fit, if the reader refuses the layer by this word.
abbrev pub HasFault : Word → List ℕ → List Row → Type 0
HasFault word octets rows = list_any (fails (Some word) octets) rows ≡ true

-- The table of a layer that its reader takes has no fault.
pub taken : (place : Place) (octets : List ℕ) (rows : List Row) → list_any is_fault (told place None octets rows) ≡ false
taken place octets [] = refl
taken place octets (row ∷ rows) = taken place octets rows

same_code : (word : Word) → (word_code word == word_code word) ≡ true
same_code words.Length = refl
same_code words.Check = refl
same_code words.Version = refl
same_code words.Spacecraft = refl
same_code words.Channel = refl
same_code words.Kind = refl
same_code words.Content = refl
same_code words.Header = refl
same_code words.Subtype = refl
same_code words.Data = refl

-- the row `refused` never fits
pub never_fits : (word : Word) (octets : List ℕ) (name : Name) (at number : ℕ) → HasFault word octets (refused (Some word) name at number)
never_fits word octets name at number = ap (λ (b : Bool). (b && true) || false) (same_code word)

one_later : (row : Row) (rows : List Row) (found : Row) → Contains rows found → Contains (row ∷ rows) found
one_later row rows found (k, inside, there) = (suc k, omega (arith, inside), there)

-- a row that fits, before the one that does not
ends_later : (place : Place) (word : Word) (octets : List ℕ) (row : Row) (rows more : List Row) → fails (Some word) octets row ≡ false
    → EndsAt place word octets rows (told place (Some word) octets (rows ++ more))
    → EndsAt place word octets (row ∷ rows) (told place (Some word) octets (row ∷ (rows ++ more)))
ends_later place word octets row rows more e rest =
    record {
      before = line_of place (Some word) octets row ∷ rest.before;
      row = rest.row;
      all =
          ap (λ (b : Bool). line_of place (Some word) octets row ∷ (if b then [] else told place (Some word) octets (rows ++ more))) e
          ∙ ap (λ (l : List Line). line_of place (Some word) octets row ∷ l) rest.all;
      sound = ap (λ (b : Bool). is_some (if b then Some row.fit else None) || list_any is_fault rest.before) e ∙ rest.sound;
      one = one_later row rows rest.row rest.one;
      fault = rest.fault;
    }

ends_here : (place : Place) (word : Word) (octets : List ℕ) (row : Row) (rows more : List Row) → fails (Some word) octets row ≡ true
    → EndsAt place word octets (row ∷ rows) (told place (Some word) octets (row ∷ (rows ++ more)))
ends_here place word octets row rows more e =
    record {
      before = [];
      row = row;
      all = ap (λ (b : Bool). line_of place (Some word) octets row ∷ (if b then [] else told place (Some word) octets (rows ++ more))) e;
      sound = refl;
      one = (0, omega arith, refl);
      fault = e;
    }

first_or : (b : Bool) (place : Place) (word : Word) (octets : List ℕ) (row : Row) (rows more : List Row) → fails (Some word) octets row ≡ b
    → (HasFault word octets rows → EndsAt place word octets rows (told place (Some word) octets (rows ++ more)))
    → HasFault word octets (row ∷ rows) → EndsAt place word octets (row ∷ rows) (told place (Some word) octets (row ∷ (rows ++ more)))
first_or true place word octets row rows more e rest h = ends_here place word octets row rows more e
first_or false place word octets row rows more e rest h =
    ends_later place word octets row rows more e (rest (sym (ap (λ (b : Bool). b || list_any (fails (Some word) octets) rows) e) ∙ h))

-- The lines of rows one of which does not fit end at it, whatever rows come after them.
pub ends_at : (place : Place) (word : Word) (octets : List ℕ) (rows more : List Row) → HasFault word octets rows
    → EndsAt place word octets rows (told place (Some word) octets (rows ++ more))
ends_at place word octets [] more h = absurd (true≢false (sym h))
ends_at place word octets (row ∷ rows) more h =
    first_or (fails (Some word) octets row) place word octets row rows more refl (ends_at place word octets rows more) h

-- a fault in the first rows, or in those after them, is one of all
or_after : (a b : Bool) → b ≡ true → (a || b) ≡ true
or_after true b h = refl
or_after false b h = h

pub in_front : (word : Word) (octets : List ℕ) (rows more : List Row) → HasFault word octets rows → HasFault word octets (rows ++ more)
in_front word octets rows more h =
    list_any-append (fails (Some word) octets) rows more ∙ ap (λ (b : Bool). b || list_any (fails (Some word) octets) more) h

pub behind : (word : Word) (octets : List ℕ) (rows more : List Row) → HasFault word octets more → HasFault word octets (rows ++ more)
behind word octets rows more h =
    list_any-append (fails (Some word) octets) rows more
    ∙ or_after (list_any (fails (Some word) octets) rows) (list_any (fails (Some word) octets) more) h
