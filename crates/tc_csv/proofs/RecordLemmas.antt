-- The records that a reader gave one after the other are the records of the text.
use Rattle.std.proofs.Common.{◌≡◌, ℕ, zero, suc, ◌+◌, ◌≤◌, ◌<◌, ◌==◌, Bool, true, false, ◌||◌, if◌then◌else◌, Option, Some, None, List, [], ◌∷◌, ◌++◌, length, refl, ap, subst, arith}
use Rattle.std.specs.Prelude.{⊤}
use Rattle.csv.specs.Machine.{Read, ends_at_end, next_record, step, is_end, in_field, start_field, start_record, fields_after, field_after}
use Rattle.csv.specs.Reading.{AreRecords, Reached, default_config, records_from, strip_bom}
use Rattle.csv.specs.declared.parser.State.{State}
use Rattle.csv.specs.declared.parser.State.TheVariants as st
use Rattle.csv.specs.declared.parser.Action.{Action}
use Rattle.csv.specs.declared.parser.Action.TheVariants as act
use Rattle.tc_csv.specs.Tables.{records_of}

-- a byte that ends a record leaves a state in which the text may end
abbrev EndsWell : State × Action → Type 0
EndsWell after = is_end after.1 ≡ true → ends_at_end after.0 ≡ false

in_field_ends : (c : ℕ) → EndsWell (in_field default_config c)
in_field_ends c = by_byte (c == 44) (c == 13) (c == 10)
  where
    by_byte : (comma cr lf : Bool) → EndsWell (if comma then (st.StartField, act.EndField) else if cr || lf then (if cr then st.AfterCr else st.StartRecord, act.EndRecord) else (st.InField, act.Copy))
    by_byte true cr lf e = cc
    by_byte false true lf e = refl
    by_byte false false true e = refl
    by_byte false false false e = cc

start_field_ends : (c : ℕ) → EndsWell (start_field default_config c)
start_field_ends c = by_byte (c == 34)
  where
    by_byte : (quote : Bool) → EndsWell (if quote then (st.InQuoted, act.Skip) else in_field default_config c)
    by_byte true e = cc
    by_byte false e = in_field_ends c e

start_record_ends : (c : ℕ) → EndsWell (start_record default_config c)
start_record_ends c = by_byte ((c == 13) || (c == 10))
  where
    by_byte : (end : Bool) → EndsWell (if end then (st.StartRecord, act.Skip) else start_field default_config c)
    by_byte true e = cc
    by_byte false e = start_field_ends c e

step_ends : (s : State) (c : ℕ) → EndsWell (step default_config s c)
step_ends st.StartRecord c = start_record_ends c
step_ends st.StartField c = start_field_ends c
step_ends st.InField c = in_field_ends c
step_ends st.InQuoted c = by_byte (c == 34)
  where
    by_byte : (quote : Bool) → EndsWell (if quote then (st.AfterQuote, act.Skip) else (st.InQuoted, act.Copy))
    by_byte true e = cc
    by_byte false e = cc
step_ends st.InEscape c = λ e. cc
step_ends st.AfterQuote c = by_byte (c == 34)
  where
    by_byte : (quote : Bool) → EndsWell (if quote then (st.InQuoted, act.Copy) else in_field default_config c)
    by_byte true e = cc
    by_byte false e = in_field_ends c e
step_ends st.InComment c = by_byte (c == 10)
  where
    by_byte : (end : Bool) → EndsWell (if end then (st.StartRecord, act.Skip) else (st.InComment, act.Skip))
    by_byte true e = cc
    by_byte false e = cc
step_ends st.AfterCr c = by_byte (c == 10)
  where
    by_byte : (end : Bool) → EndsWell (if end then (st.StartRecord, act.Skip) else start_record default_config c)
    by_byte true e = cc
    by_byte false e = start_record_ends c e

-- what a record's read leaves: no more bytes than these, and a state in which the text may end
abbrev Leaves : ℕ → Option Read → Type 0
Leaves most None = ⊤
Leaves most (Some p) = (length p.2 ≤ most) × (ends_at_end p.1 ≡ false)

leaves_more : (a b : ℕ) (o : Option Read) → a ≤ b → Leaves a o → Leaves b o
leaves_more a b None le h = tt
leaves_more a b (Some p) le h = (omega (arith, h.0), h.1)

leaves : (s : State) (fields : List (List ℕ)) (field xs : List ℕ) → Leaves (length xs) (next_record default_config s fields field xs)
unfolding next_record
leaves s fields field [] = by_state (ends_at_end s)
  where
    by_state : (t : Bool) → Leaves 0 (if t then Some (fields ++ (field ∷ []), st.StartRecord, []) else None)
    by_state true = (omega arith, refl)
    by_state false = tt
leaves s fields field (c ∷ rest) =
    by_end (is_end (step default_config s c).1) (step_ends s c) (leaves (step default_config s c).0 (fields_after (step default_config s c).1 fields field) (field_after (step default_config s c).1 c field) rest)
  where
    by_end : (t : Bool) → (t ≡ true → ends_at_end (step default_config s c).0 ≡ false)
        → Leaves (length rest) (next_record default_config (step default_config s c).0 (fields_after (step default_config s c).1 fields field) (field_after (step default_config s c).1 c field) rest)
        → Leaves (suc (length rest)) (if t then Some (fields_after (step default_config s c).1 fields field, (step default_config s c).0, rest) else next_record default_config (step default_config s c).0 (fields_after (step default_config s c).1 fields field) (field_after (step default_config s c).1 c field) rest)
    by_end true ends fewer = (omega arith, ends refl)
    by_end false ends fewer = leaves_more _ _ (next_record default_config (step default_config s c).0 (fields_after (step default_config s c).1 fields field) (field_after (step default_config s c).1 c field) rest) (omega arith) fewer

-- where the text may end, a record takes a byte at least
takes : (s : State) (xs : List ℕ) (p : Read) → ends_at_end s ≡ false → next_record default_config s [] [] xs ≡ Some p → (length p.2 < length xs) × (ends_at_end p.1 ≡ false)
unfolding next_record
takes s [] p may is = let none : ◌≡◌ {A = Option Read} None (Some p) = rw may at is in cc
takes s (c ∷ rest) p may is = by_end (is_end (step default_config s c).1) (step_ends s c) is
  where
    by_end : (t : Bool) → (t ≡ true → ends_at_end (step default_config s c).0 ≡ false)
        → (if t then Some (fields_after (step default_config s c).1 [] [], (step default_config s c).0, rest) else next_record default_config (step default_config s c).0 (fields_after (step default_config s c).1 [] []) (field_after (step default_config s c).1 c []) rest) ≡ Some p
        → (length p.2 < suc (length rest)) × (ends_at_end p.1 ≡ false)
    by_end true ends is =
        let there : Leaves (length rest) (Some (fields_after (step default_config s c).1 [] [], (step default_config s c).0, rest)) = (omega arith, ends refl) in
        let here = subst (Leaves (length rest)) is there in
        (omega (arith, here.0), here.1)
    by_end false ends is =
        let here = subst (Leaves (length rest)) is (leaves (step default_config s c).0 (fields_after (step default_config s c).1 [] []) (field_after (step default_config s c).1 c []) rest) in
        (omega (arith, here.0), here.1)

-- with as many turns as there are bytes, and one more
all_from : (n : ℕ) (s : State) (xs : List ℕ) (rows : List (List (List ℕ))) → ends_at_end s ≡ false → length xs < n → AreRecords default_config s xs rows → rows ≡ records_from default_config n s xs
unfolding Reached records_from
all_from zero s xs rows may few are = absurd (omega (arith, few))
all_from (suc n) s xs [] may few (s2, ys, (same, left), none) = rw (same, left, none) refl
all_from (suc n) s xs (r ∷ rs) may few (s2, ys, (p, is, first, reached), none) =
    let less = takes s xs p may is in
    rw (is, first) (ap (λ l. p.0 ∷ l) (all_from n p.1 p.2 rs less.1 (omega (arith, less.0, few)) (s2, ys, reached, none)))

-- the records that were read are the records of the text
pub records_are : (text : List ℕ) (rows : List (List (List ℕ))) → AreRecords default_config st.StartRecord (strip_bom text) rows → rows ≡ records_of text
records_are text rows are = all_from (length (strip_bom text) + 1) st.StartRecord (strip_bom text) rows refl (omega arith) are
