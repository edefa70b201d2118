-- The rows of a table, read one after the other: records that spell rows, and the first that is wrong.
use Rattle.std.proofs.Common.{Some, Option, ◌≡◌, inl, inr, ℕ, zero, suc, ◌+◌, ◌-◌, ◌<◌, None, List, [], ◌∷◌, ◌++◌, length, get_or, take, drop, map, refl, sym, ◌∙◌, ap, ◌==◌, true, arith}
use Rattle.std.specs.Prelude.{IfSome}
use Rattle.std.specs.Fmt.{decimal}
use native.Mathlib.Numerals.{unary_clauses}
use Rattle.tc_types.specs.Numbers.{IsNumber}
use Rattle.tc_types.specs.Grammar.{Reads}
use Rattle.std.proofs.lemmas.Bool.Decides.{nat_tests}
use Rattle.std.proofs.lemmas.Fmt.{decimal_nonempty, decimal_injective}
use Rattle.std.proofs.lemmas.List.{take_all}
use Rattle.csv.specs.Records.{Row, field_at, fields_of}
use Rattle.tc_csv.specs.declared.columns.Column.{Column}
use Rattle.tc_csv.specs.declared.faults.Rule.{Rule}
use Rattle.tc_csv.specs.declared.faults.Fault.{Fault}
use Rattle.tc_csv.specs.Faults.{KeepsAll, RowKeeps, FirstBroken, FirstBrokenRow}
use Rattle.tc_csv.specs.Rows.{SpellRows}
use Rattle.tc_csv.specs.Tables.{number_field, IsTableFault, KeepsTable, broken_at, table_rules}

-- a field that is not there is empty
pub none_get : (fields : List (List ℕ)) (i : ℕ) → field_at fields i ≡ None → get_or fields i [] ≡ []
unfolding field_at
none_get [] i none = refl
none_get (f ∷ fs) zero none = cc
none_get (f ∷ fs) (suc i) none = none_get fs i none

some_number : (n : ℕ) → IsNumber n → 0 ≡ length (decimal n) → ⊥
some_number n small none = let some : 0 < length (decimal n) = decimal_nonempty n (omega (arith, small)) in omega (arith, some, none)

-- no field names no number
pub no_number : (field : List ℕ) → true ≡ (length field == 0) → Reads number_field (λ named. IfSome named IsNumber) field (Some None)
no_number [] empty = record { found = (refl, tt); only = others }
  where
    others : (named : Option ℕ) → IfSome named IsNumber → [] ≡ number_field named → Some None ≡ Some named
    others None small is = refl
    others (Some n) small is = absurd (some_number n small (ap length is))
no_number (f ∷ fs) empty = let none : length (f ∷ fs) ≡ 0 = grind (arith, nat_tests, empty) in absurd (omega (arith, none))

-- a field names one number at most
pub number_same : (a b : Option ℕ) → IfSome a IsNumber → IfSome b IsNumber → number_field a ≡ number_field b → a ≡ b
number_same None None first second same = refl
number_same None (Some n) first second same = absurd (some_number n second (ap length same))
number_same (Some n) None first second same = absurd (some_number n first (ap length (sym same)))
number_same (Some m) (Some n) first second same = ap Some (decimal_injective m n (omega (arith, first)) (omega (arith, second)) same)

-- ---- the first that is broken

-- where all are kept, none is broken
pub kept_unbroken : (Keeps : Rule → Type 0) (rules : List Rule) (broken : Rule) → KeepsAll Keeps rules → FirstBroken Keeps rules broken → ⊥
kept_unbroken Keeps [] broken kept first = first
kept_unbroken Keeps (r ∷ rs) broken kept (inl here) = here.0 kept.0
kept_unbroken Keeps (r ∷ rs) broken kept (inr later) = kept_unbroken Keeps rs broken kept.1 later.1

-- there is one first rule that is broken
pub first_once : (Keeps : Rule → Type 0) (rules : List Rule) (a b : Rule) → FirstBroken Keeps rules a → FirstBroken Keeps rules b → a ≡ b
first_once Keeps [] a b x y = absurd x
first_once Keeps (r ∷ rs) a b (inl x) (inl y) = x.1 ∙ sym y.1
first_once Keeps (r ∷ rs) a b (inl x) (inr y) = absurd (x.0 y.0)
first_once Keeps (r ∷ rs) a b (inr x) (inl y) = absurd (y.0 x.0)
first_once Keeps (r ∷ rs) a b (inr x) (inr y) = first_once Keeps rs a b x.1 y.1

pub fault_same : (a b : Fault) → a.row ≡ b.row → a.rule ≡ b.rule → a ≡ b
fault_same a b row broken = λ i. record { row = row i; rule = broken i }

-- and one fault of a table
pub table_once : (columns : List Column) (most_rows : ℕ) (text : List ℕ) (a b : Fault) → IsTableFault columns most_rows text a → IsTableFault columns most_rows text b → a ≡ b
table_once columns most_rows text a b x y =
    let same = first_once (KeepsTable columns most_rows text) table_rules a.rule b.rule x.broken y.broken in
    fault_same a b (x.row ∙ ap (broken_at most_rows) same ∙ sym y.row) same

-- and one first row that breaks one
pub row_once : (Keeps : RowKeeps) (rules : List Rule) (number : ℕ) (rows : List (List (List ℕ))) (a b : Fault) → FirstBrokenRow Keeps rules number rows a → FirstBrokenRow Keeps rules number rows b → a ≡ b
row_once Keeps rules number [] a b x y = absurd x
row_once Keeps rules number (row ∷ rows) a b (inl x) (inl y) = fault_same a b (x.1 ∙ sym y.1) (first_once (Keeps number row) rules a.rule b.rule x.0 y.0)
row_once Keeps rules number (row ∷ rows) a b (inl x) (inr y) = absurd (kept_unbroken (Keeps number row) rules a.rule y.0 x.0)
row_once Keeps rules number (row ∷ rows) a b (inr x) (inl y) = absurd (kept_unbroken (Keeps number row) rules b.rule x.0 y.0)
row_once Keeps rules number (row ∷ rows) a b (inr x) (inr y) = row_once Keeps rules (number + 1) rows a b x.1 y.1

-- the first rule of some is the first of them and others
pub broken_among : (Keeps : Rule → Type 0) (before after : List Rule) (broken : Rule) → FirstBroken Keeps before broken → FirstBroken Keeps (before ++ after) broken
broken_among Keeps [] after broken first = absurd first
broken_among Keeps (r ∷ rs) after broken (inl here) = inl here
broken_among Keeps (r ∷ rs) after broken (inr later) = inr (later.0, broken_among Keeps rs after broken later.1)

-- the first rule behind some that are kept
pub broken_behind : (Keeps : Rule → Type 0) (before after : List Rule) (broken : Rule) → KeepsAll Keeps before → FirstBroken Keeps after broken → FirstBroken Keeps (before ++ after) broken
broken_behind Keeps [] after broken kept first = first
broken_behind Keeps (r ∷ rs) after broken kept first = inr (kept.0, broken_behind Keeps rs after broken kept.1 first)

-- ---- the rows of a list, one more at a time

-- a row among others, with those before and those behind it
pub split_at : (rows : List Row) (i : ℕ) (row : Row) → i < length rows → row ≡ get_or rows i row → map fields_of rows ≡ take i (map fields_of rows) ++ fields_of row ∷ drop (suc i) (map fields_of rows)
split_at [] i row low is = absurd (omega (arith, low))
split_at (r ∷ rs) zero row low is = ap (λ x. fields_of x ∷ map fields_of rs) (sym is)
split_at (r ∷ rs) (suc i) row low is = ap (λ l. fields_of r ∷ l) (split_at rs i row (omega (arith, low)) is)

taken : (rows : List Row) (i : ℕ) (row : Row) → i < length rows → row ≡ get_or rows i row → take (suc i) (map fields_of rows) ≡ take i (map fields_of rows) ++ fields_of row ∷ []
taken [] i row low is = absurd (omega (arith, low))
taken (r ∷ rs) zero row low is = ap (λ x. fields_of x ∷ []) (sym is)
taken (r ∷ rs) (suc i) row low is = ap (λ l. fields_of r ∷ l) (taken rs i row (omega (arith, low)) is)

-- the rows up to one, and that one
pub taken_more : (rows : List Row) (i : ℕ) (row : Row) → i < length rows → row ≡ get_or rows i row → take (i + 1) (map fields_of rows) ≡ take i (map fields_of rows) ++ fields_of row ∷ []
taken_more rows i row low is = simp unary_clauses (taken rows i row low is)

-- the rows behind the header
pub rows_behind : (records : List Row) → map fields_of (take (length records - 1) (drop 1 records)) ≡ drop 1 (map fields_of records)
rows_behind [] = refl
rows_behind (r ∷ rs) = let count : suc (length rs) - 1 ≡ length rs = omega arith in rw count (ap (map fields_of) (take_all (length rs) rs (omega arith)))

-- ---- records that spell rows

-- a row more
pub spell_more : {R : Type 0} (Spells : ℕ → List (List ℕ) → R → Type 0) (number m : ℕ) (given : List (List (List ℕ))) (rows : List R) (fields : List (List ℕ)) (row : R) → m ≡ number + length rows
    → SpellRows Spells number given rows → Spells m fields row → SpellRows Spells number (given ++ fields ∷ []) (rows ++ row ∷ [])
spell_more Spells number m [] [] fields row at before is = let same : m ≡ number = omega (arith, at) in (rw same at is, tt)
spell_more Spells number m [] (r ∷ rs) fields row at before is = absurd before
spell_more Spells number m (f ∷ fs) [] fields row at before is = absurd before
spell_more Spells number m (f ∷ fs) (r ∷ rs) fields row at before is = (before.0, spell_more Spells (number + 1) m fs rs fields row (omega (arith, at)) before.1 is)

-- the fault of a row behind rows that are spelled
pub fault_behind : {R : Type 0} (Spells : ℕ → List (List ℕ) → R → Type 0) (Keeps : RowKeeps) (rules : List Rule)
    → ((number : ℕ) (fields : List (List ℕ)) (row : R) → Spells number fields row → KeepsAll (Keeps number fields) rules)
    → (number m : ℕ) (given : List (List (List ℕ))) (rows : List R) (fields : List (List ℕ)) (others : List (List (List ℕ))) (fault : Fault) → m ≡ number + length rows
    → SpellRows Spells number given rows → FirstBroken (Keeps m fields) rules fault.rule → fault.row ≡ m → FirstBrokenRow Keeps rules number (given ++ fields ∷ others) fault
fault_behind Spells Keeps rules keep number m [] [] fields others fault at before broken is = let same : m ≡ number = omega (arith, at) in inl (rw same at broken, is ∙ same)
fault_behind Spells Keeps rules keep number m [] (r ∷ rs) fields others fault at before broken is = absurd before
fault_behind Spells Keeps rules keep number m (f ∷ fs) [] fields others fault at before broken is = absurd before
fault_behind Spells Keeps rules keep number m (f ∷ fs) (r ∷ rs) fields others fault at before broken is =
    inr (keep number f r before.0, fault_behind Spells Keeps rules keep (number + 1) m fs rs fields others fault (omega (arith, at)) before.1 broken is)

-- rows that are spelled break no rule
pub rows_unbroken : {R : Type 0} (Spells : ℕ → List (List ℕ) → R → Type 0) (Keeps : RowKeeps) (rules : List Rule)
    → ((number : ℕ) (fields : List (List ℕ)) (row : R) → Spells number fields row → KeepsAll (Keeps number fields) rules)
    → (number : ℕ) (given : List (List (List ℕ))) (rows : List R) (fault : Fault) → SpellRows Spells number given rows → FirstBrokenRow Keeps rules number given fault → ⊥
rows_unbroken Spells Keeps rules keep number [] rows fault spelled broken = broken
rows_unbroken Spells Keeps rules keep number (f ∷ fs) [] fault spelled broken = spelled
rows_unbroken Spells Keeps rules keep number (f ∷ fs) (r ∷ rs) fault spelled (inl here) = kept_unbroken (Keeps number f) rules fault.rule (keep number f r spelled.0) here.0
rows_unbroken Spells Keeps rules keep number (f ∷ fs) (r ∷ rs) fault spelled (inr later) = rows_unbroken Spells Keeps rules keep (number + 1) fs rs fault spelled.1 later.1

-- as many rows as records
pub spell_length : {R : Type 0} (Spells : ℕ → List (List ℕ) → R → Type 0) (number : ℕ) (given : List (List (List ℕ))) (rows : List R) → SpellRows Spells number given rows → length given ≡ length rows
spell_length Spells number [] [] spelled = refl
spell_length Spells number [] (r ∷ rs) spelled = absurd spelled
spell_length Spells number (f ∷ fs) [] spelled = absurd spelled
spell_length Spells number (f ∷ fs) (r ∷ rs) spelled = let rest = spell_length Spells (number + 1) fs rs spelled.1 in omega (arith, rest)
