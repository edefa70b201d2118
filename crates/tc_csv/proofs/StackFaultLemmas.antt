-- All that is wrong with the text of a stack.
use Rattle.std.proofs.Common.{◌≡◌, ◌≢◌, ◌∙◌, inl, inr, ℕ, ◌+◌, ◌-◌, ◌<◌, ◌≤◌, Bool, true, false, if◌then◌else◌, Option, Some, None, List, [], ◌∷◌, ◌++◌, length, get_or, take, drop, map, refl, sym, ap, subst, append_assoc, arith}
use Rattle.std.proofs.lemmas.List.{at_drop_more, length-drop, length-map, length-take}
use Rattle.csv.specs.Records.{Row, fields_of}
use Rattle.std.proofs.lemmas.Option.{same_Some}
use Rattle.tc_csv.specs.declared.faults.Rule.TheVariants.{TargetRow}
use Rattle.tc_csv.specs.declared.faults.Fault.{Fault}
use Rattle.tc_csv.specs.Faults.{KeepsAll, FirstBrokenRow}
use Rattle.tc_csv.specs.FaultLists.{BrokenRows, first_fault}
use Rattle.tc_csv.specs.Rows.{SpellRows}
use Rattle.tc_csv.specs.Tables.{records_of, IsTable, KeepsTable, table_rules}
use Rattle.tc_csv.proofs.RowLemmas.{kept_unbroken, table_once, rows_unbroken, spell_length}
use Rattle.tc_csv.proofs.FaultListLemmas.{head_broken, broken_once, none_broken}
use Rattle.tc_stack.specs.declared.stacks.StackRow.{StackRow}
use Rattle.tc_stack.specs.Stacks.{first_barred, names_barred}
use Rattle.tc_csv.specs.StackTexts.{stack_columns, SpellsRow, KeepsRow, row_rules, SpellsStack, Tells}
use Rattle.tc_csv.specs.RowTexts.{SpellsOnlyRow}
use Rattle.tc_csv.specs.StackFaults.{AreBarred, AreRowFaults, AreStackFaults, barred_fault, barred_faults, barred_row}
use Rattle.tc_csv.proofs.StackTextLemmas.{row_keeps, rows_only, rows_stand}

-- ---- targets, one row after the other

-- the rows from this one on, of which this one names what it may not name, or does not
pub barred_next : (all : List StackRow) (rows : List StackRow) (i : ℕ) (row : StackRow) (found : List Fault) (barred : Bool) → i < length rows → row ≡ get_or rows i row → names_barred all row ≡ barred
    → barred_faults all 1 rows ≡ found ++ barred_faults all (i + 1) (drop i rows)
    → barred_faults all 1 rows ≡ (found ++ barred_row barred (i + 1)) ++ barred_faults all (i + 1 + 1) (drop (i + 1) rows)
barred_next all rows i row found barred low is test so =
    so
    ∙ (ap (λ (later : List Fault). found ++ later) (at_drop_more (barred_faults all (i + 1)) rows i row low
    ∙ ap (λ (r : StackRow). barred_row (names_barred all r) (i + 1) ++ barred_faults all (i + 1 + 1) (drop (i + 1) rows)) (sym is)
    ∙ ap (λ (b : Bool). barred_row b (i + 1) ++ barred_faults all (i + 1 + 1) (drop (i + 1) rows)) test)
    ∙ sym (append_assoc found (barred_row barred (i + 1)) (barred_faults all (i + 1 + 1) (drop (i + 1) rows))))

-- the first of them
first_of : (all : List StackRow) (line : ℕ) (rows : List StackRow) (first : Option ℕ) → first_barred all line rows ≡ first → (fault : Fault) → first_fault (barred_faults all line rows) ≡ Some fault
    → (first ≡ Some fault.row) × (fault.rule ≡ TargetRow)
first_of all line [] first is fault told = cc
first_of all line (row ∷ rows) first is fault told = by_test (names_barred all row) is told (first_of all (line + 1) rows first)
  where
    by_test : (barred : Bool) → (if barred then Some line else first_barred all (line + 1) rows) ≡ first
        → first_fault (barred_row barred line ++ barred_faults all (line + 1) rows) ≡ Some fault
        → (first_barred all (line + 1) rows ≡ first → (f : Fault) → first_fault (barred_faults all (line + 1) rows) ≡ Some f → (first ≡ Some f.row) × (f.rule ≡ TargetRow))
        → (first ≡ Some fault.row) × (fault.rule ≡ TargetRow)
    by_test true is told later =
        let same : barred_fault line ≡ fault = same_Some (barred_fault line) fault told in
        (sym is ∙ ap (λ (f : Fault). Some f.row) same, sym (ap (λ (f : Fault). f.rule) same))
    by_test false is told later = later is fault told

-- where there are none, no row names what it may not name
none_of : (all : List StackRow) (line : ℕ) (rows : List StackRow) → first_fault (barred_faults all line rows) ≡ None → first_barred all line rows ≡ None
none_of all line [] told = refl
none_of all line (row ∷ rows) told = by_test (names_barred all row) told (none_of all (line + 1) rows)
  where
    by_test : (barred : Bool) → first_fault (barred_row barred line ++ barred_faults all (line + 1) rows) ≡ None
        → (first_fault (barred_faults all (line + 1) rows) ≡ None → first_barred all (line + 1) rows ≡ None)
        → (if barred then Some line else first_barred all (line + 1) rows) ≡ None
    by_test true told later = cc
    by_test false told later = later told

-- ---- the text

-- rows of a table of which none names what it may not name are a stack
spelled_stack : (text : List ℕ) (rows : List StackRow) → KeepsAll (KeepsTable stack_columns 200 text) table_rules → SpellRows SpellsRow 1 (drop 1 (records_of text)) rows
    → first_barred rows 1 rows ≡ None → SpellsStack text rows
spelled_stack text rows kept are free =
    let all = spell_length SpellsRow 1 (drop 1 (records_of text)) rows are in
    let rest = length-drop 1 (records_of text) in
    let few = kept.1.0 in
    let some = kept.1.1.1.0 in
    record {
      table = kept;
      are = are;
      stack = record { some = omega (arith, all, rest, some); few = omega (arith, all, rest, few); each = rows_stand 1 (drop 1 (records_of text)) rows are; targets = free };
    }

barred_first : (text : List ℕ) (faults : List Fault) → KeepsAll (KeepsTable stack_columns 200 text) table_rules → AreBarred (drop 1 (records_of text)) faults → Tells text (first_fault faults)
barred_first text faults kept has = subst (λ (l : List Fault). Tells text (first_fault l)) (sym has.barred) (by_first (first_fault (barred_faults has.rows 1 has.rows)) refl)
  where
    by_first : (first : Option Fault) → first_fault (barred_faults has.rows 1 has.rows) ≡ first → Tells text first
    by_first None is = (has.rows, spelled_stack text has.rows kept has.are.0 (none_of has.rows 1 has.rows is))
    by_first (Some fault) is =
        let told = first_of has.rows 1 has.rows (first_barred has.rows 1 has.rows) refl fault is in
        inr (kept, inr (record { rows = has.rows; are = has.are; barred = record { row = told.0; broken = told.1 } }))

-- the first of all that is wrong is what a load tells
pub faults_first : (text : List ℕ) (faults : List Fault) → AreStackFaults text faults → Tells text (first_fault faults)
faults_first text faults (inl (fault, table, is)) = subst (λ (l : List Fault). Tells text (first_fault l)) (sym is) (inl table)
faults_first text [] (inr (kept, inl (broken, some))) = absurd (some refl)
faults_first text (fault ∷ others) (inr (kept, inl (broken, some))) = inr (kept, inl (head_broken KeepsRow row_rules 1 (drop 1 (records_of text)) fault others broken))
faults_first text faults (inr (kept, inr has)) = barred_first text faults kept has

-- rows that are spelled break none
spelled_none : (given : List (List (List ℕ))) (faults : List Fault) (rows : List StackRow) → SpellRows SpellsRow 1 given rows → BrokenRows KeepsRow row_rules 1 given faults → faults ≢ [] → ⊥
spelled_none given [] rows are broken some = some refl
spelled_none given (fault ∷ others) rows are broken some =
    rows_unbroken SpellsRow KeepsRow row_rules row_keeps 1 given rows fault are (head_broken KeepsRow row_rules 1 given fault others broken)

rows_once : (given : List (List (List ℕ))) (a b : List Fault) → AreRowFaults given a → AreRowFaults given b → a ≡ b
rows_once given a b (inl x) (inl y) = broken_once KeepsRow row_rules 1 given a b x.0 y.0
rows_once given a b (inl x) (inr y) = absurd (spelled_none given a y.rows y.are.0 x.0 x.1)
rows_once given a b (inr x) (inl y) = absurd (spelled_none given b x.rows x.are.0 y.0 y.1)
rows_once given a b (inr x) (inr y) = x.barred ∙ (ap (λ (rows : List StackRow). barred_faults rows 1 rows) (x.are.1 y.rows y.are.0) ∙ sym y.barred)

-- there is one list of them
pub faults_once : (text : List ℕ) (a b : List Fault) → AreStackFaults text a → AreStackFaults text b → a ≡ b
faults_once text a b (inl (x, table, is)) (inl (y, also, same)) = is ∙ (ap (λ (f : Fault). f ∷ []) (table_once stack_columns 200 text x y table also) ∙ sym same)
faults_once text a b (inl (x, table, is)) (inr (kept, rows)) = absurd (kept_unbroken (KeepsTable stack_columns 200 text) table_rules x.rule kept table.broken)
faults_once text a b (inr (kept, rows)) (inl (y, also, same)) = absurd (kept_unbroken (KeepsTable stack_columns 200 text) table_rules y.rule kept also.broken)
faults_once text a b (inr (kept, rows)) (inr (table, others)) = rows_once (drop 1 (records_of text)) a b rows others

-- ---- what was read

-- rows that were read, one after the other
pub read_barred : (given : List (List (List ℕ))) (rows : List StackRow) (faults : List Fault) → SpellRows SpellsOnlyRow 1 given rows → faults ≡ barred_faults rows 1 rows → AreRowFaults given faults
read_barred given rows faults read is = inr (record { rows = rows; are = rows_only given rows read; barred = is })

-- a row that breaks a rule is told
pub read_broken : (given : List (List (List ℕ))) (faults : List Fault) (fault : Fault) → FirstBrokenRow KeepsRow row_rules 1 given fault → BrokenRows KeepsRow row_rules 1 given faults → AreRowFaults given faults
read_broken given [] fault first broken = absurd (none_broken KeepsRow row_rules 1 given fault broken first)
read_broken given (found ∷ others) fault first broken = inl (broken, λ none. cc)

-- the rows of a table
pub table_faults : (text : List ℕ) (given : List (List (List ℕ))) (faults : List Fault) → IsTable stack_columns 200 text given → AreRowFaults (drop 1 given) faults → AreStackFaults text faults
table_faults text given faults table are = inr (table.kept, subst (λ (records : List (List (List ℕ))). AreRowFaults (drop 1 records) faults) table.are are)

-- no more rows than a stack may have
pub few_behind : (records : List Row) (text : List ℕ) → IsTable stack_columns 200 text (map fields_of records) → length (take (length records - 1) (drop 1 records)) ≤ 200
few_behind records text table =
    let few = table.kept.1.0 in
    let same : length (map fields_of records) ≡ length (records_of text) = ap length table.are in
    let mapped = length-map records fields_of in
    let taken = length-take (length records - 1) (drop 1 records) in
    omega (arith, few, same, mapped, taken)
