-- The rows of a stack's text, read one after the other.
use Rattle.std.proofs.Common.{◌≡◌, inl, inr, ℕ, suc, ◌+◌, ◌<◌, ◌≤◌, Option, Some, None, List, [], ◌∷◌, ◌++◌, length, get_or, take, drop, map, refl, sym, ◌∙◌, ap, arith}
use Rattle.std.proofs.lemmas.List.{length-append, length-drop}
use Rattle.csv.specs.Records.{Row, fields_of}
use Rattle.tc_csv.specs.declared.faults.Rule.{Rule}
use Rattle.tc_csv.specs.declared.faults.Rule.TheVariants.{TargetRow}
use Rattle.tc_csv.specs.declared.faults.Fault.{Fault}
use Rattle.tc_csv.specs.Faults.{KeepsAll, FirstBroken, FirstBrokenRow}
use Rattle.tc_csv.specs.Rows.{SpellRows, IsOnly}
use Rattle.tc_csv.specs.Tables.{records_of, IsTable, KeepsTable, table_rules}
use Rattle.tc_csv.proofs.RowLemmas.{kept_unbroken, table_once, row_once, rows_unbroken, split_at, taken_more, spell_more, spell_length, fault_behind}
use Rattle.tc_stack.specs.declared.stacks.StackRow.{StackRow}
use Rattle.tc_stack.specs.Stacks.{AreRows, first_barred}
use Rattle.tc_csv.specs.StackTexts.{stack_columns, SpellsRow, KeepsRow, row_rules, SpellsStack, IsStackFault}
use Rattle.tc_csv.specs.RowTexts.{SpellsOnlyRow, IsOnlyStack}
use Rattle.tc_csv.proofs.CommandLemmas.{scheduled, command_keeps}

-- fields that spell a row keep each rule
pub row_keeps : (line : ℕ) (fields : List (List ℕ)) (row : StackRow) → SpellsRow line fields row → KeepsAll (KeepsRow line fields) row_rules
row_keeps line fields row is =
    let entry = is.stands.entry in
    let command = command_keeps line fields row.entry.command is.command entry.command is.stands.targets in (
      is.count,
      (
        is.number,
        (
          (row.entry.apid, entry.apid, is.apid),
          (
            command.0,
            (
              command.1.0,
              (
                command.1.1.0,
                (
                  command.1.1.1.0,
                  (
                    (row.entry.ack, (λ scheduling. entry.schedule.completion (scheduled fields row.entry.command is.command scheduling entry.command)), is.ack),
                    (
                      (row.entry.critical, is.critical),
                      (
                        (row.after, is.stands.after, is.after),
                        (
                          (row.entry.outcome, (entry.outcome, λ scheduling. entry.schedule.completes (scheduled fields row.entry.command is.command scheduling entry.command)), is.outcome),
                          tt,
                        ),
                      ),
                    ),
                  ),
                ),
              ),
            ),
          ),
        ),
      ),
    )

pub only_keeps : (line : ℕ) (fields : List (List ℕ)) (row : StackRow) → SpellsOnlyRow line fields row → KeepsAll (KeepsRow line fields) row_rules
only_keeps line fields row is = row_keeps line fields row is.0

-- one row more
pub row_more : (records : List Row) (i : ℕ) (fields : Row) (rows : List StackRow) (row : StackRow) → i < length records → fields ≡ get_or records i fields
    → SpellRows SpellsOnlyRow 1 (take i (map fields_of records)) rows × (length rows ≡ i) → SpellsOnlyRow (i + 1) (fields_of fields) row
    → SpellRows SpellsOnlyRow 1 (take (i + 1) (map fields_of records)) (rows ++ row ∷ []) × (length (rows ++ row ∷ []) ≡ i + 1)
row_more records i fields rows row low is so here =
    let count = so.1 in
    let len = length-append rows (row ∷ []) in
    (rw (taken_more records i fields low is) (spell_more SpellsOnlyRow 1 (i + 1) (take i (map fields_of records)) rows (fields_of fields) row (omega (arith, count)) so.0 here), omega (arith, len, count))

-- the fault of a row is the fault of the rows
pub row_broken : (records : List Row) (i : ℕ) (fields : Row) (rows : List StackRow) (broken : Rule) → i < length records → fields ≡ get_or records i fields
    → SpellRows SpellsOnlyRow 1 (take i (map fields_of records)) rows × (length rows ≡ i) → FirstBroken (KeepsRow (i + 1) (fields_of fields)) row_rules broken
    → FirstBrokenRow KeepsRow row_rules 1 (map fields_of records) (record { row = i + 1; rule = broken })
row_broken records i fields rows broken low is so first =
    let count = so.1 in
    rw (split_at records i fields low is)
    (fault_behind SpellsOnlyRow KeepsRow row_rules only_keeps 1 (i + 1) (take i (map fields_of records)) rows (fields_of fields) (drop (suc i) (map fields_of records)) (record { row = i + 1; rule = broken }) (omega (arith, count)) so.0 first refl)

-- rows, each the only one, are rows, and the only ones
only_spelled : (number : ℕ) (given : List (List (List ℕ))) (rows : List StackRow) → SpellRows SpellsOnlyRow number given rows → SpellRows SpellsRow number given rows
only_spelled number [] [] so = tt
only_spelled number [] (r ∷ rs) so = absurd so
only_spelled number (f ∷ fs) [] so = absurd so
only_spelled number (f ∷ fs) (r ∷ rs) so = (so.0.0, only_spelled (number + 1) fs rs so.1)

only_rows : (number : ℕ) (given : List (List (List ℕ))) (rows others : List StackRow) → SpellRows SpellsOnlyRow number given rows → SpellRows SpellsRow number given others → rows ≡ others
only_rows number [] [] [] so also = refl
only_rows number [] [] (o ∷ os) so also = absurd also
only_rows number [] (r ∷ rs) others so also = absurd so
only_rows number (f ∷ fs) [] others so also = absurd so
only_rows number (f ∷ fs) (r ∷ rs) [] so also = absurd also
only_rows number (f ∷ fs) (r ∷ rs) (o ∷ os) so also =
    let first = so.0.1 o also.0 in
    let rest = only_rows (number + 1) fs rs os so.1 also.1 in
    λ i. first i ∷ rest i

pub rows_only : (given : List (List (List ℕ))) (rows : List StackRow) → SpellRows SpellsOnlyRow 1 given rows → IsOnly (SpellRows SpellsRow 1 given) rows
rows_only given rows so = (only_spelled 1 given rows so, λ others also. only_rows 1 given rows others so also)

pub rows_stand : (number : ℕ) (given : List (List (List ℕ))) (rows : List StackRow) → SpellRows SpellsRow number given rows → AreRows number rows
rows_stand number [] [] so = tt
rows_stand number [] (r ∷ rs) so = absurd so
rows_stand number (f ∷ fs) [] so = absurd so
rows_stand number (f ∷ fs) (r ∷ rs) so = (so.0.stands, rows_stand (number + 1) fs rs so.1)

pub few_rows : (text : List ℕ) (given : List (List (List ℕ))) (rows : List StackRow) → IsTable stack_columns 200 text given → SpellRows SpellsOnlyRow 1 (drop 1 given) rows → length rows ≤ 200
few_rows text given rows table so =
    let all = spell_length SpellsOnlyRow 1 (drop 1 given) rows so in
    let rest = length-drop 1 given in
    let same : length given ≡ length (records_of text) = ap length table.are in
    let few = table.kept.1.0 in
    omega (arith, all, rest, same, few)

-- rows of a table of which none names one that it may not name are a stack
pub stack_read : (text : List ℕ) (given : List (List (List ℕ))) (rows : List StackRow) → IsTable stack_columns 200 text given → SpellRows SpellsOnlyRow 1 (drop 1 given) rows
    → first_barred rows 1 rows ≡ None → IsOnlyStack text rows
stack_read text given rows table so free =
    let spelled = only_spelled 1 (drop 1 given) rows so in
    let all = spell_length SpellsOnlyRow 1 (drop 1 given) rows so in
    let rest = length-drop 1 given in
    let same : length given ≡ length (records_of text) = ap length table.are in
    let some = table.kept.1.1.1.0 in (
      record {
        table = table.kept;
        are = rw (sym table.are) spelled;
        stack = record { some = omega (arith, all, rest, same, some); few = few_rows text given rows table so; each = rows_stand 1 (drop 1 given) rows spelled; targets = free };
      },
      λ others is. only_rows 1 (drop 1 given) rows others so (rw table.are is.are),
    )

-- and where one does, that is the text's fault
pub barred_read : (text : List ℕ) (given : List (List (List ℕ))) (rows : List StackRow) (line : ℕ) → IsTable stack_columns 200 text given → SpellRows SpellsOnlyRow 1 (drop 1 given) rows
    → first_barred rows 1 rows ≡ Some line → IsStackFault text (record { row = line; rule = TargetRow })
barred_read text given rows line table so barred = inr (table.kept, inr (record { rows = rows; are = rw (sym table.are) (rows_only (drop 1 given) rows so); barred = record { row = barred; broken = refl } }))

-- and so is the fault of a row
pub row_read : (text : List ℕ) (given : List (List (List ℕ))) (fault : Fault) → IsTable stack_columns 200 text given → FirstBrokenRow KeepsRow row_rules 1 (drop 1 given) fault → IsStackFault text fault
row_read text given fault table broken = inr (table.kept, inl (rw (sym table.are) broken))

-- a text that spells a stack has no fault
pub spelled_unbroken : (text : List ℕ) (rows : List StackRow) (fault : Fault) → SpellsStack text rows → IsStackFault text fault → ⊥
spelled_unbroken text rows fault spells (inl table) = kept_unbroken (KeepsTable stack_columns 200 text) table_rules fault.rule spells.table table.broken
spelled_unbroken text rows fault spells (inr (kept, inl broken)) = rows_unbroken SpellsRow KeepsRow row_rules row_keeps 1 (drop 1 (records_of text)) rows fault spells.are broken
spelled_unbroken text rows fault spells (inr (kept, inr has)) =
    let same = has.are.1 rows spells.are in
    let barred : first_barred rows 1 rows ≡ Some fault.row = rw same at has.barred.row in
    let none : ◌≡◌ {A = Option ℕ} None (Some fault.row) = sym spells.stack.targets ∙ barred in
    cc

fault_same : (a b : Fault) → a.row ≡ b.row → a.rule ≡ b.rule → a ≡ b
fault_same a b row broken = λ i. record { row = row i; rule = broken i }

some_row : (a b : ℕ) → Some a ≡ Some b → a ≡ b
some_row a b same = cc

-- a text has one fault
pub fault_once : (text : List ℕ) (a b : Fault) → IsStackFault text a → IsStackFault text b → a ≡ b
fault_once text a b (inl x) (inl y) = table_once stack_columns 200 text a b x y
fault_once text a b (inl x) (inr y) = absurd (kept_unbroken (KeepsTable stack_columns 200 text) table_rules a.rule y.0 x.broken)
fault_once text a b (inr x) (inl y) = absurd (kept_unbroken (KeepsTable stack_columns 200 text) table_rules b.rule x.0 y.broken)
fault_once text a b (inr (kept, inl x)) (inr (also, inl y)) = row_once KeepsRow row_rules 1 (drop 1 (records_of text)) a b x y
fault_once text a b (inr (kept, inl x)) (inr (also, inr y)) = absurd (rows_unbroken SpellsRow KeepsRow row_rules row_keeps 1 (drop 1 (records_of text)) y.rows a y.are.0 x)
fault_once text a b (inr (kept, inr x)) (inr (also, inl y)) = absurd (rows_unbroken SpellsRow KeepsRow row_rules row_keeps 1 (drop 1 (records_of text)) x.rows b x.are.0 y)
fault_once text a b (inr (kept, inr x)) (inr (also, inr y)) =
    let same = x.are.1 y.rows y.are.0 in
    let first : first_barred y.rows 1 y.rows ≡ Some a.row = rw same at x.barred.row in
    fault_same a b (some_row a.row b.row (sym first ∙ y.barred.row)) (x.barred.broken ∙ sym y.barred.broken)
