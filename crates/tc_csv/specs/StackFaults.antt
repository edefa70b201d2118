-- All that is wrong with the text of a stack.
use Rattle.std.specs.Prelude.{◌≡◌, ◌≢◌, ◌⊎◌, ℕ, ◌+◌, Bool, if◌then◌else◌, List, [], ◌∷◌, ◌++◌, drop}
use Rattle.tc_types.specs.Limits.{most_stack_rows}
use Rattle.tc_csv.specs.declared.faults.Rule.TheVariants.{TargetRow}
use Rattle.tc_csv.specs.declared.faults.Fault.{Fault}
use Rattle.tc_csv.specs.Faults.{KeepsAll}
use Rattle.tc_csv.specs.FaultLists.{BrokenRows}
use Rattle.tc_csv.specs.Rows.{SpellRows, IsOnly}
use Rattle.tc_csv.specs.Tables.{records_of, KeepsTable, table_rules, IsTableFault}
use Rattle.tc_stack.specs.declared.stacks.StackRow.{StackRow}
use Rattle.tc_stack.specs.Stacks.{names_barred}
use Rattle.tc_csv.specs.StackTexts.{stack_columns, SpellsRow, KeepsRow, row_rules}

-- a row names another that it may not name, or one twice
abbrev pub barred_fault : ℕ → Fault
barred_fault line = record { row = line; rule = TargetRow }

abbrev pub barred_row : Bool → ℕ → List Fault
barred_row is_barred line = if is_barred then barred_fault line ∷ [] else []

-- the rows that do so, of those from this line on, among all
abbrev pub barred_faults : List StackRow → ℕ → List StackRow → List Fault
barred_faults all line [] = []
barred_faults all line (row ∷ rows) = barred_row (names_barred all row) line ++ barred_faults all (line + 1) rows

-- the rows that these records spell, and what is wrong with their targets
pub record AreBarred (given : List (List (List ℕ))) (faults : List Fault) : Type 0 where
  pub rows : List StackRow
  pub are : IsOnly (SpellRows SpellsRow 1 given) rows
  pub barred : faults ≡ barred_faults rows 1 rows

-- what each row breaks, of those that break a rule of rows; or, where none does, what is wrong with the targets of rows
abbrev pub AreRowFaults : List (List (List ℕ)) → List Fault → Type 0
AreRowFaults given faults = (BrokenRows KeepsRow row_rules 1 given faults × (faults ≢ [])) ⊎ AreBarred given faults

-- All that is wrong with a text: the first rule of the table that it breaks, and nothing else; or what is wrong with its rows.
abbrev pub AreStackFaults : List ℕ → List Fault → Type 0
AreStackFaults text faults =
    ((fault : Fault) × IsTableFault stack_columns most_stack_rows text fault × (faults ≡ fault ∷ []))
    ⊎ (KeepsAll (KeepsTable stack_columns most_stack_rows text) table_rules × AreRowFaults (drop 1 (records_of text)) faults)
