-- All that is wrong with the text of a procedure.
use Rattle.std.specs.Prelude.{◌≡◌, ◌⊎◌, ℕ, List, [], ◌∷◌, drop}
use Rattle.tc_types.specs.Limits.{most_steps}
use Rattle.tc_csv.specs.declared.faults.Fault.{Fault}
use Rattle.tc_csv.specs.Faults.{KeepsAll}
use Rattle.tc_csv.specs.FaultLists.{BrokenRows}
use Rattle.tc_csv.specs.Tables.{records_of, KeepsTable, table_rules, IsTableFault}
use Rattle.tc_csv.specs.ProcedureTexts.{procedure_columns, KeepsStep, step_rules}

-- All that is wrong with a text: the first rule of the table that it breaks, and nothing else; or what each row breaks, of those that break a rule of rows.
abbrev pub AreProcedureFaults : List ℕ → List Fault → Type 0
AreProcedureFaults text faults =
    ((fault : Fault) × IsTableFault procedure_columns most_steps text fault × (faults ≡ fault ∷ []))
    ⊎ (KeepsAll (KeepsTable procedure_columns most_steps text) table_rules × BrokenRows KeepsStep step_rules 1 (drop 1 (records_of text)) faults)
