-- The text of a procedure: a step in each row, under a header (this desk's own).
use Rattle.std.specs.Prelude.{◌≡◌, ◌⊎◌, ⊤, ℕ, ◌+◌, ◌<◌, ◌≤◌, Bool, true, Option, Some, None, IfSome, List, [], ◌∷◌, length, get_or, drop}
use Rattle.std.specs.List.{AllByRecursion}
use Rattle.std.specs.Fmt.{decimal}
use Rattle.tc_types.specs.Limits.{most_steps}
use Rattle.tc_types.specs.Numbers.{IsNumber}
use Rattle.tc_types.specs.Grammar.{yes_no}
use Rattle.tc_csv.specs.declared.columns.Column.{Column}
use Rattle.tc_csv.specs.declared.columns.Column.TheVariants as column
use Rattle.tc_csv.specs.declared.faults.Rule.{Rule}
use Rattle.tc_csv.specs.declared.faults.Rule.TheVariants as rule
use Rattle.tc_csv.specs.declared.faults.Fault.{Fault}
use Rattle.tc_csv.specs.Faults.{KeepsAll, FirstBrokenRow}
use Rattle.tc_csv.specs.Tables.{records_of, header, number_field, KeepsTable, table_rules, IsTableFault}
use Rattle.tc_proc.specs.declared.procedures.Step.{Step}
use Rattle.tc_types.specs.StepTexts.{is_step_text}
use Rattle.tc_proc.specs.Procedures.{IsStep, IsProcedure}

abbrev pub procedure_columns : List Column
procedure_columns = column.Step ∷ column.Text ∷ column.Second ∷ column.Request ∷ []

-- the record of a step: its number, its text, whether a second person is wanted, and the request that it releases
abbrev pub step_record : ℕ → Step → List (List ℕ)
step_record number step = decimal number ∷ step.text ∷ yes_no step.is_countersigned ∷ number_field step.request ∷ []

-- the records of steps, in order, the first of them being this one
abbrev pub step_records : ℕ → List Step → List (List (List ℕ))
step_records number [] = []
step_records number (step ∷ steps) = step_record number step ∷ step_records (number + 1) steps

-- these rows, the first of them being row 1, spell these steps
pub record AreSteps (rows : List (List (List ℕ))) (steps : List Step) : Type 0 where
  pub are : rows ≡ step_records 1 steps
  pub each : AllByRecursion IsStep steps

-- A text spells the procedure with these steps.
pub record SpellsProcedure (text : List ℕ) (steps : List Step) : Type 0 where
  pub short : length text ≤ 65536
  pub are : records_of text ≡ header procedure_columns ∷ step_records 1 steps
  pub procedure : IsProcedure steps

-- ---- what is wrong with a text that spells none

-- The rules of a row, in order.
abbrev pub step_rules : List Rule
step_rules = rule.FieldCount ∷ rule.StepNumber ∷ rule.StepText ∷ rule.Second ∷ rule.StepRequest ∷ []

-- a row keeps a rule, by its number and its fields; the other rules are not of a row
abbrev pub KeepsStep : ℕ → List (List ℕ) → Rule → Type 0
KeepsStep number fields rule.FieldCount = length fields ≡ 4
KeepsStep number fields rule.StepNumber = get_or fields 0 [] ≡ decimal number
KeepsStep number fields rule.StepText = is_step_text (get_or fields 1 []) ≡ true
KeepsStep number fields rule.Second = (second : Bool) × (get_or fields 2 [] ≡ yes_no second)
KeepsStep number fields rule.StepRequest = (request : Option ℕ) × IfSome request IsNumber × (get_or fields 3 [] ≡ number_field request)
KeepsStep number fields other = ⊤

-- The first rule that a text breaks, and where: a rule of the table, or of the first row that breaks one.
abbrev pub IsProcedureFault : List ℕ → Fault → Type 0
IsProcedureFault text fault =
    IsTableFault procedure_columns most_steps text fault
    ⊎ (KeepsAll (KeepsTable procedure_columns most_steps text) table_rules × FirstBrokenRow KeepsStep step_rules 1 (drop 1 (records_of text)) fault)

-- what is told of a text: its fault, or that it spells a procedure
abbrev pub Tells : List ℕ → Option Fault → Type 0
Tells text None = (steps : List Step) × SpellsProcedure text steps
Tells text (Some fault) = IsProcedureFault text fault
