-- The rules of a text, and which of them is the first that it breaks.
use Rattle.std.specs.Prelude.{◌≡◌, ◌⊎◌, ⊤, ℕ, ◌+◌, Option, Some, None, Result, Ok, Err, List, [], ◌∷◌}
use Rattle.tc_types.specs.declared.refusals.Refusal.{Refusal}
use Rattle.tc_types.specs.declared.refusals.Refusal.TheVariants.{TooLong, BadText, BadActivity}
use Rattle.tc_csv.specs.declared.columns.Column.{Column}
use Rattle.tc_csv.specs.declared.columns.Column.TheVariants as column
use Rattle.tc_csv.specs.declared.faults.Rule.{Rule}
use Rattle.tc_csv.specs.declared.faults.Rule.TheVariants as rule
use Rattle.tc_csv.specs.declared.faults.Fault.{Fault}
use Rattle.tc_csv.specs.declared.faults.NotRead.{NotRead}
use Rattle.tc_csv.specs.declared.faults.NotRead.TheVariants as not_read

-- what a text is refused with that breaks a rule
abbrev pub rule_refusal : Rule → Refusal
rule_refusal rule.TextLength = TooLong
rule_refusal rule.RowCount = TooLong
rule_refusal rule.Header = BadText
rule_refusal rule.SomeRow = BadText
rule_refusal rule.FieldCount = BadText
rule_refusal rule.Line = BadText
rule_refusal rule.Apid = BadText
rule_refusal rule.Service = BadText
rule_refusal rule.Subtype = BadText
rule_refusal rule.Target = BadText
rule_refusal rule.Time = BadText
rule_refusal rule.Ack = BadText
rule_refusal rule.Critical = BadText
rule_refusal rule.After = BadText
rule_refusal rule.Outcome = BadText
rule_refusal rule.TargetRow = BadActivity
rule_refusal rule.StepNumber = BadText
rule_refusal rule.StepText = BadText
rule_refusal rule.Second = BadText
rule_refusal rule.StepRequest = BadText

-- the column that a rule speaks of
abbrev pub rule_column : Rule → Option Column
rule_column rule.TextLength = None
rule_column rule.RowCount = None
rule_column rule.Header = None
rule_column rule.SomeRow = None
rule_column rule.FieldCount = None
rule_column rule.Line = Some column.Line
rule_column rule.Apid = Some column.Apid
rule_column rule.Service = Some column.Service
rule_column rule.Subtype = Some column.Subtype
rule_column rule.Target = Some column.Target
rule_column rule.Time = Some column.Time
rule_column rule.Ack = Some column.Ack
rule_column rule.Critical = Some column.Critical
rule_column rule.After = Some column.After
rule_column rule.Outcome = Some column.Outcome
rule_column rule.TargetRow = Some column.Target
rule_column rule.StepNumber = Some column.Step
rule_column rule.StepText = Some column.Text
rule_column rule.Second = Some column.Second
rule_column rule.StepRequest = Some column.Request

-- all of these rules are kept
abbrev pub KeepsAll : (Rule → Type 0) → List Rule → Type 0
KeepsAll Keeps [] = ⊤
KeepsAll Keeps (first ∷ rules) = Keeps first × KeepsAll Keeps rules

-- the first of these rules that is broken
abbrev pub FirstBroken : (Rule → Type 0) → List Rule → Rule → Type 0
FirstBroken Keeps [] broken = ⊥
FirstBroken Keeps (first ∷ rules) broken = ((Keeps first → ⊥) × (broken ≡ first)) ⊎ (Keeps first × FirstBroken Keeps rules broken)

-- how a row keeps a rule, by its number and its fields
abbrev pub RowKeeps : Type 1
RowKeeps = ℕ → List (List ℕ) → Rule → Type 0

-- the fault of the first row that breaks one of these rules; the first row here has this number
abbrev pub FirstBrokenRow : RowKeeps → List Rule → ℕ → List (List (List ℕ)) → Fault → Type 0
FirstBrokenRow Keeps rules number [] fault = ⊥
FirstBrokenRow Keeps rules number (row ∷ rows) fault =
    (FirstBroken (Keeps number row) rules fault.rule × (fault.row ≡ number))
    ⊎ (KeepsAll (Keeps number row) rules × FirstBrokenRow Keeps rules (number + 1) rows fault)

-- What a reader says of a text: a value of it; or the fault of it; or memory was refused.
abbrev pub Judged : {T : Type 0} → (T → Type 0) → (Fault → Type 0) → Result T NotRead → Type 0
Judged Is IsFault (Ok value) = Is value
Judged Is IsFault (Err (not_read.Wrong fault)) = IsFault fault
Judged Is IsFault (Err not_read.Memory) = ⊤
