-- The bytes of replies: lines, each ended by LF.
use Rattle.std.specs.Prelude.{ℕ, ◌==◌, Bool, false, Some, List, [], ◌∷◌, filter, map, nat_eq, codes}
use Rattle.std.specs.List.{starts_with}
use Rattle.tc_types.specs.ProcedureLines.{execution_line, record_line}
use Rattle.tc_types.specs.declared.tables.rows.BegunExecution.{BegunExecution}
use Rattle.tc_types.specs.declared.tables.rows.StepRecord.{StepRecord}
use Rattle.tc_types.specs.declared.tables.rows.LoadedProcedure.{LoadedProcedure}
use Rattle.tc_types.specs.declared.tables.rows.ProcedureStep.{ProcedureStep}
use Rattle.tc_types.specs.Names.{is_same_name}
use Rattle.tc_types.specs.StepLines.{step_line}
use Rattle.tc_desk.specs.Replies.{Reply, procedure_lines}
pub use Rattle.tc_report.specs.Texts.{AreLines, ended}

-- whether a reply is a refusal
abbrev pub is_refused : Reply → Bool
is_refused [] = false
is_refused (first ∷ others) = starts_with nat_eq first (codes "refused")

-- the lines of those of these records that are of this execution, in order
abbrev pub records_told : ℕ → List StepRecord → Reply
records_told execution records = map record_line (filter (λ (r : StepRecord). r.execution == execution) records)

-- the lines about an execution, where this step comes next, and these are the records of all
abbrev pub execution_lines : BegunExecution → ℕ → List StepRecord → Reply
execution_lines begun next records = execution_line begun.execution begun.procedure next ∷ records_told begun.execution records

-- those of these steps that are of the procedure with this name, in order
abbrev pub steps_in : List ℕ → List ProcedureStep → List ProcedureStep
steps_in name steps = filter (λ (s : ProcedureStep). is_same_name s.procedure name) steps

-- their lines
abbrev pub steps_told : List ℕ → List ProcedureStep → Reply
steps_told name steps = map step_line (steps_in name steps)

-- the lines of the procedure with this name, which was loaded so, where these are the steps of all
abbrev pub procedure_told : List ℕ → LoadedProcedure → List ProcedureStep → Reply
procedure_told name loaded steps = procedure_lines (Some loaded) (steps_in name steps)
