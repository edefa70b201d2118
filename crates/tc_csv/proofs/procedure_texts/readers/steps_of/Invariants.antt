use Rattle.std.proofs.Common.{◌≡◌, map, take, length}
use Rattle.std.specs.List.{AllByRecursion}
use Rattle.csv.specs.Records.{fields_of}
use Rattle.tc_csv.specs.ProcedureTexts.{step_records}
use Rattle.tc_proc.specs.Procedures.{IsStep}
use Rattle.tc_csv.proofs.procedure_texts.readers.steps_of.Given as goal

-- the rows so far spell the steps
abbrev pub invariant-loop-index : goal.invariant-loop-index
invariant-loop-index l =
    (take l.index (map fields_of l.fn.rows) ≡ step_records 1 l.steps.items) × AllByRecursion IsStep l.steps.items × (length l.steps.items ≡ l.index)
