use Rattle.std.proofs.Common.{◌+◌, drop, map}
use Rattle.csv.specs.Records.{fields_of}
use Rattle.tc_csv.proofs.FaultListLemmas.{FoundSoFar}
use Rattle.tc_csv.specs.ProcedureTexts.{KeepsStep, step_rules}
use Rattle.tc_csv.proofs.procedure_texts.judging.broken_steps.Given as goal

-- what the rows so far break was found
abbrev pub invariant-loop-index : goal.invariant-loop-index
invariant-loop-index l = FoundSoFar KeepsStep step_rules (l.index + 1) (drop l.index (map fields_of l.fn.rows)) (map fields_of l.fn.rows) l.faults.items
