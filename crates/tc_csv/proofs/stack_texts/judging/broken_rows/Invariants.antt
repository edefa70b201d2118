use Rattle.std.proofs.Common.{◌+◌, drop, map}
use Rattle.csv.specs.Records.{fields_of}
use Rattle.tc_csv.proofs.FaultListLemmas.{FoundSoFar}
use Rattle.tc_csv.specs.StackTexts.{KeepsRow, row_rules}
use Rattle.tc_csv.proofs.stack_texts.judging.broken_rows.Given as goal

-- what the rows so far break was found
abbrev pub invariant-loop-index : goal.invariant-loop-index
invariant-loop-index l = FoundSoFar KeepsRow row_rules (l.index + 1) (drop l.index (map fields_of l.fn.records)) (map fields_of l.fn.records) l.faults.items
