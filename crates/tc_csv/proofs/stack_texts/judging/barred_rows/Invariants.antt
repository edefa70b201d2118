use Rattle.std.proofs.Common.{◌≡◌, ◌+◌, ◌++◌, drop}
use Rattle.tc_csv.specs.StackFaults.{barred_faults}
use Rattle.tc_csv.proofs.stack_texts.judging.barred_rows.Given as goal

-- what is wrong with the rows so far was found
abbrev pub invariant-loop-index : goal.invariant-loop-index
invariant-loop-index l = barred_faults l.fn.rows 1 l.fn.rows ≡ l.faults.items ++ barred_faults l.fn.rows (l.index + 1) (drop l.index l.fn.rows)
