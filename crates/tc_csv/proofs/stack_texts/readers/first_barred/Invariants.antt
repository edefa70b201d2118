use Rattle.std.proofs.Common.{◌≡◌, ◌+◌, drop}
use Rattle.tc_stack.specs.Stacks.{first_barred}
use Rattle.tc_csv.proofs.stack_texts.readers.first_barred.Given as goal

-- none so far
abbrev pub invariant-loop-index : goal.invariant-loop-index
invariant-loop-index l = first_barred l.fn.rows 1 l.fn.rows ≡ first_barred l.fn.rows (l.index + 1) (drop l.index l.fn.rows)
