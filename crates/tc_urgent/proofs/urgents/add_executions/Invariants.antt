use Rattle.std.proofs.Common.{◌≡◌, ◌++◌, take}
use Rattle.std.specs.List.{filter_map}
use Rattle.tc_urgent.specs.Lines.{execution_line}
use Rattle.tc_urgent.proofs.urgents.add_executions.Given as goal

abbrev pub invariant-loop-at : goal.invariant-loop-at
invariant-loop-at g l = l.lines.items ≡ l.fn.lines.items ++ filter_map (execution_line l.book.book.log) (take l.at l.book.book.log.executions)
