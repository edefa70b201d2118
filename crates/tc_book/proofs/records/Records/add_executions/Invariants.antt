use Rattle.std.proofs.Common.{◌≡◌, ◌++◌, take}
use Rattle.std.specs.List.{filter_map}
use Rattle.tc_book.specs.Waiting.{execution_waits}
use Rattle.tc_book.proofs.records.Records.add_executions.Given as goal

abbrev pub invariant-loop-at : goal.invariant-loop-at
invariant-loop-at g l = l.waiting.items ≡ l.fn.waiting.items ++ filter_map (execution_waits l.self.book.log) (take l.at l.self.book.log.executions)
