-- The activities behind the index are as they were.
use Rattle.std.proofs.Common.{◌≡◌}
use Rattle.tc_board.specs.Schedule.{shifted}
use Rattle.tc_board.proofs.LoopLemmas.{mapped_to}
use Rattle.tc_board.proofs.schedules.shift_each.Given as goal

abbrev pub invariant-loop-activity : goal.invariant-loop-activity
invariant-loop-activity g l = l.activity-items ≡ mapped_to (shifted l.offset) l.activity-index l.initial.activity-items
