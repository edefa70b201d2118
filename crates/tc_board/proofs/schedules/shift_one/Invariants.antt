-- The activities behind the index are as they were.
use Rattle.std.proofs.Common.{◌≡◌, if◌then◌else◌}
use Rattle.tc_board.specs.Schedule.{is_of, shifted}
use Rattle.tc_board.proofs.LoopLemmas.{mapped_to}
use Rattle.tc_board.proofs.schedules.shift_one.Given as goal

abbrev pub invariant-loop-activity : goal.invariant-loop-activity
invariant-loop-activity g l = l.activity-items ≡ mapped_to (λ a. if is_of l.target a then shifted l.offset a else a) l.activity-index l.initial.activity-items
