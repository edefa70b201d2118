-- None before the index comes twice.
use Rattle.std.proofs.Common.{◌≡◌, ◌≤◌, length, drop}
use Rattle.tc_board.specs.Schedule.{has_one_twice}
use Rattle.tc_board.proofs.schedules.has_one_twice.Given as goal

abbrev pub invariant-loop-index : goal.invariant-loop-index
invariant-loop-index l = (has_one_twice l.activities ≡ has_one_twice (drop l.index l.activities)) × (l.index ≤ length l.activities)
