-- The places before the index are taken.
use Rattle.std.proofs.Common.{◌≡◌, ◌≤◌, length, Some}
use Rattle.tc_board.specs.Schedule.{listed}
use Rattle.tc_board.proofs.PlaceLemmas.{taken_to}
use Rattle.tc_board.proofs.schedules.take_places.Given as goal

abbrev pub invariant-loop-index : goal.invariant-loop-index
invariant-loop-index l = (l.places ≡ taken_to (λ a. Some (listed a)) l.index l.activities l.initial.places) × (l.index ≤ length l.activities)
