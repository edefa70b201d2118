-- The reports of those before the index.
use Rattle.std.proofs.Common.{◌≡◌, ◌≤◌, ◌*◌, take, vec_len}
use Rattle.std.specs.List.{flat_map}
use Rattle.tc_board.specs.Board.{released}
use Rattle.tc_board.proofs.boards.release_all.Given as goal

abbrev pub invariant-loop-activity : goal.invariant-loop-activity
invariant-loop-activity g l = (l.reports.items ≡ flat_map (released l.enabled) (take l.activity-index l.due)) × (vec_len l.reports ≤ 12 * l.activity-index)
