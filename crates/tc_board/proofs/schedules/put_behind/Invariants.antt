-- Those before the index stand behind the others, and there is room for the rest.
use Rattle.std.proofs.Common.{◌≡◌, ◌≤◌, ◌+◌, ◌++◌, length, take, vec_len, vec_capacity}
use Rattle.tc_board.proofs.schedules.put_behind.Given as goal

abbrev pub invariant-loop-activity : goal.invariant-loop-activity
invariant-loop-activity g l =
    (l.activities.items ≡ l.initial.activities.items ++ take l.activity-index l.others)
    × (vec_capacity l.activities ≡ vec_capacity l.initial.activities)
    × (vec_len l.activities ≡ vec_len l.initial.activities + l.activity-index)
    × (l.activity-index ≤ length l.others)
