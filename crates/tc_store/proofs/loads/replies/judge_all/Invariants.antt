use Rattle.std.proofs.Common.{◌≡◌, length, take, drop}
use Rattle.std.specs.List.{AllByRecursion}
use Rattle.sqlite_value.specs.Order.{Row}
use Rattle.tc_store.specs.Shows.{AreOfReply}
use Rattle.tc_store.proofs.loads.replies.judge_all.Given as goal

-- The rows so far are of replies.
abbrev pub invariant-rows : goal.invariant-rows
invariant-rows l = AllByRecursion (λ (row : Row). length row ≡ 4) l.rows → AllByRecursion (λ (row : Row). AreOfReply (drop 1 row)) (take l.row-index l.rows)
