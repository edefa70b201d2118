use Rattle.std.proofs.Common.{◌≡◌, take}
use Rattle.tc_desk.specs.Effects.{OnlyMoves, followed}
use Rattle.tc_desk.proofs.moving.follow.Given as goal

abbrev pub invariant-loop-activity : goal.invariant-loop-activity
invariant-loop-activity g l = (l.records.book ≡ followed l.stamp l.fn.records.book (take l.activity-index l.activities) l.places l.to l.cause) × OnlyMoves l.fn.records l.records
