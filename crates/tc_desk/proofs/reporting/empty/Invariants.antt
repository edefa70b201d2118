use Rattle.std.proofs.Common.{◌≡◌, ◌-◌}
use Rattle.tc_desk.specs.Effects.{OnlyMoves}
use Rattle.tc_desk.proofs.EmptyLemmas.{removed_to}
use Rattle.tc_desk.proofs.reporting.empty.Given as goal

abbrev pub invariant-loop-n : goal.invariant-loop-n
invariant-loop-n g l = (l.records.book ≡ removed_to l.stamp l.mirror.told l.fn.records.book (l.n - 1)) × OnlyMoves l.fn.records l.records
