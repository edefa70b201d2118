use Rattle.std.proofs.Common.{take}
use Rattle.tc_urgent.specs.Judging.{AreLastMoves}
use Rattle.tc_urgent.proofs.moves.last_moves.Given as goal

abbrev pub invariant-loop-row : goal.invariant-loop-row
invariant-loop-row g l = AreLastMoves (take l.row-index l.rows) l.fn.count l.last.items
