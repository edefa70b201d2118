-- One more row.
use Rattle.std.proofs.Common.{rules}
use Rattle.tc_urgent.proofs.MoveLemmas.{one_more_read}
use Rattle.tc_urgent.proofs.moves.last_moves.Goals as goal

pub loop-row-preserved : goal.loop-row-preserved
loop-row-preserved g c =
    one_more_read c.args.rows.now c.loop-row.row-index c.row-item.result c.args.count c.loop-row.last.items c.note_move.new.last c.loop-row.last.len c.note_move.ensures.some c.loop-row-test.true c.row-item.is (search rules) (search rules) c.loop-row.invariant
