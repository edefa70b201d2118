-- One row more.
use Rattle.tc_wall.specs.MoveParts.{move_parts}
use Rattle.tc_wall.proofs.WalkLemmas.{last_more, last_done}
use Rattle.tc_wall.proofs.move_rows.add_rows.Goals as goal

pub loop-row-preserved : goal.loop-row-preserved
loop-row-preserved g c = λ new h. c.loop-row.invariant new (last_more move_parts c.loop-row.rest.now c.in-Some.others.now c.in-Some.row.now _ _ new c.in-Some.ensures.cases.0 c.in_ok-add_move.ensures h)

pub returns : goal.returns
returns g c = c.loop-row.invariant _ (last_done move_parts c.loop-row.rest.now _ c.in_default.ensures.cases)
