-- One stage more.
use Rattle.tc_wall.proofs.WalkLemmas.{bar_next, bar_done}
use Rattle.tc_wall.proofs.bars.add_bar.Goals as goal

pub loop-row-preserved : goal.loop-row-preserved
loop-row-preserved g c = λ new h. c.loop-row.invariant new (bar_next c.args.axis.now c.loop-row.begin c.begin_of-begin.result c.end_of.result c.in-Some.row.now c.in-Some.others.now c.loop-row.rest.now _ _ new c.in-Some.ensures.cases.0 c.begin_of-begin.ensures c.end_of.ensures c.in_ok-add_stage.ensures h)

pub returns : goal.returns
returns g c = c.loop-row.invariant _ (bar_done c.args.axis.now c.loop-row.begin c.loop-row.rest.now _ c.in_default.ensures.cases)
