-- One activity more.
use Rattle.tc_board.specs.Schedule.{shifted}
use Rattle.tc_board.proofs.LoopLemmas.{mapped_more}
use Rattle.tc_board.proofs.schedules.shift_each.Goals as goal

pub loop-activity-preserved : goal.loop-activity-preserved
loop-activity-preserved g c =
    mapped_more (shifted c.args.offset) c.deref_mut-activity-items.result.now c.loop-activity.activity-items c.loop-activity.activity-index c.activity-item.result _
    c.loop-activity-test.true c.loop-activity.invariant (rw c.nearest-activity.ensures)
