-- One more activity is looked at, and there is room for the move that it may make.
use Rattle.tc_desk.proofs.LoopLemmas.{followed_more, follow_in_turn, moves_on}
use Rattle.tc_desk.proofs.moving.follow.Goals as goal

pub try_move-requires-clause-room : goal.try_move-requires-clause-room
try_move-requires-clause-room g c =
    follow_in_turn c.args.stamp.now c.args.activities.now c.loop-activity.activity-index c.args.places.now c.args.to c.args.cause c.args.records.now c.loop-activity.records
    c.loop-activity-test.true c.loop-activity.invariant.0 c.loop-activity.invariant.1 c.requires.room

pub loop-activity-preserved : goal.loop-activity-preserved
loop-activity-preserved g c = (
  followed_more c.args.stamp.now c.args.activities.now c.loop-activity.activity-index c.args.places.now c.args.to c.args.cause c.args.records.now.book c.loop-activity.records.book c.try_move.new.records.book
      c.loop-activity-test.true c.loop-activity.invariant.0 c.try_move.ensures.book,
  moves_on _ _ _ c.loop-activity.invariant.1 c.try_move.ensures.only,
)
