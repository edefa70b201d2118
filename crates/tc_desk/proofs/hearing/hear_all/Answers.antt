-- One more is heard, and there is room for the rows that it makes.
use Rattle.tc_board.specs.Mirror.{no_mirror}
use Rattle.tc_desk.proofs.LoopLemmas.{heard_more, hear_in_turn, moves_on}
use Rattle.tc_desk.proofs.hearing.hear_all.Goals as goal

pub hear-requires-clause-room : goal.hear-requires-clause-room
hear-requires-clause-room g c =
    hear_in_turn c.args.stamp.now no_mirror c.args.said.now c.loop-told.told-index c.told-item.result c.args.records.now c.loop-told.records c.loop-told-test.true c.told-item.is
    (c.loop-told.invariant.0 no_mirror) c.loop-told.invariant.1 c.requires.room

pub loop-told-preserved : goal.loop-told-preserved
loop-told-preserved g c = (
  λ mirror. heard_more c.args.stamp.now mirror c.args.said.now c.loop-told.told-index c.told-item.result c.args.records.now.book c.loop-told.records.book c.hear.new.records.book
      c.loop-told-test.true c.told-item.is (c.loop-told.invariant.0 mirror) (c.hear.ensures.book mirror),
  moves_on _ _ _ c.loop-told.invariant.1 c.hear.ensures.only,
)
