-- One tally more.
use Rattle.std.proofs.Common.{◌∙◌}
use Rattle.tc_book.proofs.ReopenLemmas.{tally_more}
use Rattle.tc_book.proofs.reopening.tables.are_tallied.Goals as goal

pub loop-at-preserved : goal.loop-at-preserved
loop-at-preserved c =
    tally_more c.args.amounts.now c.args.tallies.now c.loop-at.at _ c.if-tallies-ne-PLACES.false c.loop-at-test.true c.loop-at.invariant (c.is_same_tally.ensures.0 c.if-not-is_same_tally.false ∙ c.tally_of.ensures)
