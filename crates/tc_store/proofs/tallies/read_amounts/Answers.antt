use Rattle.std.proofs.Common.{◌≡◌, length, length-set, rules, ◌∙◌}
use Rattle.tc_store.proofs.TallyLemmas.{amounts_more}
use Rattle.tc_store.proofs.tallies.read_amounts.Goals as goal

pub places-preserved : goal.places-preserved
places-preserved c =
    let whole : length c.args.rows.now ≡ 15 = search rules in (
      length-set c.places.amounts c.places.i c.in_ok-amount.amount ∙ c.places.invariant.0,
      λ all are. amounts_more c.args.rows.now all c.places.amounts c.places.i c.in_ok-amount.amount _ c.places.invariant.0 whole c.places-test.true are (rw c.index-rows-i.is at c.in_ok-amount.ensures.reads) (c.places.invariant.1 all are),
    )
