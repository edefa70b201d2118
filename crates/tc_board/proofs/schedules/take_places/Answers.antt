-- One place more.
use Rattle.std.proofs.Common.{Some, arith, ap, ◌∙◌}
use Rattle.tc_board.specs.Schedule.{listed}
use Rattle.tc_board.proofs.PlaceLemmas.{taken_more, taken_all}
use Rattle.tc_board.proofs.schedules.take_places.Goals as goal

pub loop-index-preserved : goal.loop-index-preserved
loop-index-preserved c =
    let some = c.loop-index-test.true in
    let few = c.requires in
    let places = c.told-places in (
      taken_more (λ a. Some (listed a)) c.args.activities.now c.args.places.now c.loop-index.places c.loop-index.index c.index-activities-index.result (Some c.listed.result)
          some (omega (arith, few, places)) c.loop-index.invariant.0 (ap Some c.listed.ensures ∙ ap (λ a. Some (listed a)) c.index-activities-index.is),
      omega (arith, some),
    )

pub returns : goal.returns
returns c = c.loop-index.invariant.0 ∙ taken_all (λ a. Some (listed a)) c.args.activities.now c.args.places.now c.loop-index.index c.loop-index-test.false c.loop-index.invariant.1
