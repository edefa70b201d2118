-- No more stand there than there are.
use Rattle.std.proofs.Common.{◌≡◌, ◌∙◌, map, subst}
use Rattle.std.specs.Prelude.{IfOk}
use Rattle.tc_types.specs.declared.history.places.Place.TheVariants.{Scheduled}
use Rattle.tc_types.specs.declared.requests.Request.{Request}
use Rattle.tc_view.proofs.OpenLemmas.{all_standing}
use Rattle.tc_view.proofs.urgents.scheduled_in.Goals as goal

pub returns : goal.returns
returns g c =
    subst (λ l. IfOk c.numbers_of.result (λ n. n.items ≡ map (λ (r : Request). r.number) l))
    (c.deref.ensures.value ∙ c.in_ok-found.ensures ∙ all_standing c.args.records.now.book Scheduled c.count-most.result c.count-most.ensures.count) c.numbers_of.ensures
