-- One more has left, and it was told.
use Rattle.std.proofs.Common.{◌≡◌, ◌+◌, Some, List, [], ◌∷◌, drop, slice_get, sym, ◌∙◌, ap, arith}
use Rattle.std.proofs.lemmas.List.{drop-drop}
use Rattle.tc_fop.specs.declared.queues.Outstanding.{Outstanding}
use Rattle.tc_fop.specs.declared.signals.Indication.TheVariants.{Confirmed}
use Rattle.tc_fop.specs.Machine.{Out, joined}
use Rattle.tc_fop.proofs.QueueLemmas.{slice_get_after}
use Rattle.tc_fop.proofs.SlotLemmas.{told_more}
use Rattle.tc_fop.proofs.queues.confirm_front.Goals as goal

pub loop-preserved : goal.loop-preserved
loop-preserved g c =
    let all = c.args.sent.now in
    let n = c.loop.counter in
    let same : n + 0 ≡ n = omega arith in
    let first : slice_get all n ≡ Some c.in-Some.first =
    ap (λ k. slice_get all k) (sym same) ∙ sym (slice_get_after n all 0)
    ∙ ap (λ (l : List Outstanding). slice_get l 0) (sym c.loop.invariant.0) ∙ sym c.pop_front.ensures.value ∙ c.in-Some.is in (
      c.pop_front.ensures.left ∙ ap (λ (l : List Outstanding). drop 1 l) c.loop.invariant.0 ∙ drop-drop 1 n all,
      c.indicate.ensures
          ∙ ap (λ (o : Out). joined o (record { frames = []; indications = Confirmed c.in-Some.first.request ∷ [] })) c.loop.invariant.1
          ∙ told_more (λ (held : Outstanding). Confirmed held.request) c.args.out.now all n c.in-Some.first first,
    )
