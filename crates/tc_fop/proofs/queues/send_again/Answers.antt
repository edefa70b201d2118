-- One more was sent.
use Rattle.std.proofs.Common.{[], ◌∷◌, sym, ◌∙◌, ap}
use Rattle.tc_types.specs.declared.link.frames.Frame.TheVariants.{Ad}
use Rattle.tc_fop.specs.declared.queues.Outstanding.{Outstanding}
use Rattle.tc_fop.specs.Machine.{Out, joined}
use Rattle.tc_fop.proofs.SlotLemmas.{sent_more}
use Rattle.tc_fop.proofs.queues.send_again.Goals as goal

pub loop-place-preserved : goal.loop-place-preserved
loop-place-preserved g c =
    c.send.ensures
    ∙ ap (λ (o : Out). joined o (record { frames = Ad c.in-Some.held.ns c.in-Some.held.request c.in-Some.held.body ∷ []; indications = [] })) c.loop-place.invariant
    ∙ sent_more (λ (held : Outstanding). Ad held.ns held.request held.body) c.args.out.now c.args.sent.now c.loop-place.place c.in-Some.held (sym c.get.ensures ∙ c.in-Some.is)
