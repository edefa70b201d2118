-- One more was told.
use Rattle.std.proofs.Common.{[], ◌∷◌, sym, ◌∙◌, ap}
use Rattle.tc_fop.specs.declared.queues.Outstanding.{Outstanding}
use Rattle.tc_fop.specs.declared.signals.Indication.TheVariants.{InDoubt}
use Rattle.tc_fop.specs.Machine.{Out, joined}
use Rattle.tc_fop.proofs.SlotLemmas.{told_more}
use Rattle.tc_fop.proofs.queues.doubt_all.Goals as goal

pub loop-position-preserved : goal.loop-position-preserved
loop-position-preserved g c =
    c.indicate.ensures
    ∙ ap (λ (o : Out). joined o (record { frames = []; indications = InDoubt c.in-Some.held.request ∷ [] })) c.loop-position.invariant
    ∙ told_more (λ (held : Outstanding). InDoubt held.request) c.args.out.now c.args.sent.now c.loop-position.position c.in-Some.held (sym c.get.ensures ∙ c.in-Some.is)
