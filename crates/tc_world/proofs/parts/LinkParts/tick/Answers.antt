-- The tick was carried out, or no timer runs.
use Rattle.std.proofs.Common.{sym, ap, ◌∙◌}
use Rattle.tc_fop.specs.declared.views.FopView.{FopView}
use Rattle.tc_world.proofs.CarryLemmas.{carried, ticks_idly}
use Rattle.tc_world.proofs.parts.LinkParts.tick.Goals as goal

pub returns-clause-happens : goal.returns-clause-happens
returns-clause-happens g c =
    rw (← c.self.view_is)
    (carried g.U.Carrier.kind _ _ _ _ _ _ _ _ (rw (c.reserve.ensures.machine, ← c.carry.ensures.machine) at c.tick_reserved-out.ensures.answers) c.reserve.ensures.readied c.carry.ensures.frames (rw c.reserve.ensures.log at c.carry.ensures.log) (c.many.ensures ∙ rw c.in_ok-answer.ensures.answer.0 at c.carry.ensures.answer))

pub returns-then-view-eq0-clause-happens : goal.returns-then-view-eq0-clause-happens
returns-then-view-eq0-clause-happens g c =
    rw (← c.self.view_is)
    (ticks_idly g.U.Carrier.kind g.D.Carrier.kind _ _ (sym (ap (λ (v : FopView). v.timer) c.view.ensures.view) ∙ c.if-view-eq0.true) c.none.ensures)

-- The invariants are argued as in carry_out: a goal speaks of its own function's names, and a lemma over all of them is longer.
pub invariant_of-self : goal.invariant_of-self
invariant_of-self g c = (
  c.self.invariant.0,
  rw c.reserve.ensures.machine c.self.invariant.1,
  c.self.invariant.2,
  rw c.reserve.ensures.log (c.reserve.ensures.marks _ c.self.invariant.3),
)

pub invariant_of-self-2 : goal.invariant_of-self-2
invariant_of-self-2 g c = (
  c.self.invariant.0,
  rw c.carry.ensures.machine c.tick_reserved-out.ensures.fop,
  c.self.invariant.2,
  c.carry.ensures.within.marks _ (rw c.reserve.ensures.log (c.reserve.ensures.marks _ c.self.invariant.3)),
)
