-- The offer was carried out.
use Rattle.std.proofs.Common.{◌∙◌}
use Rattle.tc_world.proofs.CarryLemmas.{carried}
use Rattle.tc_world.proofs.parts.LinkParts.pass_offer.Goals as goal

pub returns-clause-happens : goal.returns-clause-happens
returns-clause-happens g c =
    let fresh = rw (← c.self.view_is) at c.requires.taken.unknown in
    rw (← c.self.view_is)
    (let done = carried g.U.Carrier.kind _ _ _ _ _ _ _ _ (rw (c.reserve.ensures.machine, ← c.carry.ensures.machine) at c.offer_reserved-out.ensures.answers) c.reserve.ensures.readied c.carry.ensures.frames (rw c.reserve.ensures.log at c.carry.ensures.log) (c.many.ensures ∙ rw c.in_ok-answer.ensures.answer.0 at c.carry.ensures.answer) in
    (done.0, fresh, done.1, done.2))

-- The invariants are argued as in carry_out: a goal speaks of its own function's names, and a lemma over all of them is longer.
pub invariant_of-self : goal.invariant_of-self
invariant_of-self g c = (
  c.self.invariant.0,
  rw c.reserve.ensures.machine c.self.invariant.1,
  c.self.invariant.2,
  rw c.reserve.ensures.log (c.reserve.ensures.marks _ c.self.invariant.3),
)

pub invariant_of-self-2 : goal.invariant_of-self-2
invariant_of-self-2 g c = (
  c.self.invariant.0,
  rw c.carry.ensures.machine c.offer_reserved-out.ensures.fop,
  c.self.invariant.2,
  c.carry.ensures.within.marks _ (rw c.reserve.ensures.log (c.reserve.ensures.marks _ c.self.invariant.3)),
)
