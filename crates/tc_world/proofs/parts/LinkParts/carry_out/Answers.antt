-- The directive was carried out in the newest session.
use Rattle.std.proofs.Common.{sym, ◌∙◌}
use Rattle.tc_world.proofs.CarryLemmas.{carried, directs_on}
use Rattle.tc_world.proofs.parts.LinkParts.carry_out.Goals as goal

pub returns-clause-directs : goal.returns-clause-directs
returns-clause-directs g c =
    let other = sym c.begins_session.ensures ∙ c.if-begins_session.false in
    rw (← c.self.view_is)
    (let done = carried g.U.Carrier.kind _ _ _ _ _ _ _ _ (rw (c.reserve.ensures.machine, ← c.carry.ensures.machine) at c.directive_reserved-out.ensures.answers) c.reserve.ensures.readied c.carry.ensures.frames (rw c.reserve.ensures.log at c.carry.ensures.log) (c.many.ensures ∙ rw c.in_ok-answer.ensures.answer.0 at c.carry.ensures.answer) in
    (done.0, done.1, directs_on g.U.Carrier.kind g.D.Carrier.kind _ _ _ _ _ other done.2))

pub invariant_of-self : goal.invariant_of-self
invariant_of-self g c = (
  c.self.invariant.0,
  rw c.reserve.ensures.machine c.self.invariant.1,
  c.self.invariant.2,
  rw c.reserve.ensures.log (c.reserve.ensures.marks _ c.self.invariant.3),
)

pub invariant_of-self-2 : goal.invariant_of-self-2
invariant_of-self-2 g c = (
  c.self.invariant.0,
  rw c.carry.ensures.machine c.directive_reserved-out.ensures.fop,
  c.self.invariant.2,
  c.carry.ensures.within.marks _ (rw c.reserve.ensures.log (c.reserve.ensures.marks _ c.self.invariant.3)),
)
