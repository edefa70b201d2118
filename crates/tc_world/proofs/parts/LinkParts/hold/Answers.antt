-- The request waits, and nothing else is another.
use Rattle.tc_world.proofs.CarryLemmas.{carried_silently}
use Rattle.tc_world.proofs.parts.LinkParts.hold.Goals as goal

pub returns-clause-happens : goal.returns-clause-happens
returns-clause-happens g c =
    rw (← c.self.view_is)
    (let done = carried_silently g.U.Carrier.kind _ _ _ _ c.hold.ensures.answers c.none.ensures in
    (done.0, rw (← c.self.view_is) at c.requires.taken.unknown, done.1, done.2))

pub invariant_of-self : goal.invariant_of-self
invariant_of-self g c = (c.self.invariant.0, c.hold.ensures.fop, c.self.invariant.2, c.self.invariant.3)
