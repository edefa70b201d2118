use Rattle.tc_desk.proofs.StandingLemmas.{stands_kept}
use Rattle.tc_desk.proofs.desks.Desk.opened.Goals as goal

pub returns-clause-promise : goal.returns-clause-promise
returns-clause-promise g c = rw (← c.self.view_is) (stands_kept g.U.Carrier.kind g.D.Carrier.kind _ c.self.invariant)
