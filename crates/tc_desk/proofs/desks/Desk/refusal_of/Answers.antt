-- The book says why.
use Rattle.tc_desk.proofs.desks.Desk.refusal_of.Goals as goal

pub returns : goal.returns
returns g c = rw (← c.self.view_is, ← c.self-inside.view_is) c.refusal_of.ensures
