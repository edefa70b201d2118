-- The activities of the mirror, in their order.
use Rattle.tc_desk.proofs.desks.Desk.schedule.Goals as goal

pub returns-clause-enabled : goal.returns-clause-enabled
returns-clause-enabled g c = rw (← c.self.view_is, ← c.self-inside.view_is) c.is_enabled.ensures

pub returns-clause-all : goal.returns-clause-all
returns-clause-all g c = rw (← c.self.view_is, ← c.self-inside.view_is) c.in_ok-activities.ensures.all
