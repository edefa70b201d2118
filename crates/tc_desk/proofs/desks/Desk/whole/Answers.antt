use Rattle.tc_desk.proofs.desks.Desk.whole.Goals as goal

pub returns-clause-mirror : goal.returns-clause-mirror
returns-clause-mirror g c = rw (← c.self.view_is) c.self.invariant.followed.follows
