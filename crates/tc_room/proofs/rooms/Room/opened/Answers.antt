use Rattle.tc_room.proofs.rooms.Room.opened.Goals as goal

pub returns-clause-good : goal.returns-clause-good
returns-clause-good g c = rw (← c.self.view_is) c.self.invariant
