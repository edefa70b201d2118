-- No activity stands.
use Rattle.std.proofs.Common.{sym, subst}
use Rattle.tc_board.specs.Schedule.{IsSchedule}
use Rattle.tc_board.proofs.SoundLemmas.{schedule_empty}
use Rattle.tc_board.proofs.schedules.Schedule.reset.Goals as goal

pub invariant_of-self : goal.invariant_of-self
invariant_of-self g c = (subst IsSchedule (sym c.clear.ensures.items) schedule_empty, rw c.clear.ensures.capacity c.self.invariant.1)
