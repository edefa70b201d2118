-- What stays is a schedule.
use Rattle.std.proofs.Common.{not, sym, subst}
use Rattle.tc_board.specs.Schedule.{IsSchedule, is_due}
use Rattle.tc_board.proofs.SoundLemmas.{schedule_filtered}
use Rattle.tc_board.proofs.schedules.Schedule.drop_due.Goals as goal

pub invariant_of-self : goal.invariant_of-self
invariant_of-self g c =
    (subst IsSchedule (sym c.take_due.ensures.items) (schedule_filtered (λ a. not (is_due c.args.now a)) c.self.inside.activities.items c.self.invariant.0), rw c.take_due.ensures.room c.self.invariant.1)
