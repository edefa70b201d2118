-- A shift leaves each identity.
use Rattle.std.proofs.Common.{sym, subst, refl}
use Rattle.tc_board.specs.Schedule.{IsSchedule, shifted}
use Rattle.tc_board.proofs.SoundLemmas.{schedule_mapped}
use Rattle.tc_board.proofs.schedules.Schedule.shift_all.Goals as goal

pub invariant_of-self : goal.invariant_of-self
invariant_of-self g c =
    (subst IsSchedule (sym c.shift_each.ensures.items) (schedule_mapped (shifted c.args.offset) (λ a. refl) c.self.inside.activities.items c.self.invariant.0), rw c.shift_each.ensures.room c.self.invariant.1)
