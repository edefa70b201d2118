-- A list that no test fails goes in, and leaves a schedule.
use Rattle.std.proofs.Common.{◌≡◌, ◌++◌, None, sym, subst, ap, ◌∙◌}
use Rattle.tc_types.specs.declared.link.telecommands.ScheduleCommand.TheVariants.{Insert}
use Rattle.tc_board.specs.Schedule.{ScheduleState, IsSchedule, failure_of}
use Rattle.tc_board.proofs.SoundLemmas.{command_sound}
use Rattle.tc_board.proofs.schedules.Schedule.insert.Goals as goal

pub invariant_of-self : goal.invariant_of-self
invariant_of-self g c =
    let old : ScheduleState = record { enabled = c.self.inside.enabled; activities = c.self.inside.activities.items } in
    let passes : failure_of c.args.now (Insert c.args.activities.now) old ≡ None = rw (← c.self.view_is) at (sym c.insert_fault.ensures ∙ c.in_default.is) in
    let items : c.put_behind.new.activities.items ≡ old.activities ++ c.args.activities.now = c.put_behind.ensures.items ∙ ap (λ l. old.activities ++ l) c.as_slice.ensures.activities in
    (subst IsSchedule (sym items) (command_sound c.args.now (Insert c.args.activities.now) old c.self.invariant.0 passes), rw c.put_behind.ensures.room c.self.invariant.1)
