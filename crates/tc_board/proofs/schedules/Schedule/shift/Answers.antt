-- A shift leaves each identity.
use Rattle.std.proofs.Common.{◌≡◌, Bool, true, false, if◌then◌else◌, sym, subst, refl}
use Rattle.tc_types.specs.declared.link.activities.Activity.{Activity}
use Rattle.tc_board.specs.Schedule.{IsSchedule, shifted, is_of}
use Rattle.tc_board.proofs.SoundLemmas.{schedule_mapped}
use Rattle.tc_board.proofs.schedules.Schedule.shift.Goals as goal

pub invariant_of-self : goal.invariant_of-self
invariant_of-self g c =
    let one : Activity → Activity = λ a. if is_of c.args.target a then shifted c.args.offset a else a in
    (subst IsSchedule (sym c.shift_one.ensures.items) (schedule_mapped one (λ a. same a (is_of c.args.target a)) c.self.inside.activities.items c.self.invariant.0), rw c.shift_one.ensures.room c.self.invariant.1)
  where
    same : (a : Activity) (t : Bool) → (if t then shifted c.args.offset a else a).identity ≡ a.identity
    same a true = refl
    same a false = refl
