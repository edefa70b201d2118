-- The commands of the on-board schedule (ECSS-E-ST-70-41C, service 11): what each names, and what the desk asks of it.
use Rattle.std.specs.Prelude.{◌≡◌, ℕ, ◌==◌, Bool, true, false, ◌||◌, if◌then◌else◌, List, [], ◌∷◌, map}
use Rattle.std.specs.List.{list_any}
use Rattle.tc_types.specs.declared.requests.Command.{Command}
use Rattle.tc_types.specs.declared.requests.Command.TheVariants as command
use Rattle.tc_types.specs.declared.requests.Outcome.TheVariants.{Completes}
use Rattle.tc_types.specs.declared.requests.Form.{Form}
use Rattle.tc_types.specs.declared.rides.Ride.{Ride}

-- a command of the on-board schedule
abbrev pub is_schedule : Command → Bool
is_schedule (command.Plain service subtype) = false
is_schedule command.EnableSchedule = true
is_schedule command.DisableSchedule = true
is_schedule command.ResetSchedule = true
is_schedule (command.InsertActivities rides) = true
is_schedule (command.DeleteActivity target) = true
is_schedule (command.ShiftActivity target offset) = true
is_schedule (command.ShiftAll offset) = true
is_schedule command.SummarizeAll = true

-- a schedule command asks for its completion and completes
pub record KeepsScheduleRule (form : Form) : Type 0 where
  pub completion : is_schedule form.command ≡ true → form.ack.completion ≡ true
  pub completes : is_schedule form.command ≡ true → form.outcome ≡ Completes

-- what an activity of a list is: a request, at a time
abbrev pub ridden : Ride → ℕ
ridden r = r.target

abbrev pub released_at : Ride → ℕ
released_at r = r.time

-- the requests that a command names, in its order; in a stack, the lines of them
abbrev pub targets_of : Command → List ℕ
targets_of (command.InsertActivities rides) = map ridden rides
targets_of (command.DeleteActivity target) = target ∷ []
targets_of (command.ShiftActivity target offset) = target ∷ []
targets_of other = []

abbrev pub is_insert : Command → Bool
is_insert (command.InsertActivities rides) = true
is_insert other = false

-- those of them that it puts into the schedule
abbrev pub inserted : Command → List ℕ
inserted given = if is_insert given then targets_of given else []

-- a number stands twice among these
abbrev pub has_twice : List ℕ → Bool
has_twice [] = false
has_twice (n ∷ others) = list_any (λ m. m == n) others || has_twice others
