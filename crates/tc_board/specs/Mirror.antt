-- What the ground knows of the on-board schedule: a fold over the reports that were read (this desk's own).
use Rattle.std.specs.Prelude.{ℕ, ℤ, ◌+◌, ◌==◌, ◌≤◌, length, Bool, true, false, not, if◌then◌else◌, Option, Some, None, List, [], ◌∷◌, ◌++◌, map, filter, fold}
use Rattle.std.specs.List.{list_any, filter_map}
use Rattle.tc_types.specs.declared.link.activities.ListedActivity.{ListedActivity}
use Rattle.tc_types.specs.declared.link.reports.Verification.{Verification}
use Rattle.tc_types.specs.declared.link.reports.Verification.TheVariants.{Accepted, AcceptanceFailed, Started, StartFailed, StepDone, StepFailed, Completed, CompletionFailed}
use Rattle.tc_types.specs.declared.link.reports.Telemetry.{Telemetry}
use Rattle.tc_types.specs.declared.link.reports.Telemetry.TheVariants as telemetry
use Rattle.tc_types.specs.declared.link.reports.Report.{Report}
use Rattle.tc_types.specs.declared.link.reports.Report.TheVariants as report
use Rattle.tc_types.specs.declared.link.telecommands.ScheduleCommand.{ScheduleCommand}
use Rattle.tc_types.specs.declared.link.telecommands.ScheduleCommand.TheVariants.{Enable, Disable, Reset, Insert, Delete, Shift, ShiftAll, Summarize}
use Rattle.tc_types.specs.Inserts.{most_inserted}
use Rattle.tc_board.specs.Schedule.{ScheduleState, listed, shifted_time, nearest_moment}

-- the list holds the members of a set
pub record MirrorState : Type 0 where
  pub enabled : Bool
  pub activities : List ListedActivity

-- the mirror of a new schedule
abbrev pub no_mirror : MirrorState
no_mirror = record { enabled = false; activities = [] }

-- what is told, and for how many activities there is room
pub record KeptMirror : Type 0 where
  pub told : MirrorState
  pub most : ℕ

-- there is room for as many more as an insert carries, and for all that a summary carries
abbrev pub HasRoom : KeptMirror → Type 0
HasRoom m = (length m.told.activities + most_inserted ≤ m.most) × (64 ≤ m.most)

-- what the mirror is, where it is the schedule's
abbrev pub mirror_of : ScheduleState → MirrorState
mirror_of s = record { enabled = s.enabled; activities = map listed s.activities }

abbrev pub is_listed_of : ℕ → ListedActivity → Bool
is_listed_of n activity = activity.request == n

abbrev pub without : ℕ → MirrorState → MirrorState
without n m = record m { activities = filter (λ a. not (is_listed_of n a)) m.activities }

-- one that stands there gets the new time
abbrev pub with_activity : ListedActivity → List ListedActivity → List ListedActivity
with_activity new activities =
    if list_any (is_listed_of new.request) activities
    then map (λ a. if is_listed_of new.request a then (let timed : ListedActivity = record a { time = new.time } in timed) else a) activities
    else activities ++ new ∷ []

-- a time past the limits becomes the nearest
abbrev pub moved : ℤ → ListedActivity → ListedActivity
moved offset a = record a { time = nearest_moment (shifted_time offset a.time) }

-- each command's effect without its tests
abbrev pub told : ScheduleCommand → MirrorState → MirrorState
told Enable m = record m { enabled = true }
told Disable m = record m { enabled = false }
told Reset m = record { enabled = false; activities = [] }
told (Insert activities) m = record m { activities = fold (λ known a. with_activity (listed a) known) m.activities activities }
told (Delete target) m = without target m
told (Shift target offset) m = record m { activities = map (λ a. if is_listed_of target a then moved offset a else a) m.activities }
told (ShiftAll offset) m = record m { activities = map (moved offset) m.activities }
told Summarize m = m

abbrev pub told_by : Option ScheduleCommand → MirrorState → MirrorState
told_by None m = m
told_by (Some command) m = told command m

-- a command's completion applies it; other reports of verification do not
abbrev pub verified : Verification → Option ScheduleCommand → MirrorState → MirrorState
verified Accepted command m = m
verified (AcceptanceFailed code) command m = m
verified Started command m = m
verified (StartFailed code) command m = m
verified (StepDone step) command m = m
verified (StepFailed step code) command m = m
verified Completed command m = told_by command m
verified (CompletionFailed code) command m = m

abbrev pub places_told : List (Option ListedActivity) → List ListedActivity
places_told places = filter_map (λ place. place) places

-- One report is read. The first report of an activity that stands there takes it out, before anything else that the
-- report does. A summary replaces all.
abbrev pub told_telemetry : Telemetry → Option ScheduleCommand → MirrorState → MirrorState
told_telemetry (telemetry.Verification verification request identity) command m = verified verification command (without request m)
told_telemetry (telemetry.Summary summary) command m = record { enabled = summary.enabled; activities = places_told summary.activities }

abbrev pub mirror_after : MirrorState → Report × Option ScheduleCommand → MirrorState
mirror_after m (report.Word word, command) = m
mirror_after m (report.Telemetry telemetry, command) = told_telemetry telemetry command m

-- the mirror, over the reports that were read, each with the command of the request that it names
abbrev pub mirrored : List (Report × Option ScheduleCommand) → MirrorState
mirrored reports = fold mirror_after no_mirror reports
