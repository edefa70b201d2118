-- That the mirror is the board's schedule while every report is read, in order.
use Rattle.std.specs.Prelude.{◌≡◌, ℕ, Bool, true, false, Option, Some, None, List, [], ◌++◌, map, fold}
use Rattle.std.specs.List.{AllByRecursion}
use Rattle.tc_types.specs.declared.link.activities.Activity.{Activity}
use Rattle.tc_types.specs.declared.requests.Identity.{Identity}
use Rattle.tc_types.specs.declared.link.reports.Report.{Report}
use Rattle.tc_types.specs.declared.link.reports.Report.TheVariants as report
use Rattle.tc_types.specs.declared.link.reports.Telemetry.{Telemetry}
use Rattle.tc_types.specs.declared.link.reports.Telemetry.TheVariants as telemetry
use Rattle.tc_types.specs.declared.link.telecommands.ScheduleCommand.{ScheduleCommand}
use Rattle.tc_types.specs.declared.link.telecommands.ScheduleCommand.TheVariants.{Enable, Disable, Reset, Insert, Delete, Shift, ShiftAll, Summarize}
use Rattle.tc_types.specs.declared.link.telecommands.Task.{Task}
use Rattle.tc_types.specs.declared.link.telecommands.Task.TheVariants.{Plain, Schedule}
use Rattle.tc_types.specs.declared.link.telecommands.Telecommand.{Telecommand}
use Rattle.tc_board.specs.Schedule.{IsSchedule}
use Rattle.tc_board.specs.Board.{BoardState, accept_reports, accepted, work_reports, worked, ClockReports, clocked}
use Rattle.tc_board.specs.Mirror.{MirrorState, mirror_after}

-- What the ground knows of each request by its number. A request flies on its own or inside an insert, never both.
pub record Roll : Type 0 where
  -- whether it flies inside an insert
  pub rides : ℕ → Bool
  pub identity_of : ℕ → Identity
  -- the command of the schedule that it is
  pub command_of : ℕ → Option ScheduleCommand

-- an activity as the desk inserts it: it is plain, and asks for its acceptance
pub record IsActivityOf (roll : Roll) (activity : Activity) : Type 0 where
  pub rides : roll.rides activity.request ≡ true
  pub named : roll.identity_of activity.request ≡ activity.identity
  pub plain : roll.command_of activity.request ≡ None
  pub acknowledged : activity.ack.acceptance ≡ true

abbrev pub command_in : Task → Option ScheduleCommand
command_in (Plain outcome) = None
command_in (Schedule command) = Some command

abbrev pub inserted : Option ScheduleCommand → List Activity
inserted None = []
inserted (Some Enable) = []
inserted (Some Disable) = []
inserted (Some Reset) = []
inserted (Some (Insert activities)) = activities
inserted (Some (Delete target)) = []
inserted (Some (Shift target offset)) = []
inserted (Some (ShiftAll offset)) = []
inserted (Some Summarize) = []

-- a request as the desk releases it
pub record IsRequestOf (roll : Roll) (t : Telecommand) : Type 0 where
  pub flies : roll.rides t.request ≡ false
  pub command : roll.command_of t.request ≡ command_in t.task
  pub inserts : AllByRecursion (IsActivityOf roll) (inserted (command_in t.task))

pub record IsBoardOf (roll : Roll) (b : BoardState) : Type 0 where
  pub requests : AllByRecursion (IsRequestOf roll) b.buffer
  pub activities : AllByRecursion (IsActivityOf roll) b.schedule.activities
  pub schedule : IsSchedule b.schedule.activities

-- what the spacecraft meets
pub data Event : Type 0 where
  Accept : Telecommand → Event
  Work : Event
  Clock : ℕ → Event

-- the reports that it makes then, and what it becomes
abbrev pub Makes : BoardState → Event → List Telemetry → BoardState → Type 0
Makes b (Accept t) reports after = (reports ≡ accept_reports t) × (after ≡ accepted t b)
Makes b Work reports after = (reports ≡ work_reports b b.buffer) × (after ≡ worked b b.buffer)
Makes b (Clock time) reports after = ClockReports time b.schedule reports × (after ≡ clocked time b)

abbrev pub IsEventOf : Roll → Event → Type 0
IsEventOf roll (Accept t) = IsRequestOf roll t
IsEventOf roll Work = Unit
IsEventOf roll (Clock time) = Unit

-- each report is read with the command of the request that it names
abbrev pub with_command : Roll → Telemetry → Report × Option ScheduleCommand
with_command roll (telemetry.Verification verification request identity) = (report.Telemetry (telemetry.Verification verification request identity), roll.command_of request)
with_command roll (telemetry.Summary summary) = (report.Telemetry (telemetry.Summary summary), None)

-- the mirror once these were read, in order
abbrev pub read_all : Roll → MirrorState → List Telemetry → MirrorState
read_all roll m reports = fold mirror_after m (map (with_command roll) reports)

-- A run of the spacecraft from one state to another, and all reports that it makes.
pub data Runs (roll : Roll) : BoardState → List Telemetry → BoardState → Type 0 where
  Starts : (b : BoardState) → Runs roll b [] b
  Goes : (a b c : BoardState) (event : Event) (before made : List Telemetry) → Runs roll a before b → IsEventOf roll event → Makes b event made c → Runs roll a (before ++ made) c
