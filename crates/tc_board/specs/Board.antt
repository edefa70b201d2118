-- The rehearsal spacecraft: its time, its input buffer and its schedule. Buffer, codes and the report of an activity that
-- falls due while the schedule is disabled are this desk's own.
use Rattle.std.specs.Prelude.{◌≡◌, ℕ, Bool, if◌then◌else◌, Option, Some, None, List, [], ◌∷◌, ◌++◌, map}
use Rattle.std.specs.List.{flat_map}
use Rattle.tc_types.specs.declared.link.activities.Activity.{Activity}
use Rattle.tc_types.specs.declared.link.reports.Verification.TheVariants as report
use Rattle.tc_types.specs.declared.link.reports.Telemetry.{Telemetry}
use Rattle.tc_types.specs.declared.link.reports.Telemetry.TheVariants as telemetry
use Rattle.tc_types.specs.declared.requests.Identity.{Identity}
use Rattle.tc_types.specs.declared.requests.Outcome.{Outcome}
use Rattle.tc_types.specs.declared.requests.Outcome.TheVariants.{Completes}
use Rattle.tc_types.specs.declared.link.telecommands.ScheduleCommand.{ScheduleCommand}
use Rattle.tc_types.specs.declared.link.telecommands.ScheduleCommand.TheVariants.{Enable, Disable, Reset, Insert, Delete, Shift, ShiftAll, Summarize}
use Rattle.tc_types.specs.declared.link.telecommands.Task.{Task}
use Rattle.tc_types.specs.declared.link.telecommands.Task.TheVariants.{Plain, Schedule}
use Rattle.tc_types.specs.declared.link.telecommands.Telecommand.{Telecommand}
use Rattle.tc_board.specs.declared.outcomes.Reporter.{Reporter}
use Rattle.tc_board.specs.declared.schedules.ScheduleFault.{ScheduleFault}
use Rattle.tc_board.specs.Schedule.{ScheduleState, empty_schedule, failure_of, after_command, after_due, fault_code, summary_of, FallDue}
use Rattle.tc_board.specs.Reports.{tells, asked, is_refused, first_reports, later_reports, reports_of}

pub record BoardState : Type 0 where
  pub time : ℕ
  -- oldest first
  pub buffer : List Telecommand
  pub schedule : ScheduleState
  -- all that it was given since it was made, in order
  pub given : List Telecommand

-- a spacecraft at this time: nothing is buffered, its schedule is new, and it was given nothing
abbrev pub new_board : ℕ → BoardState
new_board time = record { time = time; buffer = []; schedule = empty_schedule; given = [] }

-- whose reports those of a request and of an activity are
abbrev pub reporter_of : Telecommand → Reporter
reporter_of t = record { request = t.request; identity = t.identity; ack = t.ack }

abbrev pub reporter_at : Activity → Reporter
reporter_at a = record { request = a.request; identity = a.identity; ack = a.ack }

-- the name of the oldest request
abbrev pub oldest_of : List Telecommand → Option Identity
oldest_of [] = None
oldest_of (oldest ∷ others) = Some oldest.identity

-- ---- a request comes

-- a command of the schedule is accepted
abbrev pub outcome_of : Task → Outcome
outcome_of (Plain outcome) = outcome
outcome_of (Schedule command) = Completes

abbrev pub accept_reports : Telecommand → List Telemetry
accept_reports t = map (tells (reporter_of t)) (first_reports t.ack (outcome_of t.task))

-- The spacecraft was given this one, which enters the buffer if it is not refused.
abbrev pub accepted : Telecommand → BoardState → BoardState
accepted t b = record b {
  given = b.given ++ t ∷ [];
  buffer = if is_refused (outcome_of t.task) then b.buffer else b.buffer ++ t ∷ [];
}

-- ---- the oldest request is carried out

-- what a command shows beside its verification: a summary
abbrev pub shown : ScheduleCommand → ScheduleState → List Telemetry
shown Enable s = []
shown Disable s = []
shown Reset s = []
shown (Insert activities) s = []
shown (Delete target) s = []
shown (Shift target offset) s = []
shown (ShiftAll offset) s = []
shown Summarize s = telemetry.Summary (summary_of s) ∷ []

-- A command of the schedule that fails makes TM[1,4] with its code alone. Else it makes its start where that is asked for,
-- what it shows, and always its completion.
abbrev pub command_reports : Reporter → Option ScheduleFault → ScheduleCommand → ScheduleState → List Telemetry
command_reports r (Some fault) command s = tells r (report.StartFailed (fault_code fault)) ∷ []
command_reports r None command s = map (tells r) (asked r.ack.start (report.Started ∷ [])) ++ shown command s ++ tells r report.Completed ∷ []

-- the reports of carrying a task out
abbrev pub task_reports : ℕ → Reporter → Task → ScheduleState → List Telemetry
task_reports now r (Plain outcome) s = map (tells r) (later_reports r.ack outcome)
task_reports now r (Schedule command) s = command_reports r (failure_of now command s) command s

abbrev pub after_task : ℕ → Task → ScheduleState → ScheduleState
after_task now (Plain outcome) s = s
after_task now (Schedule command) s = after_command (failure_of now command s) command s

-- what work on the buffer reports, and what it leaves
abbrev pub work_reports : BoardState → List Telecommand → List Telemetry
work_reports b [] = []
work_reports b (oldest ∷ others) = task_reports b.time (reporter_of oldest) oldest.task b.schedule

abbrev pub worked : BoardState → List Telecommand → BoardState
worked b [] = b
worked b (oldest ∷ others) = record b { buffer = others; schedule = after_task b.time oldest.task b.schedule }

-- ---- the time goes on

-- the reports of an activity that falls due: all of them where the schedule is enabled, else one failure, code 5
abbrev pub released : Bool → Activity → List Telemetry
released enabled a = map (tells (reporter_at a)) (if enabled then reports_of a.ack a.outcome else report.StartFailed 5 ∷ [])

-- what falls due is released, in its order
pub record ClockReports (now : ℕ) (s : ScheduleState) (reports : List Telemetry) : Type 0 where
  pub due : List Activity
  pub falls : FallDue now s due
  pub are : reports ≡ flat_map (released s.enabled) due

abbrev pub clocked : ℕ → BoardState → BoardState
clocked now b = record b { time = now; schedule = after_due now b.schedule }
