-- The lines of the board: one for each open request and each execution that has not ended.
use Rattle.std.specs.Prelude.{◌≡◌, ℕ, ◌-◌, Option, Some, None, List, [], ◌∷◌, ◌++◌, drop, map, take}
use Rattle.std.specs.List.{filter_map}
use Rattle.std.specs.Option.{option_map}
use Rattle.tc_types.specs.declared.requests.Command.{Command}
use Rattle.tc_types.specs.declared.requests.Command.TheVariants as command
use Rattle.tc_types.specs.declared.requests.Request.{Request}
use Rattle.tc_types.specs.declared.requests.Origin.{Origin}
use Rattle.tc_types.specs.declared.tables.rows.BegunExecution.{BegunExecution}
use Rattle.tc_proc.specs.Executions.{next_step}
use Rattle.tc_proc.specs.Logs.{LogState, state_of}
use Rattle.tc_book.specs.Book.{Book}
use Rattle.tc_urgent.specs.declared.kinds.UrgentKind.{UrgentKind}
use Rattle.tc_urgent.specs.declared.kinds.UrgentKind.TheVariants.{StepDue}
use Rattle.tc_urgent.specs.declared.lines.OnBoard.{OnBoard}
use Rattle.tc_urgent.specs.declared.lines.UrgentLine.{UrgentLine}
use Rattle.tc_urgent.specs.Judging.{kind_of, since, waited}

-- the service of a command, and its subtype there (ECSS-E-ST-70-41C): the on-board schedule is service 11
abbrev pub service_of : Command → ℕ
service_of (command.Plain service subtype) = service
service_of other = 11

abbrev pub subtype_of : Command → ℕ
subtype_of (command.Plain service subtype) = subtype
subtype_of command.EnableSchedule = 1
subtype_of command.DisableSchedule = 2
subtype_of command.ResetSchedule = 3
subtype_of (command.InsertActivities rides) = 4
subtype_of (command.DeleteActivity target) = 5
subtype_of (command.ShiftActivity target offset) = 7
subtype_of (command.ShiftAll offset) = 15
subtype_of command.SummarizeAll = 17

abbrev pub on_board : Request → OnBoard
on_board r = record { identity = r.body.identity; service = service_of r.body.command; subtype = subtype_of r.body.command }

abbrev pub stack_of : Request → Option (List ℕ)
stack_of r = option_map (λ (o : Origin). o.stack) r.origin

-- the line of a request of this kind
abbrev pub line_as : Book → Request → UrgentKind → UrgentLine
line_as book r kind = record { kind = kind; number = r.number; on_board = Some (on_board r); stack = stack_of r; since = since book.history r.number; waited = waited book.history r.number; same = 0 }

abbrev pub request_line : Book → ℕ → List ℕ → Request → Option UrgentLine
request_line book opened scheduled r = option_map (line_as book r) (kind_of book opened scheduled r)

-- the line of an execution that has not ended; its steps are no moves
abbrev pub step_as : BegunExecution → ℕ → UrgentLine
step_as x step = record { kind = StepDue; number = x.execution; on_board = None; stack = None; since = 0; waited = 0; same = 0 }

abbrev pub execution_line : LogState → BegunExecution → Option UrgentLine
execution_line log x = option_map (step_as x) (next_step (state_of log x))

-- all lines, by number
abbrev pub request_lines : Book → ℕ → List ℕ → List UrgentLine
request_lines book opened scheduled = filter_map (request_line book opened scheduled) book.requests

abbrev pub lines_of : Book → ℕ → List ℕ → List UrgentLine
lines_of book opened scheduled = request_lines book opened scheduled ++ filter_map (execution_line book.log) book.log.executions

-- a page begins at this line, from 1
abbrev pub page_of : ℕ → List UrgentLine → List UrgentLine
page_of from lines = take 50 (drop (from - 1) lines)
