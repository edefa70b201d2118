-- The commands of the on-board schedule at the desk: which requests they name, and what flies of them.
use Rattle.std.specs.Prelude.{ℕ, Bool, not, Option, Some, None, List, [], ◌∷◌}
use Rattle.std.specs.Option.{option_map}
use Rattle.tc_types.specs.declared.link.activities.Activity.{Activity}
use Rattle.tc_types.specs.declared.history.places.Place.TheVariants.{Approved}
use Rattle.tc_types.specs.declared.requests.Body.{Body}
use Rattle.tc_types.specs.declared.requests.Command.{Command}
use Rattle.tc_types.specs.declared.requests.Command.TheVariants as command
use Rattle.tc_types.specs.declared.requests.Request.{Request}
use Rattle.tc_types.specs.declared.rides.Ride.{Ride}
use Rattle.tc_types.specs.declared.link.telecommands.Payload.{Payload}
use Rattle.tc_types.specs.declared.link.telecommands.ScheduleCommand.{ScheduleCommand}
use Rattle.tc_types.specs.declared.link.telecommands.ScheduleCommand.TheVariants as schedule
use Rattle.tc_types.specs.declared.link.telecommands.Task.{Task}
use Rattle.tc_types.specs.declared.link.telecommands.Task.TheVariants as task
use Rattle.tc_types.specs.Schedule.{inserted}
use Rattle.tc_book.specs.Book.{Book, stands, request_at}

-- ---- what flies

-- one in front of others, where there is the one and there are the others
abbrev pub both_of : {X : Type 0} → Option X → Option (List X) → Option (List X)
both_of (Some first) (Some others) = Some (first ∷ others)
both_of first others = None

-- a request as an activity that is released at this time
abbrev pub activity_of : Request → ℕ → Activity
activity_of target time =
    record { request = target.number; identity = target.body.identity; ack = target.body.ack; outcome = target.body.outcome; time = time }

-- what an insert names at one of its places, as the activity that flies with it; none where that request is not there
abbrev pub flown_activity : Book → Ride → Option Activity
flown_activity book ride = option_map (λ target. activity_of target ride.time) (request_at book ride.target)

-- all that it names; none where a request is not there
abbrev pub activities_of : Book → List Ride → Option (List Activity)
activities_of book [] = Some []
activities_of book (ride ∷ rides) = both_of (flown_activity book ride) (activities_of book rides)

-- an insert carries the activities that it names
abbrev pub insert_of : Book → List Ride → Option ScheduleCommand
insert_of book rides = option_map schedule.Insert (activities_of book rides)

-- a command of the schedule as it flies
abbrev pub flown_command : Book → Command → Option ScheduleCommand
flown_command book (command.Plain service subtype) = None
flown_command book command.EnableSchedule = Some schedule.Enable
flown_command book command.DisableSchedule = Some schedule.Disable
flown_command book command.ResetSchedule = Some schedule.Reset
flown_command book (command.InsertActivities rides) = insert_of book rides
flown_command book (command.DeleteActivity target) = Some (schedule.Delete target)
flown_command book (command.ShiftActivity target offset) = Some (schedule.Shift target offset)
flown_command book (command.ShiftAll offset) = Some (schedule.ShiftAll offset)
flown_command book command.SummarizeAll = Some schedule.Summarize

-- a plain request behaves on board as its outcome says
abbrev pub task_of : Body → Option ScheduleCommand → Task
task_of body None = task.Plain body.outcome
task_of body (Some given) = task.Schedule given

-- what flies of a request
abbrev pub payload_of : Book → Body → Payload
payload_of book body = record { identity = body.identity; ack = body.ack; task = task_of body (flown_command book body.command) }

-- the command that flew with request n; none where it is plain
abbrev pub command_of : Book → Option Request → Option ScheduleCommand
command_of book None = None
command_of book (Some request) = flown_command book request.body.command

abbrev pub command_at : Book → ℕ → Option ScheduleCommand
command_at book n = command_of book (request_at book n)

-- ---- what they name

-- the activities of a request, where that is an insert, in its order
abbrev pub activities_in : Option Request → List ℕ
activities_in None = []
activities_in (Some request) = inserted request.body.command

abbrev pub activities_at : Book → ℕ → List ℕ
activities_at book n = activities_in (request_at book n)

-- an activity that may not ride: it is not approved
abbrev pub may_not_ride : Book → ℕ → Bool
may_not_ride book target = not (stands book target (Approved ∷ []))
