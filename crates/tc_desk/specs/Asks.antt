-- What an act asks of the link, and what comes on board.
use Rattle.std.specs.Prelude.{ℕ, nat_lt, Bool, true, false, Option, Some, None, List, [], ◌∷◌, length}
use Rattle.tc_types.specs.declared.acts.LinkAct.{LinkAct}
use Rattle.tc_types.specs.declared.acts.LinkAct.TheVariants as act
use Rattle.tc_types.specs.declared.link.reports.Telemetry.{Telemetry}
use Rattle.tc_types.specs.declared.link.telecommands.Payload.{Payload}
use Rattle.tc_types.specs.declared.requests.Request.{Request}
use Rattle.tc_types.specs.declared.link.telecommands.Telecommand.{Telecommand}
use Rattle.tc_farm.specs.declared.farms.FrameVerdict.TheVariants as verdict
use Rattle.tc_world.specs.declared.events.Event.{Event}
use Rattle.tc_world.specs.declared.events.Event.TheVariants as event
use Rattle.tc_world.specs.declared.events.LinkIndication.{LinkIndication}
use Rattle.tc_world.specs.declared.events.LinkIndication.TheVariants as said
use Rattle.tc_board.specs.Board.{BoardState, accepted, accept_reports}
use Rattle.tc_types.specs.declared.link.reports.Report.TheVariants as report
use Rattle.tc_types.specs.declared.link.reports.Telemetry.TheVariants as telemetry
use Rattle.tc_types.specs.declared.link.reports.Report.{Report}
use Rattle.tc_types.specs.declared.link.telecommands.ScheduleCommand.{ScheduleCommand}
use Rattle.tc_board.specs.Mirror.{MirrorState, mirror_after}
use Rattle.tc_book.specs.Book.{Book, request_at}
use Rattle.tc_desk.specs.Commands.{payload_of, command_at}
use Rattle.tc_desk.specs.State.{State}

-- a request is offered with what flies of it
abbrev pub offer_at : Book → ℕ → Option Request → Option Event
offer_at book n None = None
offer_at book n (Some request) = Some (event.Offer n (payload_of book request.body))

-- the spacecraft's input buffer takes one more request
abbrev pub has_buffer : BoardState → Bool
has_buffer board = nat_lt (length board.buffer) 4

-- the event that an act is to the link; what the spacecraft does by itself is none
abbrev pub event_of : {U D : Type 0} → State U D → LinkAct → Option Event
event_of at (act.Release n) = offer_at at.book n (request_at at.book n)
event_of at (act.Direct given) = Some (event.Directive given)
event_of at act.Tick = Some event.Tick
event_of at act.Up = Some (event.Uplink (has_buffer at.board))
event_of at (act.LoseUp place) = Some (event.LoseUp place)
event_of at (act.LoseDown place) = Some (event.LoseDown place)
event_of at act.Clcw = Some event.Clcw
event_of at act.Down = Some event.Downlink
event_of at act.Work = None
event_of at (act.Clock time) = None

-- an event at which something comes down
abbrev pub brings_down : Event → Bool
brings_down (event.Offer request body) = false
brings_down (event.Directive given) = false
brings_down event.Tick = false
brings_down (event.Uplink free_buffer) = false
brings_down (event.LoseUp place) = false
brings_down event.Release = false
brings_down event.Clcw = false
brings_down (event.Put telemetry) = false
brings_down event.Downlink = true
brings_down (event.LoseDown place) = false
brings_down event.Transmit = false
brings_down (event.Hear item) = true

-- a request as it comes on board
abbrev pub telecommand_of : ℕ → Payload → Telecommand
telecommand_of n body = record { request = n; identity = body.identity; ack = body.ack; task = body.task }

-- the request that the link tells to be accepted
abbrev pub taken_in : List LinkIndication → Option Telecommand
taken_in [] = None
taken_in (said.Fop i ∷ others) = None
taken_in (said.Farm (verdict.Accepted n body) ∷ others) = Some (telecommand_of n body)
taken_in (said.Farm verdict.Discarded ∷ others) = None
taken_in (said.Farm verdict.Control ∷ others) = None
taken_in (said.Received item ∷ others) = None
taken_in (said.Lost ∷ others) = None
taken_in (said.Transmitted frame ∷ others) = None

-- the spacecraft after it
abbrev pub board_after : Option Telecommand → BoardState → BoardState
board_after None board = board
board_after (Some t) board = accepted t board

-- the report that it makes at once
abbrev pub reports_after : Option Telecommand → List Telemetry
reports_after None = []
reports_after (Some t) = accept_reports t

-- the command that flew with the request of a report, where the report names one
abbrev pub command_told : Book → Report → Option ScheduleCommand
command_told book (report.Word word) = None
command_told book (report.Telemetry (telemetry.Verification verification n identity)) = command_at book n
command_told book (report.Telemetry (telemetry.Summary summary)) = None

-- the same of what came down
abbrev pub command_down : Book → List LinkIndication → Option ScheduleCommand
command_down book [] = None
command_down book (said.Fop i ∷ others) = None
command_down book (said.Farm verdict ∷ others) = None
command_down book (said.Received item ∷ others) = command_told book item
command_down book (said.Lost ∷ others) = None
command_down book (said.Transmitted frame ∷ others) = None

-- a mirror after what came down was read, with this command
abbrev pub mirror_read : Option ScheduleCommand → List LinkIndication → MirrorState → MirrorState
mirror_read given [] mirror = mirror
mirror_read given (said.Fop i ∷ others) mirror = mirror
mirror_read given (said.Farm verdict ∷ others) mirror = mirror
mirror_read given (said.Received item ∷ others) mirror = mirror_after mirror (item, given)
mirror_read given (said.Lost ∷ others) mirror = mirror
mirror_read given (said.Transmitted frame ∷ others) mirror = mirror

-- with the command that flew
abbrev pub mirror_by : Book → List LinkIndication → MirrorState → MirrorState
mirror_by book all mirror = mirror_read (command_down book all) all mirror
