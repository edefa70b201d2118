-- What the parts of the desk answer: as the desk does, but that the link may still refuse what no test refuses. What ties the
-- parts rules that out.
use Rattle.std.specs.Prelude.{◌≡◌, ◌⊎◌, ℕ, ◌+◌, ◌==◌, Bool, Option, Some, None, IfOk, Ok, Err, Result, List, length}
use Rattle.tc_types.specs.declared.link.frames.Frame.{Frame}
use Rattle.tc_types.specs.declared.refusals.Refusal.{Refusal}
use Rattle.tc_types.specs.declared.refusals.Refusal.TheVariants.{Memory}
use Rattle.tc_types.specs.declared.link.reports.Report.{Report}
use Rattle.tc_types.specs.declared.link.reports.Telemetry.{Telemetry}
use Rattle.tc_types.specs.declared.acts.LinkAct.{LinkAct}
use Rattle.tc_types.specs.declared.acts.LinkAct.TheVariants as link_act
use Rattle.tc_types.specs.declared.acts.Act.{Act}
use Rattle.tc_types.specs.declared.acts.Act.TheVariants as act
use Rattle.tc_world.specs.declared.events.Event.{Event}
use Rattle.tc_world.specs.declared.events.LinkIndication.{LinkIndication}
use Rattle.tc_world.specs.Links.{Kind}
use Rattle.tc_world.specs.World.{Whole, IsAsBefore, refusal_of as link_refusal_of}
use Rattle.tc_board.specs.Board.{work_reports, ClockReports}
use Rattle.tc_book.specs.declared.stamps.Stamp.{Stamp}
use Rattle.tc_book.specs.Batch.{HasRoomFor, HoldsRoom, batch_rows}
use Rattle.tc_book.specs.Records.{Kept}
use Rattle.tc_desk.specs.declared.firsts.FirstLine.{FirstLine}
use Rattle.tc_desk.specs.declared.flights.Flight.{Flight}
use Rattle.tc_desk.specs.State.{State}
use Rattle.tc_desk.specs.Asks.{event_of, taken_in, reports_after}
use Rattle.tc_book.specs.Logs.{released_with}
use Rattle.tc_desk.specs.Acts.{plain, refusal_of}
use Rattle.tc_desk.specs.Downlink.{came_down}
use Rattle.tc_desk.specs.Machine.{Happened, Does, StaysSame}

-- the event that a release is which comes with a record, if one does
abbrev pub event_beside : {U D : Type 0} → State U D → Option ℕ → Option Event
event_beside at None = None
event_beside at (Some n) = event_of at (link_act.Release n)

-- the event that an act is to the link, if it is one
abbrev pub event_asked : {U D : Type 0} → State U D → Act → Option Event
event_asked at (act.Book given) = None
event_asked at (act.Link given) = event_of at given
event_asked at (act.Step given) = event_beside at (released_with at.book given)
event_asked at (act.Ask asked) = None

-- what the link itself refuses
abbrev pub link_refuses : {U D : Type 0} → Option Event → Whole U D → Option Refusal
link_refuses None w = None
link_refuses (Some given) w = link_refusal_of given w

-- what the link answers where it is asked for an event
abbrev pub Asked : {X U D : Type 0} → Kind U Frame → Kind D Report → (X → List LinkIndication) → Event → Whole U D → Whole U D → Result X Refusal → Type 0
Asked up down all given old new (Ok done) = Happened up down given old new (all done)
Asked up down all given old new (Err refused) = ((refused ≡ Memory) ⊎ (link_refusal_of given old ≡ Some refused)) × IsAsBefore up down old new

-- The link is asked for an event. The book is as it was; and what comes of it begins `ok`, has put nothing down yet, and has room for so
-- many rows, and for one of the log.
pub record AsksLink {A U D : Type 0} (up : Kind U Frame) (down : Kind D Report) (given : Event) (rows : ℕ) (old new : Kept) (before after : Whole U D) (result : Result (Flight A) Refusal) : Type 0 where
  pub asked : Asked up down (λ flight. flight.said) given before after result
  pub book : new.book ≡ old.book
  pub log : new.log ≡ old.log
  pub begins : IfOk result (λ flight. flight.first ≡ plain)
  pub put : IfOk result (λ flight. flight.put ≡ 0)
  pub moves : IfOk result (λ flight. HasRoomFor rows flight.draft.moves)
  pub batch : IfOk result (λ flight. HasRoomFor (batch_rows 0 rows + 1) flight.draft.batch)

-- why an act is refused, by a test, by the link, or for want of memory; and nothing changed
pub record IsRefused {U D : Type 0} (up : Kind U Frame) (down : Kind D Report) (stamp : Stamp) (given : Act) (old new : State U D) (refused : Refusal) : Type 0 where
  pub why : (refusal_of stamp old given ≡ Some refused)
      ⊎ ((refusal_of stamp old given ≡ None) × ((refused ≡ Memory) ⊎ (link_refuses (event_asked old given) old.world ≡ Some refused)))
  pub same : StaysSame up down old new

-- an act is refused, or no test of it holds and it is carried out
abbrev pub Responds : {X U D : Type 0} → Kind U Frame → Kind D Report → (X → List LinkIndication) → (X → FirstLine) → State U D → Stamp → Act → State U D → Result X Refusal → Type 0
Responds up down all first old stamp given new (Ok done) = (refusal_of stamp old given ≡ None) × Does up down stamp given old new (all done) (first done)
Responds up down all first old stamp given new (Err refused) = IsRefused up down stamp given old new refused

-- how many items an act on the link puts on the downlink
abbrev pub IsPutCount : {U D : Type 0} → State U D → LinkAct → List LinkIndication → ℕ → Type 0
IsPutCount at (link_act.Release n) all count = count ≡ 0
IsPutCount at (link_act.Direct given) all count = count ≡ 0
IsPutCount at link_act.Tick all count = count ≡ 0
IsPutCount at link_act.Up all count = count ≡ length (reports_after (taken_in all))
IsPutCount at (link_act.LoseUp place) all count = count ≡ 0
IsPutCount at (link_act.LoseDown place) all count = count ≡ 0
IsPutCount at link_act.Clcw all count = count ≡ 1
IsPutCount at link_act.Down all count = count ≡ 0
IsPutCount at link_act.Work all count = count ≡ length (work_reports at.board at.board.buffer)
IsPutCount at (link_act.Clock time) all count = (reports : List Telemetry) → ClockReports time at.board.schedule reports → count ≡ length reports

-- how many any act does
abbrev pub IsCounted : {U D : Type 0} → State U D → Act → List LinkIndication → ℕ → Type 0
IsCounted at (act.Book given) all count = count ≡ 0
IsCounted at (act.Link given) all count = IsPutCount at given all count
IsCounted at (act.Step given) all count = count ≡ 0
IsCounted at (act.Ask asked) all count = Unit {0}

-- whether as much came down and flies down now as flew there and was put
pub record IsEven {U D : Type 0} (down : Kind D Report) (old : State U D) (given : Act) (new : State U D) (all : List LinkIndication) (kept : Bool) : Type 0 where
  pub put : ℕ
  pub counted : IsCounted old given all put
  pub even : kept ≡ (length (down.content old.world.down) + put == length (came_down all) + length (down.content new.world.down))

-- What carries an act out answers as the act does, and what it made has the count of the items that it put on the downlink, and room for
-- its rows.
pub record Performs {A U D : Type 0} (up : Kind U Frame) (down : Kind D Report) (old : State U D) (stamp : Stamp) (given : Act) (new : State U D) (result : Result (Flight A) Refusal) : Type 0 where
  pub answers : Responds up down (λ flight. flight.said) (λ flight. flight.first) old stamp given new result
  pub put : IfOk result (λ flight. IsCounted old given flight.said flight.put)
  pub room : IfOk result (λ flight. HoldsRoom old.book new.book flight.draft.moves flight.draft.batch)
