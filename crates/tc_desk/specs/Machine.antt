-- The desk machine: what is answered to whom, and what becomes of the desk. It is a relation: what the link tells is not
-- decided by the desk alone, nor where memory is refused.
use Rattle.std.specs.Prelude.{◌≡◌, ◌⊎◌, ℕ, true, false, Option, Some, None, Ok, Err, Result, List, [], ◌∷◌, length, drop}
use Rattle.std.specs.List.{list_all}
use Rattle.tc_types.specs.declared.link.frames.Frame.{Frame}
use Rattle.tc_types.specs.declared.history.moves.Move.{Move}
use Rattle.tc_types.specs.declared.refusals.Refusal.{Refusal}
use Rattle.tc_types.specs.declared.refusals.Refusal.TheVariants.{Memory}
use Rattle.tc_types.specs.declared.link.reports.Report.{Report}
use Rattle.tc_types.specs.declared.link.reports.Telemetry.{Telemetry}
use Rattle.tc_types.specs.declared.acts.LinkAct.{LinkAct}
use Rattle.tc_types.specs.declared.acts.LinkAct.TheVariants as link_act
use Rattle.tc_types.specs.declared.acts.Act.{Act}
use Rattle.tc_types.specs.declared.acts.Act.TheVariants as act
use Rattle.tc_types.specs.declared.acts.Line.{Line}
use Rattle.tc_types.specs.declared.tables.rows.Row.{Row}
use Rattle.tc_types.specs.Tables.{applied}
use Rattle.tc_farm.specs.Farm.{is_locked_out}
use Rattle.tc_world.specs.declared.events.Event.{Event}
use Rattle.tc_world.specs.declared.events.Event.TheVariants as event
use Rattle.tc_world.specs.declared.events.LinkIndication.{LinkIndication}
use Rattle.tc_world.specs.Links.{Kind}
use Rattle.tc_world.specs.Abstraction.{seen}
use Rattle.tc_world.specs.Telling.{TellsRequests}
use Rattle.tc_world.specs.Fair.{is_fair}
use Rattle.tc_world.specs.Window.{Follows}
use Rattle.tc_world.specs.World.{Whole, Happens, IsAsBefore, sets_fitting}
use Rattle.tc_board.specs.Board.{work_reports, worked, ClockReports, clocked}
use Rattle.tc_book.specs.declared.stamps.Stamp.{Stamp}
use Rattle.tc_desk.specs.declared.firsts.FirstLine.{FirstLine}
use Rattle.tc_book.specs.Logs.{released_with}
use Rattle.tc_book.specs.Tables.{image_of}
use Rattle.tc_desk.specs.State.{State}
use Rattle.tc_desk.specs.Asks.{event_of, has_buffer, taken_in, board_after, reports_after, mirror_by}
use Rattle.tc_desk.specs.Effects.{heard_all}
use Rattle.tc_desk.specs.Acts.{refusal_of, acted, first_of}
use Rattle.tc_desk.specs.Replies.{Reply, Replies, act_reply, refusal_reply}

-- ---- what an act makes of the link and the spacecraft

-- One event happened to the link, by the link's own relation; while every start was good it is a run of the session that is on, or
-- another session begins; and while K fitted too, the FARM is not in Lockout, and no other alert came than those that may. It is a
-- record, so that what it is stays closed where an act only hands it on.
pub record Happened {U D : Type 0} (up : Kind U Frame) (down : Kind D Report) (given : Event) (old new : Whole U D) (all : List LinkIndication) : Type 0 where
  pub happens : Happens up down given old new all
  pub tells : TellsRequests given old new all
  pub follows : new.clean ≡ true → Follows (seen up down old) (seen up down new)
  -- K moves where it is set, and fits still where the new one does
  pub keeps_fitting : old.fits ≡ true → sets_fitting given old.farm ≡ true → new.fits ≡ true
  pub open_farm : new.clean ≡ true → new.fits ≡ true → is_locked_out new.farm.state ≡ false
  pub fair : new.clean ≡ true → new.fits ≡ true → list_all (is_fair old.level old.fop.state) all ≡ true

-- what is asked of the link, where something is asked; the spacecraft is not touched
abbrev pub Passes : {U D : Type 0} → Kind U Frame → Kind D Report → Option Event → Whole U D → Whole U D → List LinkIndication → Type 0
Passes up down None old new all = (new ≡ old) × (all ≡ [])
Passes up down (Some given) old new all = Happened up down given old new all

-- these reports were put on the downlink, in order, and nothing was told of it
abbrev pub PutsDown : {U D : Type 0} → Kind U Frame → Kind D Report → List Telemetry → Whole U D → Whole U D → Type 0
PutsDown up down [] old new = new ≡ old
PutsDown {U} {D} up down (item ∷ items) old new = (next : Whole U D) × Happened up down (event.Put item) old next [] × PutsDown up down items next new

-- The first frame came to the FARM, for which a buffer is free where the spacecraft has one. What the FARM accepts goes to
-- the spacecraft, and the report that this makes at once is put on the downlink, where room was made before.
pub record Boards {U D : Type 0} (up : Kind U Frame) (down : Kind D Report) (old new : State U D) (all : List LinkIndication) : Type 0 where
  pub ready : Whole U D
  pub readied : IsAsBefore up down old.world ready
  pub carried : Whole U D
  pub frame : Happened up down (event.Uplink (has_buffer old.board)) ready carried all
  pub board : new.board ≡ board_after (taken_in all) old.board
  pub mirror : new.mirror ≡ old.mirror
  pub reports : PutsDown up down (reports_after (taken_in all)) carried new.world

-- The spacecraft made these reports, and they were put on the downlink, in order, where room was made before.
pub record Reports {U D : Type 0} (up : Kind U Frame) (down : Kind D Report) (items : List Telemetry) (old new : Whole U D) : Type 0 where
  pub ready : Whole U D
  pub readied : IsAsBefore up down old ready
  pub put : PutsDown up down items ready new

-- The spacecraft carried out the oldest request of its buffer, if there was one, and reported it; and then the FARM was told
-- that a buffer is free.
pub record Works {U D : Type 0} (up : Kind U Frame) (down : Kind D Report) (old new : State U D) (all : List LinkIndication) : Type 0 where
  pub reported : Whole U D
  pub reports : Reports up down (work_reports old.board old.board.buffer) old.world reported
  pub free : Happened up down event.Release reported new.world []
  pub board : new.board ≡ worked old.board old.board.buffer
  pub mirror : new.mirror ≡ old.mirror
  pub silent : all ≡ []

-- The spacecraft's time went on, and what fell due by it was released and reported.
pub record Clocks {U D : Type 0} (up : Kind U Frame) (down : Kind D Report) (time : ℕ) (old new : State U D) (all : List LinkIndication) : Type 0 where
  pub items : List Telemetry
  pub due : ClockReports time old.board.schedule items
  pub reports : Reports up down items old.world new.world
  pub board : new.board ≡ clocked time old.board
  pub mirror : new.mirror ≡ old.mirror
  pub silent : all ≡ []

-- an act on the link is one event, and the spacecraft is told of what comes on board alone, the mirror of what comes down
abbrev pub Flies : {U D : Type 0} → Kind U Frame → Kind D Report → LinkAct → State U D → State U D → List LinkIndication → Type 0
Flies up down (link_act.Release n) old new all = Passes up down (event_of old (link_act.Release n)) old.world new.world all × (new.board ≡ old.board) × (new.mirror ≡ old.mirror)
Flies up down (link_act.Direct given) old new all = Passes up down (event_of old (link_act.Direct given)) old.world new.world all × (new.board ≡ old.board) × (new.mirror ≡ old.mirror)
Flies up down link_act.Tick old new all = Passes up down (event_of old link_act.Tick) old.world new.world all × (new.board ≡ old.board) × (new.mirror ≡ old.mirror)
Flies up down link_act.Up old new all = Boards up down old new all
Flies up down (link_act.LoseUp place) old new all = Passes up down (event_of old (link_act.LoseUp place)) old.world new.world all × (new.board ≡ old.board) × (new.mirror ≡ old.mirror)
Flies up down (link_act.LoseDown place) old new all = Passes up down (event_of old (link_act.LoseDown place)) old.world new.world all × (new.board ≡ old.board) × (new.mirror ≡ old.mirror)
Flies up down link_act.Clcw old new all = Passes up down (event_of old link_act.Clcw) old.world new.world all × (new.board ≡ old.board) × (new.mirror ≡ old.mirror)
Flies up down link_act.Down old new all =
    Passes up down (event_of old link_act.Down) old.world new.world all × (new.board ≡ old.board) × (new.mirror ≡ mirror_by old.book all old.mirror)
Flies up down link_act.Work old new all = Works up down old new all
Flies up down (link_act.Clock time) old new all = Clocks up down time old new all

-- nothing is asked of the link, and nothing else goes on
abbrev pub Stands : {U D : Type 0} → State U D → State U D → List LinkIndication → Type 0
Stands old new all = (new.world ≡ old.world) × (new.board ≡ old.board) × (new.mirror ≡ old.mirror) × (all ≡ [])

-- a release that comes with a record, if one does
abbrev pub FliesBeside : {U D : Type 0} → Kind U Frame → Kind D Report → Option ℕ → State U D → State U D → List LinkIndication → Type 0
FliesBeside up down None old new all = Stands old new all
FliesBeside up down (Some n) old new all = Flies up down (link_act.Release n) old new all

-- an act on the book alone asks nothing
abbrev pub Goes : {U D : Type 0} → Kind U Frame → Kind D Report → Act → State U D → State U D → List LinkIndication → Type 0
Goes up down (act.Book given) old new all = Stands old new all
Goes up down (act.Link given) old new all = Flies up down given old new all
Goes up down (act.Step given) old new all = FliesBeside up down (released_with old.book given) old new all
Goes up down (act.Ask asked) old new all = (new ≡ old) × (all ≡ [])

-- ---- acts

-- What an act makes that is carried out: the link and the spacecraft went on, the book has the act's own rows and then those
-- of what the link told, and the reply begins as the act says.
pub record Does {U D : Type 0} (up : Kind U Frame) (down : Kind D Report) (stamp : Stamp) (given : Act) (old new : State U D) (all : List LinkIndication) (first : FirstLine) : Type 0 where
  pub link : Goes up down given old new all
  pub book : new.book ≡ heard_all stamp old.mirror all (acted stamp given old.book)
  pub begins : first ≡ first_of old given all

-- nothing changed; at most a link has more room
pub record StaysSame {U D : Type 0} (up : Kind U Frame) (down : Kind D Report) (old new : State U D) : Type 0 where
  pub book : new.book ≡ old.book
  pub world : IsAsBefore up down old.world new.world
  pub board : new.board ≡ old.board
  pub mirror : new.mirror ≡ old.mirror

-- Why an act is refused: the first of its tests that holds says so, or memory was refused where none holds. Nothing
-- changed.
pub record Refuses {U D : Type 0} (up : Kind U Frame) (down : Kind D Report) (stamp : Stamp) (given : Act) (old new : State U D) (refused : Refusal) : Type 0 where
  pub why : (refusal_of stamp old given ≡ Some refused) ⊎ ((refusal_of stamp old given ≡ None) × (refused ≡ Memory))
  pub same : StaysSame up down old new

-- an act is refused, or no test of it holds and it is carried out
abbrev pub Answers : {X U D : Type 0} → Kind U Frame → Kind D Report → (X → List LinkIndication) → (X → FirstLine) → State U D → Stamp → Act → State U D → Result X Refusal → Type 0
Answers up down all first old stamp given new (Ok done) = (refusal_of stamp old given ≡ None) × Does up down stamp given old new (all done) (first done)
Answers up down all first old stamp given new (Err refused) = Refuses up down stamp given old new refused

-- the rows of the history that came
abbrev pub rows_new : {U D : Type 0} → State U D → State U D → List Move
rows_new old new = drop (length old.book.history) new.book.history

-- what an act or a load made: the rows of the history that came, and a batch that turns the tables of the book before into those of the
-- book after
pub record MakesRows {U D : Type 0} (old new : State U D) (rows : List Move) (writes : List Row) : Type 0 where
  pub moves : rows ≡ rows_new old new
  pub batch : applied writes (image_of old.book) ≡ image_of new.book

-- an act was carried out, and its reply tells how, what the link told, and the rows that came
pub record Carries {U D : Type 0} (up : Kind U Frame) (down : Kind D Report) (old : State U D) (stamp : Stamp) (given : Act) (told : Reply) (new : State U D) : Type 0 where
  pub first : FirstLine
  pub all : List LinkIndication
  pub free : refusal_of stamp old given ≡ None
  pub does : Does up down stamp given old new all first
  pub reply : told ≡ act_reply first all (rows_new old new)

-- an act or a question that no test refuses, and its reply
abbrev pub Serves : {U D : Type 0} → Kind U Frame → Kind D Report → State U D → Stamp → Act → Reply → State U D → Type 0
Serves up down old stamp (act.Ask asked) reply new =
    (refusal_of stamp old (act.Ask asked) ≡ None) × Replies up down old asked reply × (new ≡ old)
Serves up down old stamp given reply new = Carries up down old stamp given reply new

-- One step of the desk machine: an act or a question is served, or refused.
abbrev pub DeskStep : {U D : Type 0} → Kind U Frame → Kind D Report → State U D → Stamp → Act → Reply → State U D → Type 0
DeskStep up down old stamp given reply new =
    Serves up down old stamp given reply new
    ⊎ ((refused : Refusal) × Refuses up down stamp given old new refused × (reply ≡ refusal_reply refused))

abbrev pub stamp_of : Line → Stamp
stamp_of line = record { by = line.by; moment = line.moment }
