-- What an act puts on the downlink and what it takes from there, and whether anything of it was lost.
use Rattle.std.specs.Prelude.{◌≡◌, ◌↔◌, true, List, [], ◌∷◌, ◌++◌, map}
use Rattle.tc_types.specs.declared.link.reports.Report.{Report}
use Rattle.tc_types.specs.declared.link.reports.Report.TheVariants as report
use Rattle.tc_types.specs.declared.link.reports.Telemetry.{Telemetry}
use Rattle.tc_types.specs.declared.acts.LinkAct.{LinkAct}
use Rattle.tc_types.specs.declared.acts.LinkAct.TheVariants as link_act
use Rattle.tc_types.specs.declared.acts.Act.{Act}
use Rattle.tc_types.specs.declared.acts.Act.TheVariants as act
use Rattle.tc_farm.specs.declared.clcws.Clcw.{Clcw}
use Rattle.tc_farm.specs.ControlWord.{word_of}
use Rattle.tc_world.specs.declared.events.LinkIndication.{LinkIndication}
use Rattle.tc_world.specs.declared.events.LinkIndication.TheVariants as said
use Rattle.tc_world.specs.Links.{Kind}
use Rattle.tc_world.specs.Sublist.{IsSublist}
use Rattle.tc_world.specs.World.{IsWordOf}
use Rattle.tc_board.specs.Board.{work_reports, ClockReports}
use Rattle.tc_desk.specs.State.{State, DeskState}
use Rattle.tc_desk.specs.Asks.{taken_in, reports_after}

-- what the link tells to have come down
abbrev pub came_down : List LinkIndication → List Report
came_down [] = []
came_down (said.Fop i ∷ others) = []
came_down (said.Farm verdict ∷ others) = []
came_down (said.Received item ∷ others) = item ∷ []
came_down (said.Lost ∷ others) = []
came_down (said.Transmitted frame ∷ others) = []

-- reports of the spacecraft, as they fly
abbrev pub flying : List Telemetry → List Report
flying reports = map report.Telemetry reports

-- what an act on the link puts on the downlink, in order
abbrev pub ArePutInFlight : {U D : Type 0} → State U D → LinkAct → List LinkIndication → List Report → Type 0
ArePutInFlight at (link_act.Release n) all items = items ≡ []
ArePutInFlight at (link_act.Direct given) all items = items ≡ []
ArePutInFlight at link_act.Tick all items = items ≡ []
ArePutInFlight at link_act.Up all items = items ≡ flying (reports_after (taken_in all))
ArePutInFlight at (link_act.LoseUp place) all items = items ≡ []
ArePutInFlight at (link_act.LoseDown place) all items = items ≡ []
ArePutInFlight at link_act.Clcw all items = (clcw : Clcw) × IsWordOf at.world.farm at.world.vc clcw × (items ≡ report.Word (word_of clcw) ∷ [])
ArePutInFlight at link_act.Down all items = items ≡ []
ArePutInFlight at link_act.Work all items = items ≡ flying (work_reports at.board at.board.buffer)
ArePutInFlight at (link_act.Clock time) all items = (reports : List Telemetry) × ClockReports time at.board.schedule reports × (items ≡ flying reports)

-- what any act puts there
abbrev pub ArePut : {U D : Type 0} → State U D → Act → List LinkIndication → List Report → Type 0
ArePut at (act.Book given) all items = items ≡ []
ArePut at (act.Link given) all items = ArePutInFlight at given all items
ArePut at (act.Step given) all items = items ≡ []
ArePut at (act.Ask asked) all items = items ≡ []

-- What flies down after an act is what flew there and what the act put behind it, with items left out; what came down stood
-- before the rest.
pub record MovesDown {U D : Type 0} (down : Kind D Report) (given : Act) (old new : State U D) (all : List LinkIndication) : Type 0 where
  pub put : List Report
  pub are : ArePut old given all put
  pub rest : IsSublist (came_down all ++ down.content new.world.down) (down.content old.world.down ++ put)

-- A desk stays whole in an act exactly where nothing of the downlink was lost: what flew there, and behind it what the act put,
-- is what came down, and behind it what flies there after. Control words count too. Once it is not whole it never is again.
pub record KeepsWhole {U D : Type 0} (down : Kind D Report) (given : Act) (old new : DeskState U D) (all : List LinkIndication) : Type 0 where
  pub put : List Report
  pub are : ArePut old.parts given all put
  pub exact : (new.whole ≡ true) ↔ ((old.whole ≡ true) × (down.content old.parts.world.down ++ put ≡ came_down all ++ down.content new.parts.world.down))
