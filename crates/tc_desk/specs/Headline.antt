-- What an act gives the spacecraft, and which starts are good.
use Rattle.std.specs.Prelude.{◌≡◌, ◌++◌, Bool, Option, Some, None, List, map, fold}
use Rattle.std.specs.List.{AllByRecursion}
use Rattle.tc_types.specs.declared.link.frames.Frame.{Frame}
use Rattle.tc_types.specs.declared.link.reports.Report.{Report}
use Rattle.tc_types.specs.declared.link.telecommands.Telecommand.{Telecommand}
use Rattle.tc_types.specs.declared.acts.LinkAct.{LinkAct}
use Rattle.tc_types.specs.declared.acts.LinkAct.TheVariants as link_act
use Rattle.tc_types.specs.declared.acts.Act.{Act}
use Rattle.tc_types.specs.declared.acts.Act.TheVariants as act
use Rattle.tc_world.specs.declared.events.Event.{Event}
use Rattle.tc_world.specs.Links.{Kind}
use Rattle.tc_world.specs.Window.{all_accepted}
use Rattle.tc_world.specs.World.{Whole, clean_by}
use Rattle.tc_board.specs.Board.{BoardState, accepted, worked, clocked}
use Rattle.tc_desk.specs.Followed.{IsTelecommandOf}
use Rattle.tc_desk.specs.State.{State}
use Rattle.tc_desk.specs.Parts.{event_asked}

-- ---- what comes on board

-- what the spacecraft does by itself in an act
abbrev pub board_in_flight : LinkAct → BoardState → BoardState
board_in_flight (link_act.Release n) board = board
board_in_flight (link_act.Direct given) board = board
board_in_flight link_act.Tick board = board
board_in_flight link_act.Up board = board
board_in_flight (link_act.LoseUp place) board = board
board_in_flight (link_act.LoseDown place) board = board
board_in_flight link_act.Clcw board = board
board_in_flight link_act.Down board = board
board_in_flight link_act.Work board = worked board board.buffer
board_in_flight (link_act.Clock time) board = clocked time board

abbrev pub board_by : Act → BoardState → BoardState
board_by (act.Book given) board = board
board_by (act.Link given) board = board_in_flight given board
board_by (act.Step given) board = board
board_by (act.Ask asked) board = board

-- The requests that an act adds to those that the FARM accepted are given to the spacecraft, each once, in order, as the book has
-- them, and no others are.
pub record TakesAccepted {U D : Type 0} (given : Act) (old new : State U D) : Type 0 where
  pub taken : List Telecommand
  pub bodies : AllByRecursion (IsTelecommandOf new.book) taken
  pub written : all_accepted new.world ≡ all_accepted old.world ++ map (λ (t : Telecommand). t.request) taken
  pub board : new.board ≡ board_by given (fold (λ (board : BoardState) (t : Telecommand). accepted t board) old.board taken)

-- ---- good starts

-- whether every start so far was good, after what is asked of the link
abbrev pub clean_asked : {U D : Type 0} → Kind U Frame → Kind D Report → Option Event → Whole U D → Bool
clean_asked up down None w = w.clean
clean_asked up down (Some given) w = clean_by up down given w

-- after an act: an initiation is a good start or not, and no other act is a start
abbrev pub clean_after : {U D : Type 0} → Kind U Frame → Kind D Report → State U D → Act → Bool
clean_after up down at given = clean_asked up down (event_asked at given) at.world
