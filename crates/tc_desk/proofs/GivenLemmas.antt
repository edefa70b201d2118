-- The spacecraft is given what the FARM accepted, as the book has it, and nothing else, after any act and any load.
use Rattle.std.proofs.Common.{◌≡◌, ℕ, List, [], ◌∷◌, ◌++◌, map, fold, refl, sym, ◌∙◌, ap, subst, append-nil}
use Rattle.std.specs.List.{AllByRecursion}
use Rattle.std.proofs.lemmas.List.{append_assoc, map-append}
use Rattle.tc_types.specs.declared.link.frames.Frame.{Frame}
use Rattle.tc_types.specs.declared.link.reports.Report.{Report}
use Rattle.tc_types.specs.declared.link.telecommands.Payload.{Payload}
use Rattle.tc_types.specs.declared.link.telecommands.Telecommand.{Telecommand}
use Rattle.tc_types.specs.declared.acts.LinkAct.{LinkAct}
use Rattle.tc_types.specs.declared.acts.LinkAct.TheVariants as link_act
use Rattle.tc_types.specs.declared.acts.Act.{Act}
use Rattle.tc_types.specs.declared.acts.Act.TheVariants as act
use Rattle.tc_world.specs.Links.{Kind}
use Rattle.tc_world.specs.Window.{all_accepted}
use Rattle.tc_world.specs.World.{Whole}
use Rattle.tc_world.proofs.AllLists.{all_append, all_follow}
use Rattle.tc_board.specs.Board.{BoardState, accepted, worked}
use Rattle.tc_book.specs.Book.{Book}
use Rattle.tc_desk.specs.Followed.{IsPayloadOf, IsTelecommandOf, payload_in}
use Rattle.tc_desk.specs.Headline.{TakesAccepted, board_by, board_in_flight}
use Rattle.tc_desk.specs.Machine.{StaysSame}
use Rattle.tc_desk.specs.Promise.{GivesAccepted}
use Rattle.tc_desk.specs.State.{State}

-- ---- what the spacecraft does by itself adds nothing to what it was given

worked_given : (board : BoardState) (buffer : List Telecommand) → (worked board buffer).given ≡ board.given
worked_given board [] = refl
worked_given board (oldest ∷ others) = refl

flight_given : (it : LinkAct) (board : BoardState) → (board_in_flight it board).given ≡ board.given
flight_given (link_act.Release n) board = refl
flight_given (link_act.Direct it) board = refl
flight_given link_act.Tick board = refl
flight_given link_act.Up board = refl
flight_given (link_act.LoseUp place) board = refl
flight_given (link_act.LoseDown place) board = refl
flight_given link_act.Clcw board = refl
flight_given link_act.Down board = refl
flight_given link_act.Work board = worked_given board board.buffer
flight_given (link_act.Clock time) board = refl

act_given : (it : Act) (board : BoardState) → (board_by it board).given ≡ board.given
act_given (act.Book it) board = refl
act_given (act.Link it) board = flight_given it board
act_given (act.Step it) board = refl
act_given (act.Ask asked) board = refl

-- ---- what it takes is added, in order

abbrev takes_all : BoardState → List Telecommand → BoardState
takes_all = fold (λ (b : BoardState) (t : Telecommand). accepted t b)

taken_given : (board : BoardState) (taken : List Telecommand) → (takes_all board taken).given ≡ board.given ++ taken
taken_given board [] = sym (append-nil board.given)
taken_given board (t ∷ taken) = taken_given (accepted t board) taken ∙ append_assoc board.given (t ∷ []) taken

-- what the book makes of the requests of telecommands stays
pub bodies_stay : (old new : Book) → ((n : ℕ) (body : Payload) → IsPayloadOf old n body → IsPayloadOf new n body) → (all : List Telecommand)
    → AllByRecursion (IsTelecommandOf old) all → AllByRecursion (IsTelecommandOf new) all
bodies_stay old new stays all bodies = all_follow (IsTelecommandOf old) (IsTelecommandOf new) all (λ t. stays t.request (payload_in t)) bodies

-- an act that was carried out
pub does_give : {U D : Type 0} (it : Act) (old new : State U D) → ((n : ℕ) (body : Payload) → IsPayloadOf old.book n body → IsPayloadOf new.book n body)
    → TakesAccepted it old new → GivesAccepted old → GivesAccepted new
does_give {U} {D} it old new stays takes gives =
    let grows : new.board.given ≡ old.board.given ++ takes.taken =
    ap (λ (b : BoardState). b.given) takes.board ∙ act_given it (takes_all old.board takes.taken) ∙ taken_given old.board takes.taken
    in
    record {
      requests =
          ap (map (λ (t : Telecommand). t.request)) grows
          ∙ map-append (λ (t : Telecommand). t.request) old.board.given takes.taken
          ∙ ap (λ l. l ++ map (λ (t : Telecommand). t.request) takes.taken) gives.requests
          ∙ sym takes.written;
      bodies =
          subst (AllByRecursion (IsTelecommandOf new.book)) (sym grows)
          (all_append (IsTelecommandOf new.book) old.board.given takes.taken (bodies_stay old.book new.book stays old.board.given gives.bodies) takes.bodies);
    }

-- one that was refused
pub same_gives : {U D : Type 0} (up : Kind U Frame) (down : Kind D Report) (old new : State U D) → StaysSame up down old new → GivesAccepted old → GivesAccepted new
same_gives {U} {D} up down old new same gives = record {
  requests =
      ap (λ (b : BoardState). map (λ (t : Telecommand). t.request) b.given) same.board
      ∙ gives.requests
      ∙ sym (ap (λ (w : Whole U D). all_accepted w) same.world.rest);
  bodies =
      subst (λ (b : BoardState). AllByRecursion (IsTelecommandOf new.book) b.given) (sym same.board)
      (subst (λ (book : Book). AllByRecursion (IsTelecommandOf book) old.board.given) (sym same.book) gives.bodies);
}
