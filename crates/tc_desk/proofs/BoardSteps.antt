-- What each act makes of the rehearsal spacecraft, and that the mirror follows it once what the act puts on the downlink is read.
use Rattle.std.proofs.Common.{◌≡◌, ℕ, Option, Some, None, List, [], ◌∷◌, refl, sym, ◌∙◌, ap, subst}
use Rattle.std.specs.List.{AllByRecursion}
use Rattle.tc_types.specs.declared.acts.Act.{Act}
use Rattle.tc_types.specs.declared.acts.Act.TheVariants as act
use Rattle.tc_types.specs.declared.acts.LinkAct.{LinkAct}
use Rattle.tc_types.specs.declared.acts.LinkAct.TheVariants as link_act
use Rattle.tc_types.specs.declared.link.frames.Frame.{Frame}
use Rattle.tc_types.specs.declared.link.reports.Report.{Report}
use Rattle.tc_types.specs.declared.link.reports.Report.TheVariants as report
use Rattle.tc_types.specs.declared.link.reports.Telemetry.{Telemetry}
use Rattle.tc_types.specs.declared.link.telecommands.Telecommand.{Telecommand}
use Rattle.tc_farm.specs.ControlWord.{word_of}
use Rattle.tc_farm.specs.declared.farms.FrameVerdict.TheVariants as verdict
use Rattle.tc_world.specs.declared.events.LinkIndication.{LinkIndication}
use Rattle.tc_world.specs.declared.events.LinkIndication.TheVariants as said
use Rattle.tc_world.specs.Links.{Kind}
use Rattle.tc_world.specs.Payloads.{IsToldOf}
use Rattle.tc_board.specs.Board.{BoardState}
use Rattle.tc_board.specs.Follows.{IsRequestOf, IsBoardOf, Event, Accept, Work, Clock, IsEventOf, Makes}
use Rattle.tc_board.specs.Mirror.{mirror_of}
use Rattle.tc_board.specs.Names.{Knows, AreNamed, IsGivenOf}
use Rattle.tc_board.proofs.NameLemmas.{names_kept}
use Rattle.tc_book.specs.Book.{Book}
use Rattle.tc_book.specs.Good.{IsGoodBook}
use Rattle.tc_book.specs.Logs.{released_with}
use Rattle.tc_desk.specs.Asks.{taken_in, board_after, reports_after}
use Rattle.tc_desk.specs.Downlink.{flying, ArePutInFlight, ArePut}
use Rattle.tc_desk.specs.Followed.{roll_of, IsPayloadOf, IsFlown, IsNamedDown, mirror_through}
use Rattle.tc_desk.specs.Machine.{Flies, FliesBeside, Goes}
use Rattle.tc_desk.specs.Riders.{carried_by, NoneIsOf}
use Rattle.tc_desk.specs.State.{State}
use Rattle.tc_desk.proofs.ArrivalLemmas.{arrives}
use Rattle.tc_desk.proofs.FollowLaws.{FollowsSteps}
use Rattle.tc_desk.proofs.ReadLemmas.{flying_named, flying_read}

-- The spacecraft holds what was sent to it, what was put names it, and the mirror of the schedule before becomes that of the
-- schedule after once what was put is read.
pub record StepsOn (book : Book) (sent : List ℕ) (old new : BoardState) (put : List Report) : Type 0 where
  pub board : IsBoardOf (roll_of book sent) new
  pub named : AreNamed (IsFlown book sent) new
  pub flying : AllByRecursion (IsNamedDown (IsFlown book sent)) put
  pub reads : mirror_through book put (mirror_of old.schedule) ≡ mirror_of new.schedule

-- what comes on board, as the desk releases it
abbrev pub ComesAsReleased : Book → List ℕ → Option Telecommand → Type 0
ComesAsReleased book sent None = Unit {0}
ComesAsReleased book sent (Some t) = IsRequestOf (roll_of book sent) t × Knows (IsFlown book sent) t

-- ---- steps

-- the spacecraft makes these reports
event_steps : (book : Book) (sent : List ℕ) (old new : BoardState) (event : Event) (made : List Telemetry) → FollowsSteps → IsBoardOf (roll_of book sent) old → AreNamed (IsFlown book sent) old
    → IsEventOf (roll_of book sent) event → IsGivenOf (IsFlown book sent) event → Makes old event made new → StepsOn book sent old new (flying made)
event_steps book sent old new event made steps board named is_event given makes =
    let follows = steps (roll_of book sent) old new event made board is_event makes in
    let names = names_kept (IsFlown book sent) old new event made named given makes in
    record {
      board = follows.0;
      named = names.0;
      flying = flying_named (IsFlown book sent) made names.1;
      reads = flying_read book sent made (mirror_of old.schedule) ∙ follows.1;
    }

-- nothing happens to it, and it puts nothing
still_steps : (book : Book) (sent : List ℕ) (old new : BoardState) (put : List Report) → IsBoardOf (roll_of book sent) old → AreNamed (IsFlown book sent) old → new ≡ old → put ≡ [] → StepsOn book sent old new put
still_steps book sent old new put board named same none =
    subst (λ (b : BoardState). StepsOn book sent old b put) (sym same)
    (subst (λ (items : List Report). StepsOn book sent old old items) (sym none) (record { board = board; named = named; flying = tt; reads = refl }))

-- the same with a control word
word_steps : (book : Book) (sent : List ℕ) (old new : BoardState) (put : List Report) (word : ℕ) → IsBoardOf (roll_of book sent) old → AreNamed (IsFlown book sent) old → new ≡ old → put ≡ report.Word word ∷ [] → StepsOn book sent old new put
word_steps book sent old new put word board named same one =
    subst (λ (b : BoardState). StepsOn book sent old b put) (sym same)
    (subst (λ (items : List Report). StepsOn book sent old old items) (sym one) (record { board = board; named = named; flying = (tt, tt); reads = refl }))

-- a request comes on board, or none does
taken_steps : (book : Book) (sent : List ℕ) (old new : BoardState) (taken : Option Telecommand) → FollowsSteps → IsBoardOf (roll_of book sent) old → AreNamed (IsFlown book sent) old
    → ComesAsReleased book sent taken → new ≡ board_after taken old → StepsOn book sent old new (flying (reports_after taken))
taken_steps book sent old new None steps board named comes same = still_steps book sent old new [] board named same refl
taken_steps book sent old new (Some t) steps board named comes same = event_steps book sent old new (Accept t) (reports_after (Some t)) steps board named comes.0 comes.1 (refl, same)

-- what the link tells to be accepted, with what the book says of it
pub told_comes : (book : Book) (sent : List ℕ) (all : List LinkIndication) → IsGoodBook book → NoneIsOf sent (carried_by book sent) → AllByRecursion (IsToldOf (IsPayloadOf book) sent) all → ComesAsReleased book sent (taken_in all)
told_comes book sent [] good apart told = tt
told_comes book sent (said.Fop i ∷ others) good apart told = tt
told_comes book sent (said.Farm (verdict.Accepted n body) ∷ others) good apart told = arrives book sent n body good apart told.0.0 told.0.1
told_comes book sent (said.Farm verdict.Discarded ∷ others) good apart told = tt
told_comes book sent (said.Farm verdict.Control ∷ others) good apart told = tt
told_comes book sent (said.Received item ∷ others) good apart told = tt
told_comes book sent (said.Lost ∷ others) good apart told = tt
told_comes book sent (said.Transmitted frame ∷ others) good apart told = tt

-- ---- acts

-- an act on the link
flies_steps : {U D : Type 0} (up : Kind U Frame) (down : Kind D Report) (book : Book) (sent : List ℕ) (given : LinkAct) (old new : State U D) (all : List LinkIndication) (put : List Report)
    → FollowsSteps → IsBoardOf (roll_of book sent) old.board → AreNamed (IsFlown book sent) old.board → ComesAsReleased book sent (taken_in all)
    → Flies up down given old new all → ArePutInFlight old given all put → StepsOn book sent old.board new.board put
flies_steps up down book sent (link_act.Release n) old new all put steps board named comes flies are = still_steps book sent old.board new.board put board named flies.1 are
flies_steps up down book sent (link_act.Direct given) old new all put steps board named comes flies are = still_steps book sent old.board new.board put board named flies.1 are
flies_steps up down book sent link_act.Tick old new all put steps board named comes flies are = still_steps book sent old.board new.board put board named flies.1 are
flies_steps up down book sent link_act.Up old new all put steps board named comes flies are =
    subst (StepsOn book sent old.board new.board) (sym are) (taken_steps book sent old.board new.board (taken_in all) steps board named comes flies.board)
flies_steps up down book sent (link_act.LoseUp place) old new all put steps board named comes flies are = still_steps book sent old.board new.board put board named flies.1 are
flies_steps up down book sent (link_act.LoseDown place) old new all put steps board named comes flies are = still_steps book sent old.board new.board put board named flies.1 are
flies_steps up down book sent link_act.Clcw old new all put steps board named comes flies are = word_steps book sent old.board new.board put (word_of are.0) board named flies.1 are.2
flies_steps up down book sent link_act.Down old new all put steps board named comes flies are = still_steps book sent old.board new.board put board named flies.1 are
flies_steps up down book sent link_act.Work old new all put steps board named comes flies are =
    subst (StepsOn book sent old.board new.board) (sym are) (event_steps book sent old.board new.board Work _ steps board named tt tt (refl, flies.board))
flies_steps up down book sent (link_act.Clock time) old new all put steps board named comes flies are =
    subst (StepsOn book sent old.board new.board) (sym are.2) (event_steps book sent old.board new.board (Clock time) are.0 steps board named tt tt (are.1, flies.board))

-- a release that comes with a record, if one does, is nothing to the spacecraft
beside_board : {U D : Type 0} (up : Kind U Frame) (down : Kind D Report) (beside : Option ℕ) (old new : State U D) (all : List LinkIndication) → FliesBeside up down beside old new all → new.board ≡ old.board
beside_board up down None old new all stands = stands.1
beside_board up down (Some n) old new all flies = flies.1

-- each act
pub goes_steps : {U D : Type 0} (up : Kind U Frame) (down : Kind D Report) (book : Book) (sent : List ℕ) (given : Act) (old new : State U D) (all : List LinkIndication) (put : List Report)
    → FollowsSteps → IsBoardOf (roll_of book sent) old.board → AreNamed (IsFlown book sent) old.board → ComesAsReleased book sent (taken_in all)
    → Goes up down given old new all → ArePut old given all put → StepsOn book sent old.board new.board put
goes_steps up down book sent (act.Book given) old new all put steps board named comes goes are = still_steps book sent old.board new.board put board named goes.1 are
goes_steps up down book sent (act.Link given) old new all put steps board named comes goes are = flies_steps up down book sent given old new all put steps board named comes goes are
goes_steps up down book sent (act.Step given) old new all put steps board named comes goes are =
    still_steps book sent old.board new.board put board named (beside_board up down (released_with old.book given) old new all goes) are
goes_steps {U} {D} up down book sent (act.Ask asked) old new all put steps board named comes goes are = still_steps book sent old.board new.board put board named (ap (λ (at : State U D). at.board) goes.0) are
