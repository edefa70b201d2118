-- What comes on board is what the FARM accepted; which starts were good; and what the rows say while all were.
use Rattle.std.proofs.Common.{◌≡◌, ℕ, inl, inr, Bool, true, false, Option, Some, None, List, [], ◌∷◌, ◌++◌, map, fold, refl, sym, ◌∙◌, ap, subst, append-nil}
use Rattle.std.specs.Prelude.{MatchBool}
use Rattle.std.specs.List.{flat_map, AllByRecursion}
use Rattle.tc_types.specs.declared.link.frames.Frame.{Frame}
use Rattle.tc_types.specs.declared.link.directives.Directive.{Directive}
use Rattle.tc_types.specs.declared.link.reports.Report.{Report}
use Rattle.tc_types.specs.declared.link.reports.Report.TheVariants as report
use Rattle.tc_types.specs.declared.link.reports.Telemetry.{Telemetry}
use Rattle.tc_types.specs.declared.requests.Request.{Request}
use Rattle.tc_types.specs.declared.link.telecommands.Telecommand.{Telecommand}
use Rattle.tc_types.specs.declared.acts.LinkAct.{LinkAct}
use Rattle.tc_types.specs.declared.acts.LinkAct.TheVariants as link_act
use Rattle.tc_types.specs.declared.acts.StepAct.{StepAct}
use Rattle.tc_types.specs.declared.acts.Act.{Act}
use Rattle.tc_types.specs.declared.acts.Act.TheVariants as act
use Rattle.tc_farm.specs.declared.farms.FrameVerdict.{FrameVerdict}
use Rattle.tc_farm.specs.declared.farms.FrameVerdict.TheVariants as verdict
use Rattle.tc_fop.specs.declared.signals.Indication.{Indication as Signal}
use Rattle.tc_fop.specs.Machine.{Action, Out, option_list, output}
use Rattle.tc_fop.specs.Moves.{is_initiation}
use Rattle.tc_world.specs.declared.events.Event.{Event}
use Rattle.tc_world.specs.declared.events.Event.TheVariants as event
use Rattle.tc_world.specs.declared.events.LinkIndication.{LinkIndication}
use Rattle.tc_world.specs.declared.events.LinkIndication.TheVariants as said
use Rattle.tc_world.specs.Links.{Kind}
use Rattle.tc_world.specs.Logs.{Log}
use Rattle.tc_world.specs.Payloads.{IsToldOf}
use Rattle.tc_world.specs.Sublist.{IsSublist}
use Rattle.tc_world.specs.Telling.{accepted_said}
use Rattle.tc_world.specs.Window.{ArePrefixed, IsClaimed, all_accepted}
use Rattle.tc_world.specs.World.{Whole, Happens, Hears, Carries, Begins, IsAsBefore, told_by_fop, told_of_loss, unjudged}
use Rattle.tc_world.proofs.Lists.{sublist_trans, sublist_both, sublist_take}
use Rattle.tc_world.proofs.Stills.{clean_is}
use Rattle.tc_board.specs.Board.{BoardState, accepted}
use Rattle.tc_book.specs.declared.stamps.Stamp.{Stamp}
use Rattle.tc_book.specs.Book.{Book, request_at}
use Rattle.tc_book.specs.Logs.{released_with}
use Rattle.tc_desk.specs.declared.firsts.FirstLine.{FirstLine}
use Rattle.tc_desk.specs.State.{State}
use Rattle.tc_desk.specs.Asks.{event_of, offer_at, has_buffer, taken_in, board_after, reports_after}
use Rattle.tc_desk.specs.Machine.{Happened, Passes, PutsDown, Reports, Flies, FliesBeside, Does}
use Rattle.tc_desk.specs.Parts.{event_beside}
use Rattle.tc_desk.specs.Rows.{confirm_rows}
use Rattle.tc_desk.specs.Tied.{IsTied}
use Rattle.tc_desk.specs.Followed.{IsPayloadOf, IsTelecommandOf}
use Rattle.tc_desk.specs.Headline.{TakesAccepted, clean_asked, clean_after}
use Rattle.tc_desk.specs.Promise.{TakenOnce}

-- ---- what is accepted

abbrev pub is_coming_up : Event → Bool
is_coming_up (event.Offer request body) = false
is_coming_up (event.Directive given) = false
is_coming_up event.Tick = false
is_coming_up (event.Uplink free_buffer) = true
is_coming_up (event.LoseUp place) = false
is_coming_up event.Release = false
is_coming_up event.Clcw = false
is_coming_up (event.Put telemetry) = false
is_coming_up event.Downlink = false
is_coming_up (event.LoseDown place) = false
is_coming_up event.Transmit = false
is_coming_up (event.Hear item) = false

abbrev pub taken_said : List LinkIndication → List ℕ
taken_said all = flat_map accepted_said all

fop_takes : (signals : List Signal) → taken_said (map said.Fop signals) ≡ []
fop_takes [] = refl
fop_takes (first ∷ others) = fop_takes others

-- what the FOP tells accepts nothing
fops_take : (out : Out) → taken_said (told_by_fop out) ≡ []
fops_take out = fop_takes out.indications

loss_takes : (found : Bool) → taken_said (told_of_loss found) ≡ []
loss_takes true = refl
loss_takes false = refl

directs_takes : {U D : Type 0} (up : Kind U Frame) (down : Kind D Report) (given : Directive) (actions : List Action) (w v : Whole U D) (all : List LinkIndication) (initiation : Bool)
    → MatchBool initiation (Begins up down given actions w v all) (Carries up actions w v all) → taken_said all ≡ []
directs_takes up down given actions w v all true h = ap taken_said h.answered ∙ fops_take (output actions w.fop)
directs_takes up down given actions w v all false h = ap taken_said h.answered ∙ fops_take (output actions w.fop)

hears_takes : {U D : Type 0} (up : Kind U Frame) (item : Report) (w v : Whole U D) (all : List LinkIndication) → Hears up item w v all → taken_said all ≡ []
hears_takes up (report.Word word) w v all (heard, actions, rest, reads, gives, h, answered) = ap taken_said answered ∙ ap taken_said h.answered ∙ fops_take (output actions w.fop)
hears_takes up (report.Telemetry telemetry) w v all (readied, whole, answered) = ap taken_said answered

-- nothing is accepted but of what comes up
takes_nothing : {U D : Type 0} (up : Kind U Frame) (down : Kind D Report) (given : Event) (w v : Whole U D) (all : List LinkIndication) → is_coming_up given ≡ false → Happens up down given w v all → taken_said all ≡ []
takes_nothing up down (event.Offer request body) w v all other (actions, unknown, gives, h) = ap taken_said h.answered ∙ fops_take (output actions w.fop)
takes_nothing up down (event.Directive given) w v all other (actions, gives, h, fits, level) = directs_takes up down given actions w (unjudged w v) all (is_initiation given) h
takes_nothing up down event.Tick w v all other (actions, gives, h) = ap taken_said h.answered ∙ fops_take (output actions w.fop)
takes_nothing up down (event.Uplink room) w v all other h = absurd (let no : true ≡ false = other in cc)
takes_nothing up down (event.LoseUp place) w v all other h = ap taken_said h.answered ∙ loss_takes h.found
takes_nothing up down event.Release w v all other h = ap taken_said h.1
takes_nothing up down event.Clcw w v all other (clcw, is_word, h) = ap taken_said h.answered
takes_nothing up down (event.Put telemetry) w v all other h = ap taken_said h.answered
takes_nothing up down event.Downlink w v all other (inl (nothing, h)) = ap taken_said h.answered
takes_nothing up down event.Downlink w v all other (inr h) = hears_takes up h.item (record w { down = h.left }) v all h.heard
takes_nothing up down (event.LoseDown place) w v all other h = ap taken_said h.answered ∙ loss_takes h.found
takes_nothing up down event.Transmit w v all other (inl (nothing, h)) = ap taken_said h.answered
takes_nothing up down event.Transmit w v all other (inr h) = ap taken_said h.answered
takes_nothing up down (event.Hear item) w v all other h = hears_takes up item (record w { clean = false }) v all h

verdict_takes : (given : FrameVerdict) → taken_said (said.Farm given ∷ []) ≡ map (λ (t : Telecommand). t.request) (option_list (taken_in (said.Farm given ∷ [])))
verdict_takes (verdict.Accepted n body) = refl
verdict_takes verdict.Discarded = refl
verdict_takes verdict.Control = refl

-- what is accepted of what comes up is what is told
takes_one : {U D : Type 0} (up : Kind U Frame) (down : Kind D Report) (room : Bool) (w v : Whole U D) (all : List LinkIndication) → Happens up down (event.Uplink room) w v all
    → taken_said all ≡ map (λ (t : Telecommand). t.request) (option_list (taken_in all))
takes_one up down room w v all (inl (nothing, h)) = subst (λ l. taken_said l ≡ map (λ (t : Telecommand). t.request) (option_list (taken_in l))) (sym h.answered) refl
takes_one up down room w v all (inr h) = subst (λ l. taken_said l ≡ map (λ (t : Telecommand). t.request) (option_list (taken_in l))) (sym h.answered) (verdict_takes _)

-- ---- what comes on board

-- the same requests are accepted
happened_none : {U D : Type 0} (up : Kind U Frame) (down : Kind D Report) (given : Event) (w v : Whole U D) (all : List LinkIndication) → is_coming_up given ≡ false → Happened up down given w v all → all_accepted v ≡ all_accepted w
happened_none up down given w v all other h =
    h.tells.accepted ∙ ap (λ l. all_accepted w ++ l) (takes_nothing up down given w v all other h.happens) ∙ append-nil (all_accepted w)

puts_none : {U D : Type 0} (up : Kind U Frame) (down : Kind D Report) (items : List Telemetry) (w v : Whole U D) → PutsDown up down items w v → all_accepted v ≡ all_accepted w
puts_none {U} {D} up down [] w v puts = ap (λ (x : Whole U D). all_accepted x) puts
puts_none up down (item ∷ items) w v puts = puts_none up down items puts.0 v puts.2 ∙ happened_none up down (event.Put item) w puts.0 [] refl puts.1

before_none : {U D : Type 0} (up : Kind U Frame) (down : Kind D Report) (w v : Whole U D) → IsAsBefore up down w v → all_accepted v ≡ all_accepted w
before_none {U} {D} up down w v same = ap (λ (x : Whole U D). all_accepted x) same.rest

reports_none : {U D : Type 0} (up : Kind U Frame) (down : Kind D Report) (items : List Telemetry) (w v : Whole U D) → Reports up down items w v → all_accepted v ≡ all_accepted w
reports_none up down items w v reports = puts_none up down items reports.ready v reports.put ∙ before_none up down w reports.ready reports.readied

none_taken : {U D : Type 0} (w v : Whole U D) → all_accepted v ≡ all_accepted w → all_accepted v ≡ all_accepted w ++ []
none_taken w v same = same ∙ sym (append-nil (all_accepted w))

offer_none : {U D : Type 0} (up : Kind U Frame) (down : Kind D Report) (n : ℕ) (old new : State U D) (all : List LinkIndication) (asked : Option Request)
    → Passes up down (offer_at old.book n asked) old.world new.world all → all_accepted new.world ≡ all_accepted old.world
offer_none {U} {D} up down n old new all None passes = ap (λ (x : Whole U D). all_accepted x) passes.0
offer_none up down n old new all (Some request) passes = happened_none up down _ old.world new.world all refl passes

board_takes : (taken : Option Telecommand) (board : BoardState) → board_after taken board ≡ fold (λ (b : BoardState) (t : Telecommand). accepted t b) board (option_list taken)
board_takes None board = refl
board_takes (Some t) board = refl

-- what the link tells to be accepted is what the book makes of it
pub told_bodies : (book : Book) (sent : List ℕ) (all : List LinkIndication) → AllByRecursion (IsToldOf (IsPayloadOf book) sent) all → AllByRecursion (IsTelecommandOf book) (option_list (taken_in all))
told_bodies book sent [] told = tt
told_bodies book sent (said.Fop i ∷ others) told = tt
told_bodies book sent (said.Farm (verdict.Accepted n body) ∷ others) told = (told.0.0, tt)
told_bodies book sent (said.Farm verdict.Discarded ∷ others) told = tt
told_bodies book sent (said.Farm verdict.Control ∷ others) told = tt
told_bodies book sent (said.Received item ∷ others) told = tt
told_bodies book sent (said.Lost ∷ others) told = tt
told_bodies book sent (said.Transmitted frame ∷ others) told = tt

flight_takes : {U D : Type 0} (up : Kind U Frame) (down : Kind D Report) (given : LinkAct) (old new : State U D) (all : List LinkIndication) → Flies up down given old new all → AllByRecursion (IsTelecommandOf new.book) (option_list (taken_in all)) → TakesAccepted (act.Link given) old new
flight_takes up down (link_act.Release n) old new all flies bodies = record { taken = []; bodies = tt; written = none_taken old.world new.world (offer_none up down n old new all (request_at old.book n) flies.0); board = flies.1 }
flight_takes up down (link_act.Direct given) old new all flies bodies = record { taken = []; bodies = tt; written = none_taken old.world new.world (happened_none up down (event.Directive given) old.world new.world all refl flies.0); board = flies.1 }
flight_takes up down link_act.Tick old new all flies bodies = record { taken = []; bodies = tt; written = none_taken old.world new.world (happened_none up down event.Tick old.world new.world all refl flies.0); board = flies.1 }
flight_takes up down link_act.Up old new all flies bodies =
    let frame = flies.frame in
    record {
      taken = option_list (taken_in all);
      bodies = bodies;
      written = puts_none up down (reports_after (taken_in all)) flies.carried new.world flies.reports
          ∙ frame.tells.accepted
          ∙ ap (λ l. l ++ taken_said all) (before_none up down old.world flies.ready flies.readied)
          ∙ ap (λ l. all_accepted old.world ++ l) (takes_one up down (has_buffer old.board) flies.ready flies.carried all frame.happens);
      board = flies.board ∙ board_takes (taken_in all) old.board;
    }
flight_takes up down (link_act.LoseUp place) old new all flies bodies = record { taken = []; bodies = tt; written = none_taken old.world new.world (happened_none up down (event.LoseUp place) old.world new.world all refl flies.0); board = flies.1 }
flight_takes up down (link_act.LoseDown place) old new all flies bodies = record { taken = []; bodies = tt; written = none_taken old.world new.world (happened_none up down (event.LoseDown place) old.world new.world all refl flies.0); board = flies.1 }
flight_takes up down link_act.Clcw old new all flies bodies = record { taken = []; bodies = tt; written = none_taken old.world new.world (happened_none up down event.Clcw old.world new.world all refl flies.0); board = flies.1 }
flight_takes up down link_act.Down old new all flies bodies = record { taken = []; bodies = tt; written = none_taken old.world new.world (happened_none up down event.Downlink old.world new.world all refl flies.0); board = flies.1 }
flight_takes up down link_act.Work old new all flies bodies = record {
  taken = [];
  bodies = tt;
  written = none_taken old.world new.world (happened_none up down event.Release flies.reported new.world [] refl flies.free ∙ reports_none up down _ old.world flies.reported flies.reports);
  board = flies.board;
}
flight_takes up down (link_act.Clock time) old new all flies bodies = record { taken = []; bodies = tt; written = none_taken old.world new.world (reports_none up down flies.items old.world new.world flies.reports); board = flies.board }

-- a step, and the release that comes with it, if one does
beside_takes : {U D : Type 0} (up : Kind U Frame) (down : Kind D Report) (given : StepAct) (beside : Option ℕ) (old new : State U D) (all : List LinkIndication) → FliesBeside up down beside old new all → TakesAccepted (act.Step given) old new
beside_takes {U} {D} up down given None old new all stands = record { taken = []; bodies = tt; written = none_taken old.world new.world (ap (λ (x : Whole U D). all_accepted x) stands.0); board = stands.1 }
beside_takes up down given (Some n) old new all flies = record { taken = []; bodies = tt; written = none_taken old.world new.world (offer_none up down n old new all (request_at old.book n) flies.0); board = flies.1 }

-- an act gives the spacecraft what it adds to the accepted, where what is told is what the book makes of it
pub does_take : {U D : Type 0} (up : Kind U Frame) (down : Kind D Report) (stamp : Stamp) (given : Act) (old new : State U D) (all : List LinkIndication) (first : FirstLine)
    → Does up down stamp given old new all first → AllByRecursion (IsTelecommandOf new.book) (option_list (taken_in all)) → TakesAccepted given old new
does_take {U} {D} up down stamp (act.Book given) old new all first does bodies = record { taken = []; bodies = tt; written = none_taken old.world new.world (ap (λ (x : Whole U D). all_accepted x) does.link.0); board = does.link.1 }
does_take up down stamp (act.Link given) old new all first does bodies = flight_takes up down given old new all does.link bodies
does_take up down stamp (act.Step given) old new all first does bodies = beside_takes up down given (released_with old.book given) old new all does.link
does_take {U} {D} up down stamp (act.Ask asked) old new all first does bodies =
    record { taken = []; bodies = tt; written = none_taken old.world new.world (ap (λ (at : State U D). all_accepted at.world) does.link.0); board = ap (λ (at : State U D). at.board) does.link.0 }

-- ---- good starts

happened_clean : {U D : Type 0} (up : Kind U Frame) (down : Kind D Report) (given : Event) (w v : Whole U D) (all : List LinkIndication) → Happened up down given w v all → v.clean ≡ clean_asked up down (Some given) w
happened_clean up down given w v all h = clean_is up down given w v all h.happens

pub before_clean : {U D : Type 0} (up : Kind U Frame) (down : Kind D Report) (w v : Whole U D) → IsAsBefore up down w v → v.clean ≡ w.clean
before_clean {U} {D} up down w v same = ap (λ (x : Whole U D). x.clean) same.rest

pub puts_clean : {U D : Type 0} (up : Kind U Frame) (down : Kind D Report) (items : List Telemetry) (w v : Whole U D) → PutsDown up down items w v → v.clean ≡ w.clean
puts_clean {U} {D} up down [] w v puts = ap (λ (x : Whole U D). x.clean) puts
puts_clean up down (item ∷ items) w v puts = puts_clean up down items puts.0 v puts.2 ∙ happened_clean up down (event.Put item) w puts.0 [] puts.1

reports_clean : {U D : Type 0} (up : Kind U Frame) (down : Kind D Report) (items : List Telemetry) (w v : Whole U D) → Reports up down items w v → v.clean ≡ w.clean
reports_clean up down items w v reports = puts_clean up down items reports.ready v reports.put ∙ before_clean up down w reports.ready reports.readied

passes_clean : {U D : Type 0} (up : Kind U Frame) (down : Kind D Report) (asked : Option Event) (w v : Whole U D) (all : List LinkIndication) → Passes up down asked w v all → v.clean ≡ clean_asked up down asked w
passes_clean {U} {D} up down None w v all passes = ap (λ (x : Whole U D). x.clean) passes.0
passes_clean up down (Some given) w v all passes = happened_clean up down given w v all passes

flight_clean : {U D : Type 0} (up : Kind U Frame) (down : Kind D Report) (given : LinkAct) (old new : State U D) (all : List LinkIndication) → Flies up down given old new all → new.world.clean ≡ clean_after up down old (act.Link given)
flight_clean up down (link_act.Release n) old new all flies = passes_clean up down (event_of old (link_act.Release n)) old.world new.world all flies.0
flight_clean up down (link_act.Direct given) old new all flies = passes_clean up down (event_of old (link_act.Direct given)) old.world new.world all flies.0
flight_clean up down link_act.Tick old new all flies = passes_clean up down (event_of old link_act.Tick) old.world new.world all flies.0
flight_clean up down link_act.Up old new all flies =
    puts_clean up down (reports_after (taken_in all)) flies.carried new.world flies.reports
    ∙ happened_clean up down (event.Uplink (has_buffer old.board)) flies.ready flies.carried all flies.frame
    ∙ before_clean up down old.world flies.ready flies.readied
flight_clean up down (link_act.LoseUp place) old new all flies = passes_clean up down (event_of old (link_act.LoseUp place)) old.world new.world all flies.0
flight_clean up down (link_act.LoseDown place) old new all flies = passes_clean up down (event_of old (link_act.LoseDown place)) old.world new.world all flies.0
flight_clean up down link_act.Clcw old new all flies = passes_clean up down (event_of old link_act.Clcw) old.world new.world all flies.0
flight_clean up down link_act.Down old new all flies = passes_clean up down (event_of old link_act.Down) old.world new.world all flies.0
flight_clean up down link_act.Work old new all flies =
    happened_clean up down event.Release flies.reported new.world [] flies.free ∙ reports_clean up down _ old.world flies.reported flies.reports
flight_clean up down (link_act.Clock time) old new all flies = reports_clean up down flies.items old.world new.world flies.reports

-- a release that comes with a record, if one does
beside_clean : {U D : Type 0} (up : Kind U Frame) (down : Kind D Report) (beside : Option ℕ) (old new : State U D) (all : List LinkIndication) → FliesBeside up down beside old new all
    → new.world.clean ≡ clean_asked up down (event_beside old beside) old.world
beside_clean {U} {D} up down None old new all stands = ap (λ (x : Whole U D). x.clean) stands.0
beside_clean up down (Some n) old new all flies = passes_clean up down (event_of old (link_act.Release n)) old.world new.world all flies.0

-- an initiation is a good start or not, and no other act is a start
pub does_clean : {U D : Type 0} (up : Kind U Frame) (down : Kind D Report) (stamp : Stamp) (given : Act) (old new : State U D) (all : List LinkIndication) (first : FirstLine)
    → Does up down stamp given old new all first → new.world.clean ≡ clean_after up down old given
does_clean {U} {D} up down stamp (act.Book given) old new all first does = ap (λ (x : Whole U D). x.clean) does.link.0
does_clean up down stamp (act.Link given) old new all first does = flight_clean up down given old new all does.link
does_clean up down stamp (act.Step given) old new all first does = beside_clean up down (released_with old.book given) old new all does.link
does_clean {U} {D} up down stamp (act.Ask asked) old new all first does = ap (λ (at : State U D). at.world.clean) does.link.0

-- ---- the claims

-- the same is claimed of a link that got room
pub same_claims : {U D : Type 0} (up : Kind U Frame) (down : Kind D Report) (w v : Whole U D) → IsAsBefore up down w v → (w.clean ≡ true → IsClaimed w) → v.clean ≡ true → IsClaimed v
same_claims {U} {D} up down w v same claims clean =
    let was = claims (sym (before_clean up down w v same) ∙ clean) in
    subst (λ (x : Whole U D). IsClaimed x) (sym same.rest) (record { prefixes = was.prefixes; sent_once = was.sent_once; accepted_once = was.accepted_once })

confirmed_accepted : (logs : List Log) → ArePrefixed logs → IsSublist (flat_map (λ (log : Log). log.confirmed) logs) (flat_map (λ (log : Log). log.accepted) logs)
confirmed_accepted [] all = refl
confirmed_accepted (log ∷ logs) all =
    sublist_both log.confirmed log.accepted (flat_map (λ (l : Log). l.confirmed) logs) (flat_map (λ (l : Log). l.accepted) logs)
    (subst (λ l. IsSublist l log.accepted) (sym all.0.confirmed) (sublist_take _ log.accepted)) (confirmed_accepted logs all.1)

accepted_sent : (logs : List Log) → ArePrefixed logs → IsSublist (flat_map (λ (log : Log). log.accepted) logs) (flat_map (λ (log : Log). log.sent) logs)
accepted_sent [] all = refl
accepted_sent (log ∷ logs) all =
    sublist_both log.accepted log.sent (flat_map (λ (l : Log). l.accepted) logs) (flat_map (λ (l : Log). l.sent) logs)
    (subst (λ l. IsSublist l log.sent) (sym all.0.accepted) (sublist_take _ log.sent)) (accepted_sent logs all.1)

-- what the rows call confirmed was taken on board once, in the order of the rows of its transmission
pub taken_once : {U D : Type 0} (opened : ℕ) (at : State U D) → IsTied opened at → IsClaimed at.world → TakenOnce opened at
taken_once opened at tied claims =
    let logs : List Log = at.world.past ++ at.world.newest ∷ [] in
    record {
      accepted = sublist_trans (confirm_rows opened at.book) (flat_map (λ (log : Log). log.confirmed) logs) (all_accepted at.world) tied.rows.confirms (confirmed_accepted logs claims.prefixes);
      once = claims.accepted_once;
      in_order = subst (IsSublist (all_accepted at.world)) (sym tied.rows.transmits) (accepted_sent logs claims.prefixes);
    }
