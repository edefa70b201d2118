-- What each kind of act is refused for, what it makes of the book by itself, and how its reply begins. An act on the book
-- alone is the book's matter.
use Rattle.std.specs.Prelude.{ℕ, ◌==◌, nat_lt, Bool, true, false, not, ◌&&◌, ◌||◌, Option, Some, None, is_some, List, [], ◌∷◌, ◌++◌, count_by}
use Rattle.std.specs.List.{list_any}
use Rattle.tc_types.specs.declared.link.activities.ListedActivity.{ListedActivity}
use Rattle.tc_types.specs.declared.history.places.Place.TheVariants.{Entered, Approved, Queued, Riding}
use Rattle.tc_types.specs.declared.history.causes.Cause.TheVariants as cause
use Rattle.tc_types.specs.declared.refusals.Refusal.{Refusal}
use Rattle.tc_types.specs.declared.refusals.Refusal.TheVariants.{UnknownRequest, NotApproved, WrongPlace, Interlock, BadActivity, ServiceNotActive, WaitQueueFull, BadDirective, DeskFull}
use Rattle.tc_types.specs.declared.link.directives.Directive.{Directive}
use Rattle.tc_types.specs.declared.link.directives.Directive.TheVariants as directive
use Rattle.tc_types.specs.declared.requests.Identity.{Identity}
use Rattle.tc_types.specs.declared.link.reports.Report.TheVariants as report
use Rattle.tc_types.specs.declared.link.reports.Telemetry.{Telemetry}
use Rattle.tc_types.specs.declared.link.reports.Telemetry.TheVariants as telemetry
use Rattle.tc_types.specs.declared.acts.LinkAct.{LinkAct}
use Rattle.tc_types.specs.declared.acts.LinkAct.TheVariants as link_act
use Rattle.tc_types.specs.declared.acts.Act.{Act}
use Rattle.tc_types.specs.declared.acts.Act.TheVariants as act
use Rattle.tc_types.specs.declared.acts.Query.{Query}
use Rattle.tc_farm.specs.declared.farms.FrameVerdict.TheVariants as verdict
use Rattle.tc_fop.specs.declared.signals.FopState.{FopState}
use Rattle.tc_fop.specs.declared.views.FopView.{FopView}
use Rattle.tc_fop.specs.Calls.{is_taking, is_initial}
use Rattle.tc_fop.specs.Views.{view_of}
use Rattle.tc_world.specs.declared.events.LinkIndication.{LinkIndication}
use Rattle.tc_world.specs.declared.events.LinkIndication.TheVariants as said
use Rattle.tc_world.specs.World.{is_terminate}
use Rattle.tc_board.specs.Board.{BoardState, oldest_of}
use Rattle.tc_book.specs.declared.stamps.Stamp.{Stamp}
use Rattle.tc_book.specs.declared.firsts.First.TheVariants as book_first
use Rattle.tc_book.specs.Book.{Book, stands, is_unknown, has_all_rows, want, moved}
use Rattle.tc_book.specs.Stacks.{is_interlocked}
use Rattle.tc_book.specs.Acts as on_book
use Rattle.tc_book.specs.Logs.{step_tests, recorded, released_with}
use Rattle.tc_desk.specs.declared.firsts.FirstLine.{FirstLine}
use Rattle.tc_desk.specs.declared.firsts.FirstLine.TheVariants as first
use Rattle.tc_desk.specs.State.{State, widest_k}
use Rattle.tc_desk.specs.Commands.{activities_at, may_not_ride}
use Rattle.tc_desk.specs.Effects.{followed}

-- ---- the tests of each act, in order, with the refusal that each gives

-- the request is an insert of which an activity is not approved
abbrev pub has_bad_activity : Book → ℕ → Bool
has_bad_activity book n = list_any (may_not_ride book) (activities_at book n)

-- the request, or one of its activities where it is an insert, came with a stack and waits there for a line that is not completed
abbrev pub is_locked : Book → ℕ → Bool
is_locked book n = is_interlocked book n || list_any (is_interlocked book) (activities_at book n)

-- an initiation and a new V(S) are taken in S6 alone, 0 is no setting, and K is at most the widest that fits
abbrev pub is_bad_directive : FopState → ℕ → Directive → Bool
is_bad_directive state widest directive.InitiateNone = not (is_initial state)
is_bad_directive state widest directive.InitiateCheck = not (is_initial state)
is_bad_directive state widest directive.InitiateUnlock = not (is_initial state)
is_bad_directive state widest (directive.InitiateSetVr v) = not (is_initial state)
is_bad_directive state widest directive.Terminate = false
is_bad_directive state widest (directive.SetVs v) = not (is_initial state)
is_bad_directive state widest (directive.SetK k) = (k == 0) || nat_lt widest k
is_bad_directive state widest (directive.SetT1 t1) = t1 == 0
is_bad_directive state widest (directive.SetLimit limit) = limit == 0

-- of a book, a FOP, the widest K that fits, and the spacecraft's time
abbrev pub link_tests : Book → FopView → ℕ → ℕ → LinkAct → List (Bool × Refusal)
link_tests book fop widest now (link_act.Release n) =
    (is_unknown book n, UnknownRequest)
    ∷ (stands book n (Entered ∷ []), NotApproved)
    ∷ (not (stands book n (Approved ∷ [])), WrongPlace)
    ∷ (is_locked book n, Interlock)
    ∷ (has_bad_activity book n, BadActivity)
    ∷ (not (is_taking fop.state), ServiceNotActive)
    ∷ (not (fop.waiting == 0), WaitQueueFull)
    ∷ (has_all_rows book, DeskFull)
    ∷ []
link_tests book fop widest now (link_act.Direct given) = (is_bad_directive fop.state widest given, BadDirective) ∷ (is_terminate given && has_all_rows book, DeskFull) ∷ []
link_tests book fop widest now link_act.Tick = (has_all_rows book, DeskFull) ∷ []
link_tests book fop widest now link_act.Up = []
link_tests book fop widest now (link_act.LoseUp place) = []
link_tests book fop widest now (link_act.LoseDown place) = []
link_tests book fop widest now link_act.Clcw = []
link_tests book fop widest now link_act.Down = (has_all_rows book, DeskFull) ∷ []
link_tests book fop widest now link_act.Work = []
link_tests book fop widest now (link_act.Clock time) = (nat_lt time now, BadDirective) ∷ []

-- what is tested behind a record: the release, where one comes with it
abbrev pub tests_behind : Book → FopView → ℕ → ℕ → Option ℕ → List (Bool × Refusal)
tests_behind book fop widest now None = (has_all_rows book, DeskFull) ∷ []
tests_behind book fop widest now (Some n) = link_tests book fop widest now (link_act.Release n)

abbrev pub tests_of : {U D : Type 0} → Stamp → State U D → Act → List (Bool × Refusal)
tests_of stamp at (act.Book given) = on_book.tests_of stamp at.book given
tests_of stamp at (act.Link given) = link_tests at.book (view_of at.world.fop) (widest_k at.world.farm.window) at.board.time given
tests_of stamp at (act.Step given) = step_tests stamp at.book given ++ tests_behind at.book (view_of at.world.fop) (widest_k at.world.farm.window) at.board.time (released_with at.book given)
tests_of stamp at (act.Ask asked) = on_book.query_tests at.book asked

-- what the first test that holds says
abbrev pub refusal_of : {U D : Type 0} → Stamp → State U D → Act → Option Refusal
refusal_of stamp at given = on_book.first_refusal (tests_of stamp at given)

-- the same of a question, whoever asks
abbrev pub question_refusal : {U D : Type 0} → State U D → Query → Option Refusal
question_refusal at asked = on_book.first_refusal (on_book.query_tests at.book asked)

-- ---- the act's own rows

abbrev pub released : Stamp → LinkAct → Book → Book
released stamp (link_act.Release n) book = followed stamp (moved stamp book (want n Queued cause.Release)) (activities_at book n) (Approved ∷ []) Riding cause.Release
released stamp (link_act.Direct given) book = book
released stamp link_act.Tick book = book
released stamp link_act.Up book = book
released stamp (link_act.LoseUp place) book = book
released stamp (link_act.LoseDown place) book = book
released stamp link_act.Clcw book = book
released stamp link_act.Down book = book
released stamp link_act.Work book = book
released stamp (link_act.Clock time) book = book

-- those of a release that comes with a record, if one does
abbrev pub released_beside : Stamp → Option ℕ → Book → Book
released_beside stamp None book = book
released_beside stamp (Some n) book = released stamp (link_act.Release n) book

abbrev pub acted : Stamp → Act → Book → Book
acted stamp (act.Book given) book = on_book.acted stamp given book
acted stamp (act.Link given) book = released stamp given book
acted stamp (act.Step given) book = released_beside stamp (released_with book given) (recorded stamp given book)
acted stamp (act.Ask asked) book = book

-- ---- how the reply begins

abbrev pub plain : FirstLine
plain = first.Book book_first.Plain

-- what became of the first frame
abbrev pub first_of_up : List LinkIndication → FirstLine
first_of_up [] = first.Nothing
first_of_up (said.Fop i ∷ others) = first.Nothing
first_of_up (said.Farm (verdict.Accepted n body) ∷ others) = first.Accepted n
first_of_up (said.Farm verdict.Discarded ∷ others) = first.Discarded
first_of_up (said.Farm verdict.Control ∷ others) = first.Control
first_of_up (said.Received item ∷ others) = first.Nothing
first_of_up (said.Lost ∷ others) = first.Nothing
first_of_up (said.Transmitted frame ∷ others) = first.Nothing

abbrev pub is_there : Option ListedActivity → Bool
is_there place = is_some place

-- a report that came down: of a summary, how many activities it tells
abbrev pub first_of_report : Telemetry → FirstLine
first_of_report (telemetry.Verification verification n identity) = first.Verified verification identity
first_of_report (telemetry.Summary summary) = first.Summarized summary.enabled (count_by is_there summary.activities)

-- what came down
abbrev pub first_of_down : List LinkIndication → FirstLine
first_of_down [] = first.Nothing
first_of_down (said.Fop i ∷ others) = first.Nothing
first_of_down (said.Farm given ∷ others) = first.Nothing
first_of_down (said.Received (report.Word word) ∷ others) = first.Word word
first_of_down (said.Received (report.Telemetry item) ∷ others) = first_of_report item
first_of_down (said.Lost ∷ others) = first.Nothing
first_of_down (said.Transmitted frame ∷ others) = first.Nothing

-- whether something was lost
abbrev pub first_of_loss : List LinkIndication → FirstLine
first_of_loss [] = first.Nothing
first_of_loss (said.Fop i ∷ others) = first.Nothing
first_of_loss (said.Farm given ∷ others) = first.Nothing
first_of_loss (said.Received item ∷ others) = first.Nothing
first_of_loss (said.Lost ∷ others) = first.Lost
first_of_loss (said.Transmitted frame ∷ others) = first.Nothing

-- which request was carried out
abbrev pub first_of_work : Option Identity → FirstLine
first_of_work None = first.Nothing
first_of_work (Some identity) = first.Worked identity

abbrev pub first_told : BoardState → LinkAct → List LinkIndication → FirstLine
first_told board (link_act.Release n) all = plain
first_told board (link_act.Direct given) all = plain
first_told board link_act.Tick all = plain
first_told board link_act.Up all = first_of_up all
first_told board (link_act.LoseUp place) all = first_of_loss all
first_told board (link_act.LoseDown place) all = first_of_loss all
first_told board link_act.Clcw all = plain
first_told board link_act.Down all = first_of_down all
first_told board link_act.Work all = first_of_work (oldest_of board.buffer)
first_told board (link_act.Clock time) all = first.Now time

abbrev pub first_of : {U D : Type 0} → State U D → Act → List LinkIndication → FirstLine
first_of at (act.Book given) all = first.Book (on_book.first_of at.book given)
first_of at (act.Link given) all = first_told at.board given all
first_of at (act.Step given) all = plain
first_of at (act.Ask asked) all = plain

-- a question changes nothing
abbrev pub is_question : Act → Bool
is_question (act.Book given) = false
is_question (act.Link given) = false
is_question (act.Step given) = false
is_question (act.Ask asked) = true
