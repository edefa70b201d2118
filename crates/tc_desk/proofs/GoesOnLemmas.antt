-- What an act makes of the book goes on from the book before it.
use Rattle.std.proofs.Common.{◌≡◌, ℕ, Bool, true, false, if◌then◌else◌, Option, Some, None, fold, List, [], ◌∷◌, map, Result, Ok, Err, sym, subst}
use Rattle.tc_types.specs.declared.history.places.Place.{Place}
use Rattle.tc_types.specs.declared.history.places.Place.TheVariants as place
use Rattle.tc_types.specs.declared.history.causes.Cause.{Cause}
use Rattle.tc_types.specs.declared.history.causes.Cause.TheVariants as cause
use Rattle.tc_types.specs.declared.link.reports.Report.{Report}
use Rattle.tc_types.specs.declared.link.reports.Report.TheVariants as report
use Rattle.tc_types.specs.declared.link.reports.Telemetry.TheVariants as telemetry
use Rattle.std.specs.List.{list_any}
use Rattle.std.specs.Result.{OnOk}
use Rattle.tc_types.specs.declared.link.reports.Verification.{Verification}
use Rattle.tc_types.specs.declared.requests.Command.{Command}
use Rattle.tc_types.specs.declared.requests.Command.TheVariants as command
use Rattle.tc_types.specs.declared.requests.Request.{Request}
use Rattle.tc_board.specs.Mirror.{MirrorState, is_listed_of}
use Rattle.tc_types.specs.declared.acts.Act.TheVariants as any_act
use Rattle.tc_types.specs.declared.acts.LinkAct.{LinkAct}
use Rattle.tc_types.specs.declared.link.frames.Frame.{Frame}
use Rattle.tc_types.specs.declared.refusals.Refusal.{Refusal}
use Rattle.tc_types.specs.declared.acts.LinkAct.TheVariants as act
use Rattle.tc_types.specs.declared.acts.StepAct.{StepAct}
use Rattle.tc_types.specs.Lawful.{is_lawful}
use Rattle.tc_types.specs.Schedule.{ridden}
use Rattle.tc_types.specs.Stages.{stage_of_verification}
use Rattle.tc_fop.specs.declared.signals.Indication.TheVariants as signal
use Rattle.tc_world.specs.declared.events.LinkIndication.{LinkIndication}
use Rattle.tc_world.specs.declared.events.LinkIndication.TheVariants as said
use Rattle.tc_book.specs.declared.stamps.Stamp.{Stamp}
use Rattle.tc_book.specs.Batch.{GoesOn}
use Rattle.tc_book.specs.Book.{Book, place_in, stands, request_at, moved, want}
use Rattle.tc_book.specs.Logs.{recorded, released_with}
use Rattle.tc_book.specs.Places.{numbers_from}
use Rattle.tc_book.proofs.GoesOnLemmas.{behind, same-goes_on, on_and_on, moved-goes_on}
use Rattle.tc_world.specs.Links.{Kind}
use Rattle.tc_desk.specs.declared.flights.Flight.{Flight}
use Rattle.tc_desk.specs.Acts.{released, released_beside}
use Rattle.tc_desk.specs.Commands.{activities_at}
use Rattle.tc_desk.specs.Parts.{Performs}
use Rattle.tc_desk.specs.State.{State}
use Rattle.tc_desk.specs.Effects.{tried, followed, tried_with, reported, is_completed, is_failed, inserted, deleted, removed, emptied, besides, besides_at, received, heard, heard_all}

-- a move that is made or not
by_test : (stamp : Stamp) (book : Book) (n : ℕ) (to : Place) (c : Cause) (t : Bool) → GoesOn book (if t then moved stamp book (want n to c) else book)
by_test stamp book n to c true = moved-goes_on stamp book n to c
by_test stamp book n to c false = same-goes_on book

pub tried-goes_on : (stamp : Stamp) (book : Book) (n : ℕ) (places : List Place) (to : Place) (c : Cause) → GoesOn book (tried stamp book n places to c)
tried-goes_on stamp book n places to c = by_test stamp book n to c (stands book n places)

pub reported-goes_on : (stamp : Stamp) (book : Book) (n : ℕ) (to : Place) → GoesOn book (reported stamp book n to)
reported-goes_on stamp book n to = by_test stamp book n to cause.Report (is_lawful (place_in book n) to cause.Report)

-- a step that is made or not
if-goes_on : (book after : Book) (t : Bool) → GoesOn book after → GoesOn book (if t then after else book)
if-goes_on book after true on = on
if-goes_on book after false on = same-goes_on book

pub followed-goes_on : (stamp : Stamp) (book : Book) (activities : List ℕ) (places : List Place) (to : Place) (c : Cause) → GoesOn book (followed stamp book activities places to c)
followed-goes_on stamp book [] places to c = same-goes_on book
followed-goes_on stamp book (n ∷ activities) places to c =
    let after : Book = tried stamp book n places to c in
    on_and_on book after (followed stamp after activities places to c) (tried-goes_on stamp book n places to c) (followed-goes_on stamp after activities places to c)

tried_with-goes_on : (stamp : Stamp) (book : Book) (n : ℕ) (places : List Place) (to : Place) (c : Cause) → GoesOn book (tried_with stamp book n places to c)
tried_with-goes_on stamp book n places to c =
    let after : Book = moved stamp book (want n to c) in
    let behind_it : Book = followed stamp after (activities_at book n) (place.Riding ∷ []) to c in
    if-goes_on book behind_it (stands book n places)
    (on_and_on book after behind_it (moved-goes_on stamp book n to c) (followed-goes_on stamp after (activities_at book n) (place.Riding ∷ []) to c))

pub removed-goes_on : (stamp : Stamp) (mirror : MirrorState) (book : Book) (n : ℕ) → GoesOn book (removed stamp mirror book n)
removed-goes_on stamp mirror book n =
    if-goes_on book (tried stamp book n (place.Scheduled ∷ []) place.Deleted cause.Reset) (list_any (is_listed_of n) mirror.activities)
    (tried-goes_on stamp book n (place.Scheduled ∷ []) place.Deleted cause.Reset)

pub all_removed-goes_on : (stamp : Stamp) (mirror : MirrorState) (ns : List ℕ) (book : Book) → GoesOn book (fold (removed stamp mirror) book ns)
all_removed-goes_on stamp mirror [] book = same-goes_on book
all_removed-goes_on stamp mirror (n ∷ ns) book =
    on_and_on book (removed stamp mirror book n) (fold (removed stamp mirror) (removed stamp mirror book n) ns) (removed-goes_on stamp mirror book n) (all_removed-goes_on stamp mirror ns (removed stamp mirror book n))

inserted-goes_on : (stamp : Stamp) (v : Verification) (activities : List ℕ) (book : Book) → GoesOn book (inserted stamp v activities book)
inserted-goes_on stamp v activities book = by_tests (is_completed v) (is_failed v)
  where
    places : List Place
    places = place.Riding ∷ place.Doubtful ∷ []

    by_tests : (done fails : Bool) → GoesOn book (if done then followed stamp book activities places place.Scheduled cause.Insert else (if fails then followed stamp book activities places place.Failed cause.Insert else book))
    by_tests true fails = followed-goes_on stamp book activities places place.Scheduled cause.Insert
    by_tests false true = followed-goes_on stamp book activities places place.Failed cause.Insert
    by_tests false false = same-goes_on book

besides-goes_on : (stamp : Stamp) (mirror : MirrorState) (v : Verification) (given : Command) (book : Book) → GoesOn book (besides stamp mirror v given book)
besides-goes_on stamp mirror v (command.Plain service subtype) book = same-goes_on book
besides-goes_on stamp mirror v command.EnableSchedule book = same-goes_on book
besides-goes_on stamp mirror v command.DisableSchedule book = same-goes_on book
besides-goes_on stamp mirror v command.ResetSchedule book =
    if-goes_on book (emptied stamp mirror book) (is_completed v) (all_removed-goes_on stamp mirror (numbers_from 1 book.requests) book)
besides-goes_on stamp mirror v (command.InsertActivities rides) book = inserted-goes_on stamp v (map ridden rides) book
besides-goes_on stamp mirror v (command.DeleteActivity target) book =
    if-goes_on book (deleted stamp target book) (is_completed v) (tried-goes_on stamp book target (place.Riding ∷ place.Scheduled ∷ place.Doubtful ∷ []) place.Deleted cause.Delete)
besides-goes_on stamp mirror v (command.ShiftActivity target offset) book = same-goes_on book
besides-goes_on stamp mirror v (command.ShiftAll offset) book = same-goes_on book
besides-goes_on stamp mirror v command.SummarizeAll book = same-goes_on book

pub besides_at-goes_on : (stamp : Stamp) (mirror : MirrorState) (v : Verification) (request : Option Request) (book : Book) → GoesOn book (besides_at stamp mirror v request book)
besides_at-goes_on stamp mirror v None book = same-goes_on book
besides_at-goes_on stamp mirror v (Some request) book = besides-goes_on stamp mirror v request.body.command book

received-goes_on : (stamp : Stamp) (mirror : MirrorState) (book : Book) (item : Report) → GoesOn book (received stamp mirror book item)
received-goes_on stamp mirror book (report.Word word) = same-goes_on book
received-goes_on stamp mirror book (report.Telemetry (telemetry.Verification v n identity)) =
    let after : Book = reported stamp book n (stage_of_verification v) in
    on_and_on book after (besides_at stamp mirror v (request_at book n) after) (reported-goes_on stamp book n (stage_of_verification v)) (besides_at-goes_on stamp mirror v (request_at book n) after)
received-goes_on stamp mirror book (report.Telemetry (telemetry.Summary summary)) = same-goes_on book

pub heard-goes_on : (stamp : Stamp) (mirror : MirrorState) (book : Book) (i : LinkIndication) → GoesOn book (heard stamp mirror book i)
heard-goes_on stamp mirror book (said.Fop (signal.Sent n)) = tried-goes_on stamp book n (place.Queued ∷ []) place.Sent cause.Transmit
heard-goes_on stamp mirror book (said.Fop (signal.Confirmed n)) = tried-goes_on stamp book n (place.Sent ∷ []) place.Confirmed cause.Confirm
heard-goes_on stamp mirror book (said.Fop (signal.GivenBack n)) = tried_with-goes_on stamp book n (place.Queued ∷ []) place.Approved cause.GiveBack
heard-goes_on stamp mirror book (said.Fop (signal.InDoubt n)) = tried_with-goes_on stamp book n (place.Sent ∷ []) place.Doubtful cause.Doubt
heard-goes_on stamp mirror book (said.Fop (signal.Alert kind)) = same-goes_on book
heard-goes_on stamp mirror book (said.Fop signal.Started) = same-goes_on book
heard-goes_on stamp mirror book (said.Farm v) = same-goes_on book
heard-goes_on stamp mirror book (said.Received item) = received-goes_on stamp mirror book item
heard-goes_on stamp mirror book said.Lost = same-goes_on book
heard-goes_on stamp mirror book (said.Transmitted frame) = same-goes_on book

pub heard_all-goes_on : (stamp : Stamp) (mirror : MirrorState) (all : List LinkIndication) (book : Book) → GoesOn book (heard_all stamp mirror all book)
heard_all-goes_on stamp mirror [] book = same-goes_on book
heard_all-goes_on stamp mirror (i ∷ all) book =
    on_and_on book (heard stamp mirror book i) (heard_all stamp mirror all (heard stamp mirror book i)) (heard-goes_on stamp mirror book i) (heard_all-goes_on stamp mirror all (heard stamp mirror book i))

pub released-goes_on : (stamp : Stamp) (given : LinkAct) (book : Book) → GoesOn book (released stamp given book)
released-goes_on stamp (act.Release n) book =
    let after : Book = moved stamp book (want n place.Queued cause.Release) in
    on_and_on book after (followed stamp after (activities_at book n) (place.Approved ∷ []) place.Riding cause.Release) (moved-goes_on stamp book n place.Queued cause.Release) (followed-goes_on stamp after (activities_at book n) (place.Approved ∷ []) place.Riding cause.Release)
released-goes_on stamp (act.Direct given) book = same-goes_on book
released-goes_on stamp act.Tick book = same-goes_on book
released-goes_on stamp act.Up book = same-goes_on book
released-goes_on stamp (act.LoseUp place) book = same-goes_on book
released-goes_on stamp (act.LoseDown place) book = same-goes_on book
released-goes_on stamp act.Clcw book = same-goes_on book
released-goes_on stamp act.Down book = same-goes_on book
released-goes_on stamp act.Work book = same-goes_on book
released-goes_on stamp (act.Clock time) book = same-goes_on book

-- what an act on the link does to the book: its own rows, and those of what it hears
pub flown-goes_on : (stamp : Stamp) (mirror : MirrorState) (given : LinkAct) (all : List LinkIndication) (old new : Book) → new ≡ heard_all stamp mirror all (released stamp given old) → GoesOn old new
flown-goes_on stamp mirror given all old new e =
    subst (GoesOn old) (sym e) (on_and_on old (released stamp given old) (heard_all stamp mirror all (released stamp given old)) (released-goes_on stamp given old) (heard_all-goes_on stamp mirror all (released stamp given old)))

-- ---- a step

recorded-goes_on : (stamp : Stamp) (given : StepAct) (book : Book) → GoesOn book (recorded stamp given book)
recorded-goes_on stamp given book =
    let same : GoesOn book book = same-goes_on book in
    record {
      requests = same.requests;
      history = same.history;
      approvals = same.approvals;
      stack_approvals = same.stack_approvals;
      log = record { loaded = same.log.loaded; steps = same.log.steps; executions = same.log.executions; records = behind book.log.records _ };
      stacks = same.stacks;
    }

beside-goes_on : (stamp : Stamp) (beside : Option ℕ) (book : Book) → GoesOn book (released_beside stamp beside book)
beside-goes_on stamp None book = same-goes_on book
beside-goes_on stamp (Some n) book = released-goes_on stamp (act.Release n) book

-- what a step does to the book: its record, the rows of the release that comes with it, and those of what it hears
pub stepped-goes_on : (stamp : Stamp) (mirror : MirrorState) (given : StepAct) (all : List LinkIndication) (old new : Book)
    → new ≡ heard_all stamp mirror all (released_beside stamp (released_with old given) (recorded stamp given old)) → GoesOn old new
stepped-goes_on stamp mirror given all old new e =
    let noted : Book = recorded stamp given old in
    let after : Book = released_beside stamp (released_with old given) noted in
    subst (GoesOn old) (sym e) (on_and_on old noted (heard_all stamp mirror all after) (recorded-goes_on stamp given old) (on_and_on noted after (heard_all stamp mirror all after) (beside-goes_on stamp (released_with old given) noted) (heard_all-goes_on stamp mirror all after)))

-- ---- whatever is answered

pub performed-goes_on : {A U D : Type 0} (up : Kind U Frame) (down : Kind D Report) (stamp : Stamp) (given : LinkAct) (old new : State U D) (result : Result (Flight A) Refusal)
    → Performs up down old stamp (any_act.Link given) new result → OnOk result (GoesOn old.book new.book)
performed-goes_on up down stamp given old new (Ok flight) done = flown-goes_on stamp old.mirror given flight.said old.book new.book done.answers.1.book
performed-goes_on up down stamp given old new (Err e) done = tt

pub noted-goes_on : {A U D : Type 0} (up : Kind U Frame) (down : Kind D Report) (stamp : Stamp) (given : StepAct) (old new : State U D) (result : Result (Flight A) Refusal)
    → Performs up down old stamp (any_act.Step given) new result → OnOk result (GoesOn old.book new.book)
noted-goes_on up down stamp given old new (Ok flight) done = stepped-goes_on stamp old.mirror given flight.said old.book new.book done.answers.1.book
noted-goes_on up down stamp given old new (Err e) done = tt
