-- What the book hears of the link: each indication, and each report that was read, is one equation. Where an insert moves, its
-- activities follow.
use Rattle.std.specs.Prelude.{◌≡◌, ◌≢◌, ◌⊎◌, ℕ, ◌≤◌, Bool, true, false, if◌then◌else◌, Option, Some, None, List, [], ◌∷◌, length, map, fold}
use Rattle.std.specs.List.{list_any}
use Rattle.tc_types.specs.declared.history.places.Place.{Place}
use Rattle.tc_types.specs.declared.history.places.Place.TheVariants as place
use Rattle.tc_types.specs.declared.history.causes.Cause.{Cause}
use Rattle.tc_types.specs.declared.history.causes.Cause.TheVariants as cause
use Rattle.tc_types.specs.declared.link.reports.Report.{Report}
use Rattle.tc_types.specs.declared.link.reports.Report.TheVariants as report
use Rattle.tc_types.specs.declared.link.reports.Telemetry.{Telemetry}
use Rattle.tc_types.specs.declared.link.reports.Telemetry.TheVariants as telemetry
use Rattle.tc_types.specs.declared.link.reports.Verification.{Verification}
use Rattle.tc_types.specs.declared.requests.Command.{Command}
use Rattle.tc_types.specs.declared.requests.Command.TheVariants as command
use Rattle.tc_types.specs.declared.requests.Request.{Request}
use Rattle.tc_types.specs.History.{count_at}
use Rattle.tc_types.specs.Lawful.{is_among, is_lawful, is_one_of}
use Rattle.tc_types.specs.Schedule.{ridden}
use Rattle.tc_types.specs.Stages.{stage_of_verification}
use Rattle.tc_fop.specs.declared.signals.Indication.TheVariants as signal
use Rattle.tc_world.specs.declared.events.LinkIndication.{LinkIndication}
use Rattle.tc_world.specs.declared.events.LinkIndication.TheVariants as said
use Rattle.tc_board.specs.Mirror.{MirrorState, is_listed_of}
use Rattle.tc_book.specs.declared.stamps.Stamp.{Stamp}
use Rattle.tc_book.specs.Book.{Book, place_in, stands, request_at, want, moved}
use Rattle.tc_book.specs.Places.{numbers_from}
use Rattle.tc_book.specs.Records.{Kept}
use Rattle.tc_desk.specs.Commands.{activities_at}

-- how many requests ride inside an insert
unfoldable pub riding : Book → ℕ
riding book = count_at book.history place.Riding

-- there is room for the rows of this book
abbrev pub MayHold : Kept → Book → Type 0
MayHold at book = length book.history ≤ at.most_rows

-- from each of these places a move to this one is lawful for this cause; only its approvers move a request with the cause `approve`
pub record MayMove (places : List Place) (to : Place) (why : Cause) : Type 0 where
  pub lawful : (from : Option Place) → is_among places from ≡ true → is_lawful from to why ≡ true
  pub own : why ≢ cause.Approve

-- requests were moved: all but the history stays, and there is room for as many rows as there was at least
pub record OnlyMoves (old new : Kept) : Type 0 where
  pub rows_kept : old.most_rows ≤ new.most_rows
  pub requests : new.book.requests ≡ old.book.requests
  pub approvals : new.book.approvals ≡ old.book.approvals
  pub stack_approvals : new.book.stack_approvals ≡ old.book.stack_approvals
  pub log : new.book.log ≡ old.book.log

-- the request is moved, if it stands at one of these places
abbrev pub tried : Stamp → Book → ℕ → List Place → Place → Cause → Book
tried stamp book n places to why = if stands book n places then moved stamp book (want n to why) else book

-- the same of each activity of an insert, in the insert's order, each by its own place
abbrev pub followed : Stamp → Book → List ℕ → List Place → Place → Cause → Book
followed stamp book activities places to why = fold (λ (b : Book) (n : ℕ). tried stamp b n places to why) book activities

-- the request is moved, if it stands at one of these places; and each of its activities, if it rides with it
abbrev pub tried_with : Stamp → Book → ℕ → List Place → Place → Cause → Book
tried_with stamp book n places to why =
    if stands book n places then followed stamp (moved stamp book (want n to why)) (activities_at book n) (place.Riding ∷ []) to why
    else book

-- ---- reports

-- the request of a report goes to the place that the report asks for, if that is lawful
abbrev pub reported : Stamp → Book → ℕ → Place → Book
reported stamp book n to = if is_lawful (place_in book n) to cause.Report then moved stamp book (want n to cause.Report) else book

abbrev pub is_completed : Verification → Bool
is_completed v = is_one_of (place.Completed ∷ []) (stage_of_verification v)

abbrev pub is_failed : Verification → Bool
is_failed v = is_one_of (place.Failed ∷ []) (stage_of_verification v)

-- a completed insert schedules its activities, a failed one fails them
abbrev pub inserted : Stamp → Verification → List ℕ → Book → Book
inserted stamp v activities book =
    if is_completed v then followed stamp book activities (place.Riding ∷ place.Doubtful ∷ []) place.Scheduled cause.Insert
    else if is_failed v then followed stamp book activities (place.Riding ∷ place.Doubtful ∷ []) place.Failed cause.Insert
    else book

-- a completed delete deletes its target
abbrev pub deleted : Stamp → ℕ → Book → Book
deleted stamp target book = tried stamp book target (place.Riding ∷ place.Scheduled ∷ place.Doubtful ∷ []) place.Deleted cause.Delete

-- a request that stands in a mirror is deleted, if it is scheduled
abbrev pub removed : Stamp → MirrorState → Book → ℕ → Book
removed stamp mirror book n = if list_any (is_listed_of n) mirror.activities then tried stamp book n (place.Scheduled ∷ []) place.Deleted cause.Reset else book

-- a completed reset deletes what stood in the mirror and is scheduled, in order of number
abbrev pub emptied : Stamp → MirrorState → Book → Book
emptied stamp mirror book = fold (removed stamp mirror) book (numbers_from 1 book.requests)

-- what a report on a request with this command moves besides
abbrev pub besides : Stamp → MirrorState → Verification → Command → Book → Book
besides stamp mirror v (command.Plain service subtype) book = book
besides stamp mirror v command.EnableSchedule book = book
besides stamp mirror v command.DisableSchedule book = book
besides stamp mirror v command.ResetSchedule book = if is_completed v then emptied stamp mirror book else book
besides stamp mirror v (command.InsertActivities rides) book = inserted stamp v (map ridden rides) book
besides stamp mirror v (command.DeleteActivity target) book = if is_completed v then deleted stamp target book else book
besides stamp mirror v (command.ShiftActivity target offset) book = book
besides stamp mirror v (command.ShiftAll offset) book = book
besides stamp mirror v command.SummarizeAll book = book

abbrev pub besides_at : Stamp → MirrorState → Verification → Option Request → Book → Book
besides_at stamp mirror v None book = book
besides_at stamp mirror v (Some request) book = besides stamp mirror v request.body.command book

-- a report of the spacecraft; the mirror is as it was before the report was read
abbrev pub told : Stamp → MirrorState → Book → Telemetry → Book
told stamp mirror book (telemetry.Verification v n identity) =
    besides_at stamp mirror v (request_at book n) (reported stamp book n (stage_of_verification v))
told stamp mirror book (telemetry.Summary summary) = book

-- what came down
abbrev pub received : Stamp → MirrorState → Book → Report → Book
received stamp mirror book (report.Word word) = book
received stamp mirror book (report.Telemetry item) = told stamp mirror book item

-- ---- indications

-- Sent and GivenBack act on a request at Queued, Confirmed and InDoubt on one at Sent. At another place they make no row.
abbrev pub heard : Stamp → MirrorState → Book → LinkIndication → Book
heard stamp mirror book (said.Fop (signal.Sent n)) = tried stamp book n (place.Queued ∷ []) place.Sent cause.Transmit
heard stamp mirror book (said.Fop (signal.Confirmed n)) = tried stamp book n (place.Sent ∷ []) place.Confirmed cause.Confirm
heard stamp mirror book (said.Fop (signal.GivenBack n)) = tried_with stamp book n (place.Queued ∷ []) place.Approved cause.GiveBack
heard stamp mirror book (said.Fop (signal.InDoubt n)) = tried_with stamp book n (place.Sent ∷ []) place.Doubtful cause.Doubt
heard stamp mirror book (said.Fop (signal.Alert kind)) = book
heard stamp mirror book (said.Fop signal.Started) = book
heard stamp mirror book (said.Farm verdict) = book
heard stamp mirror book (said.Received item) = received stamp mirror book item
heard stamp mirror book said.Lost = book
heard stamp mirror book (said.Transmitted frame) = book

-- a report of the spacecraft came down
abbrev pub tells_report : LinkIndication → Bool
tells_report (said.Fop i) = false
tells_report (said.Farm verdict) = false
tells_report (said.Received (report.Word word)) = false
tells_report (said.Received (report.Telemetry item)) = true
tells_report said.Lost = false
tells_report (said.Transmitted frame) = false

-- a report comes down alone, and else none does
abbrev pub ComesAlone : List LinkIndication → Type 0
ComesAlone all = (list_any tells_report all ≡ false) ⊎ ((item : Telemetry) × (all ≡ said.Received (report.Telemetry item) ∷ []))

-- all that the link told, in order
abbrev pub heard_all : Stamp → MirrorState → List LinkIndication → Book → Book
heard_all stamp mirror all book = fold (heard stamp mirror) book all
