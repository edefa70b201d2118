-- The on-board schedule at the desk, carried out on cases that were worked by hand: an insert is released with its activities, and
-- reports say what became of all.
use Rattle.std.proofs.Common.{◌≡◌, ℕ, true, false, Some, None, List, [], ◌∷◌, ◌++◌, drop, length, refl}
use Rattle.std.specs.Prelude.{codes}
use Rattle.std.specs.Fmt.{digits}
use Rattle.tc_types.specs.declared.link.activities.ListedActivity.{ListedActivity}
use Rattle.tc_types.specs.declared.requests.Form.{Form}
use Rattle.tc_types.specs.declared.requests.Command.{Command}
use Rattle.tc_types.specs.declared.requests.Command.TheVariants as command
use Rattle.tc_types.specs.declared.requests.Outcome.TheVariants.{Completes}
use Rattle.tc_types.specs.declared.history.places.Place.{Place}
use Rattle.tc_types.specs.declared.history.places.Place.TheVariants as place
use Rattle.tc_types.specs.declared.history.causes.Cause.TheVariants as cause
use Rattle.tc_types.specs.declared.link.frames.Frame.{Frame}
use Rattle.tc_types.specs.declared.refusals.Refusal.TheVariants as refusal
use Rattle.tc_types.specs.declared.link.reports.Report.{Report}
use Rattle.tc_types.specs.declared.link.reports.Report.TheVariants as report
use Rattle.tc_types.specs.declared.link.reports.Telemetry.TheVariants as telemetry
use Rattle.tc_types.specs.declared.link.reports.Verification.{Verification}
use Rattle.tc_types.specs.declared.link.reports.Verification.TheVariants as verification
use Rattle.tc_types.specs.declared.acts.LinkAct.{LinkAct}
use Rattle.tc_types.specs.declared.acts.LinkAct.TheVariants as link_act
use Rattle.tc_types.specs.declared.acts.Act.TheVariants as act
use Rattle.tc_fop.specs.declared.signals.Indication.TheVariants as signal
use Rattle.tc_world.specs.declared.events.LinkIndication.{LinkIndication}
use Rattle.tc_world.specs.declared.events.LinkIndication.TheVariants.{Fop, Received}
use Rattle.tc_world.specs.InFlight.{InFlight}
use Rattle.tc_board.specs.Mirror.{MirrorState, no_mirror}
use Rattle.tc_book.specs.declared.stamps.Stamp.{Stamp}
use Rattle.tc_book.specs.Book.{Book, empty_book, moved, want, with_entry}
use Rattle.tc_desk.specs.State.{State, new_desk}
use Rattle.tc_desk.specs.Acts.{acted, first_of, refusal_of}
use Rattle.tc_desk.specs.Asks.{mirror_by}
use Rattle.tc_desk.specs.Effects.{heard_all}
use Rattle.tc_desk.specs.Replies.{Reply, act_reply}

abbrev ann : Stamp
ann = record { by = codes "ann"; moment = 0 }

-- a request for process 5 that asks for its acceptance and its completion
abbrev entry : Command → Form
entry given = record {
  apid = 5;
  ack = record { acceptance = true; start = false; progress = false; completion = true };
  critical = false;
  command = given;
  outcome = Completes;
}

-- request 1 is plain, 2 inserts it, 3 deletes it, 4 resets the schedule, 5 is plain: all are approved
abbrev entered : Book
entered =
    with_entry ann (with_entry ann (with_entry ann (with_entry ann (with_entry ann empty_book (entry (command.Plain 8 1))) (entry (command.InsertActivities (record { target = 1; time = 1060 } ∷ []))))
    (entry (command.DeleteActivity 1))) (entry command.ResetSchedule)) (entry (command.Plain 8 1))

-- and 6 inserts 5 and 1, in this order
abbrev listing : Book
listing = with_entry ann entered (entry (command.InsertActivities (record { target = 5; time = 1100 } ∷ record { target = 1; time = 1060 } ∷ [])))

-- requests that stand there, one by one
abbrev standing_in : Book → List (ℕ × Place) → Book
standing_in book [] = book
standing_in book ((n, at) ∷ others) = moved ann (standing_in book others) (want n at cause.Report)

abbrev standing : List (ℕ × Place) → Book
standing places = standing_in entered places

-- a link with nothing in flight
abbrev idle : {T : Type 0} → InFlight T
idle = record { content = []; covered = 0 }

abbrev desk_of : Book → MirrorState → State (InFlight Frame) (InFlight Report)
desk_of book mirror = record (new_desk (record { window = 20; channel = 3; ring = None }) idle idle) { book = book; mirror = mirror }

-- request 1 as the mirror shows it, and 5
abbrev first_listed : ListedActivity
first_listed = record { request = 1; identity = record { apid = 5; count = 0 }; time = 1060 }

abbrev fifth_listed : ListedActivity
fifth_listed = record { request = 5; identity = record { apid = 5; count = 4 }; time = 1100 }

abbrev both_listed : MirrorState
both_listed = record { enabled = true; activities = fifth_listed ∷ first_listed ∷ [] }

-- the reply to an act on the link that told these
abbrev flown : Book → MirrorState → LinkAct → List LinkIndication → Reply
flown book mirror given all =
    act_reply (first_of (desk_of book mirror) (act.Link given) all) all (drop (length book.history) (heard_all ann mirror all (acted ann (act.Link given) book)).history)

-- a report on a request
abbrev reports : Verification → ℕ → ℕ → List LinkIndication
reports v n count = Received (report.Telemetry (telemetry.Verification v n (record { apid = 5; count = count }))) ∷ []

-- an insert is released, and its activity rides with it: its row is right behind
pub insert-released : flown (standing ((1, place.Approved) ∷ (2, place.Approved) ∷ [])) no_mirror (link_act.Release 2) (Fop (signal.Sent 2) ∷ []) ≡
    codes "ok" ∷ codes "move 8 0 ann 2 Approved Queued release" ∷ codes "move 9 0 ann 1 Approved Riding release" ∷ codes "move 10 0 ann 2 Queued Sent transmit" ∷ []
unfolding digits
insert-released = refl

-- what waits is given back with its activity, and what was sent is in doubt with it, where that rides
pub insert-returned :
    flown (standing ((1, place.Riding) ∷ (2, place.Queued) ∷ [])) no_mirror link_act.Tick (Fop (signal.GivenBack 2) ∷ [])
    ++ flown (standing ((1, place.Riding) ∷ (2, place.Sent) ∷ [])) no_mirror link_act.Tick (Fop (signal.InDoubt 2) ∷ [])
    ++ flown (standing ((1, place.Scheduled) ∷ (2, place.Sent) ∷ [])) no_mirror link_act.Tick (Fop (signal.InDoubt 2) ∷ []) ≡
    codes "ok" ∷ codes "move 8 0 ann 2 Queued Approved giveback" ∷ codes "move 9 0 ann 1 Riding Approved giveback"
    ∷ codes "ok" ∷ codes "move 8 0 ann 2 Sent Doubtful doubt" ∷ codes "move 9 0 ann 1 Riding Doubtful doubt"
    ∷ codes "ok" ∷ codes "move 8 0 ann 2 Sent Doubtful doubt" ∷ []
unfolding digits
insert-returned = refl

-- an insert that completes schedules its activity, one that fails fails it, and one that starts moves itself alone
pub insert-reported :
    flown (standing ((1, place.Riding) ∷ (2, place.Sent) ∷ [])) no_mirror link_act.Down (reports verification.Completed 2 1)
    ++ flown (standing ((1, place.Riding) ∷ (2, place.Sent) ∷ [])) no_mirror link_act.Down (reports (verification.StartFailed 2) 2 1)
    ++ flown (standing ((1, place.Riding) ∷ (2, place.Sent) ∷ [])) no_mirror link_act.Down (reports verification.Started 2 1) ≡
    codes "ok tm 1,7 5/1 step 0 code 0" ∷ codes "move 8 0 ann 2 Sent Completed report" ∷ codes "move 9 0 ann 1 Riding Scheduled insert"
    ∷ codes "ok tm 1,4 5/1 step 0 code 2" ∷ codes "move 8 0 ann 2 Sent Failed report" ∷ codes "move 9 0 ann 1 Riding Failed insert"
    ∷ codes "ok tm 1,3 5/1 step 0 code 0" ∷ codes "move 8 0 ann 2 Sent Started report" ∷ []
unfolding digits
insert-reported = refl

-- where the report's own row is not made, its activity's still is
pub late-insert : flown (standing ((1, place.Doubtful) ∷ (2, place.Closed) ∷ [])) no_mirror link_act.Down (reports verification.Completed 2 1) ≡
    codes "ok tm 1,7 5/1 step 0 code 0" ∷ codes "move 8 0 ann 1 Doubtful Scheduled insert" ∷ []
unfolding digits
late-insert = refl

-- an insert of two is released: a row for each of its activities, in its order
pub list-released : flown (standing_in listing ((1, place.Approved) ∷ (5, place.Approved) ∷ (6, place.Approved) ∷ [])) no_mirror (link_act.Release 6) (Fop (signal.Sent 6) ∷ []) ≡
    codes "ok" ∷ codes "move 10 0 ann 6 Approved Queued release" ∷ codes "move 11 0 ann 5 Approved Riding release" ∷ codes "move 12 0 ann 1 Approved Riding release"
    ∷ codes "move 13 0 ann 6 Queued Sent transmit" ∷ []
unfolding digits
list-released = refl

-- and given back, each by its own place: one that was closed meanwhile stays
pub list-returned :
    flown (standing_in listing ((1, place.Riding) ∷ (5, place.Riding) ∷ (6, place.Queued) ∷ [])) no_mirror link_act.Tick (Fop (signal.GivenBack 6) ∷ [])
    ++ flown (standing_in listing ((1, place.Riding) ∷ (5, place.Closed) ∷ (6, place.Queued) ∷ [])) no_mirror link_act.Tick (Fop (signal.GivenBack 6) ∷ []) ≡
    codes "ok" ∷ codes "move 10 0 ann 6 Queued Approved giveback" ∷ codes "move 11 0 ann 5 Riding Approved giveback" ∷ codes "move 12 0 ann 1 Riding Approved giveback"
    ∷ codes "ok" ∷ codes "move 10 0 ann 6 Queued Approved giveback" ∷ codes "move 11 0 ann 1 Riding Approved giveback" ∷ []
unfolding digits
list-returned = refl

-- where it completes, all that ride or are in doubt are scheduled; where it fails, they fail, and no other does
pub list-reported :
    flown (standing_in listing ((1, place.Riding) ∷ (5, place.Doubtful) ∷ (6, place.Sent) ∷ [])) no_mirror link_act.Down (reports verification.Completed 6 5)
    ++ flown (standing_in listing ((1, place.Riding) ∷ (5, place.Accepted) ∷ (6, place.Sent) ∷ [])) no_mirror link_act.Down (reports (verification.StartFailed 2) 6 5) ≡
    codes "ok tm 1,7 5/5 step 0 code 0" ∷ codes "move 10 0 ann 6 Sent Completed report" ∷ codes "move 11 0 ann 5 Doubtful Scheduled insert" ∷ codes "move 12 0 ann 1 Riding Scheduled insert"
    ∷ codes "ok tm 1,4 5/5 step 0 code 2" ∷ codes "move 10 0 ann 6 Sent Failed report" ∷ codes "move 11 0 ann 1 Riding Failed insert" ∷ []
unfolding digits
list-reported = refl

-- a delete that completes deletes its target
pub deleted-reported : flown (standing ((1, place.Scheduled) ∷ (3, place.Confirmed) ∷ [])) both_listed link_act.Down (reports verification.Completed 3 2) ≡
    codes "ok tm 1,7 5/2 step 0 code 0" ∷ codes "move 8 0 ann 3 Confirmed Completed report" ∷ codes "move 9 0 ann 1 Scheduled Deleted delete" ∷ []
unfolding digits
deleted-reported = refl

-- a reset that completes deletes what stood in the mirror and is scheduled, in order of number; what the mirror does not show stays
pub reset-reported :
    flown (standing ((1, place.Scheduled) ∷ (5, place.Scheduled) ∷ (4, place.Sent) ∷ [])) both_listed link_act.Down (reports verification.Completed 4 3)
    ++ flown (standing ((1, place.Scheduled) ∷ (5, place.Scheduled) ∷ (4, place.Sent) ∷ [])) (record both_listed { activities = fifth_listed ∷ [] }) link_act.Down (reports verification.Completed 4 3)
    ++ flown (standing ((1, place.Riding) ∷ (5, place.Accepted) ∷ (4, place.Sent) ∷ [])) both_listed link_act.Down (reports verification.Completed 4 3) ≡
    codes "ok tm 1,7 5/3 step 0 code 0" ∷ codes "move 9 0 ann 4 Sent Completed report" ∷ codes "move 10 0 ann 1 Scheduled Deleted reset" ∷ codes "move 11 0 ann 5 Scheduled Deleted reset"
    ∷ codes "ok tm 1,7 5/3 step 0 code 0" ∷ codes "move 9 0 ann 4 Sent Completed report" ∷ codes "move 10 0 ann 5 Scheduled Deleted reset"
    ∷ codes "ok tm 1,7 5/3 step 0 code 0" ∷ codes "move 9 0 ann 4 Sent Completed report" ∷ []
unfolding digits
reset-reported = refl

-- the mirror, as the command that flew says: an insert with the name and time of each activity, and a report of an activity takes it out
pub mirror-read :
    mirror_by entered (reports verification.Completed 2 1) no_mirror ∷ mirror_by listing (reports verification.Completed 6 5) no_mirror ∷ mirror_by entered (reports verification.Completed 4 3) both_listed
    ∷ mirror_by entered (reports verification.Accepted 5 4) both_listed ∷ mirror_by entered (reports (verification.StartFailed 2) 2 1) both_listed ∷ [] ≡
    record { enabled = false; activities = first_listed ∷ [] } ∷ record { enabled = false; activities = fifth_listed ∷ first_listed ∷ [] } ∷ no_mirror ∷ record { enabled = true; activities = first_listed ∷ [] } ∷ both_listed ∷ []
mirror-read = refl

-- the spacecraft's time does not go back
pub clock-refused :
    refusal_of ann (record (desk_of entered no_mirror) { board = record (desk_of entered no_mirror).board { time = 1000 } }) (act.Link (link_act.Clock 999))
    ∷ refusal_of ann (record (desk_of entered no_mirror) { board = record (desk_of entered no_mirror).board { time = 1000 } }) (act.Link (link_act.Clock 1000)) ∷ [] ≡
    Some refusal.BadDirective ∷ None ∷ []
clock-refused = refl
