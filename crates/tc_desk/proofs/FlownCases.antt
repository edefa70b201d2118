-- What the link tells, carried out on cases that were worked by hand: a request is released, control words and reports come
-- down, and the service stops at its limit.
use Rattle.std.proofs.Common.{◌≡◌, ℕ, ◌+◌, true, false, Option, Some, None, List, [], ◌∷◌, ◌++◌, drop, length, refl}
use Rattle.std.specs.Prelude.{codes}
use Rattle.std.specs.Fmt.{digits}
use Rattle.tc_types.specs.declared.requests.Form.{Form}
use Rattle.tc_types.specs.declared.requests.Command.TheVariants.{Plain, InsertActivities}
use Rattle.tc_types.specs.declared.requests.Outcome.TheVariants.{Completes}
use Rattle.tc_types.specs.declared.history.places.Place.TheVariants.{Approved, Queued, Sent, Withdrawn}
use Rattle.tc_types.specs.declared.history.causes.Cause.TheVariants as cause
use Rattle.tc_types.specs.declared.refusals.Refusal.TheVariants as refusal
use Rattle.tc_types.specs.declared.link.reports.Report.TheVariants as report
use Rattle.tc_types.specs.declared.link.reports.Telemetry.TheVariants as telemetry
use Rattle.tc_types.specs.declared.link.reports.Verification.TheVariants as verification
use Rattle.tc_types.specs.declared.link.telecommands.Task.TheVariants as task
use Rattle.tc_board.specs.Mirror.{no_mirror}
use Rattle.tc_types.specs.declared.acts.LinkAct.{LinkAct}
use Rattle.tc_types.specs.declared.acts.LinkAct.TheVariants as link_act
use Rattle.tc_types.specs.declared.acts.Act.TheVariants as act
use Rattle.tc_farm.specs.declared.farms.FarmState.TheVariants.{Open}
use Rattle.tc_farm.specs.declared.farms.FrameVerdict.TheVariants as verdict
use Rattle.tc_fop.specs.declared.signals.AlertKind.TheVariants as alert
use Rattle.tc_fop.specs.declared.signals.FopState.TheVariants.{Active, Initial}
use Rattle.tc_fop.specs.declared.signals.Indication.TheVariants as signal
use Rattle.tc_fop.specs.declared.views.FopView.{FopView}
use Rattle.tc_world.specs.declared.events.LinkIndication.{LinkIndication}
use Rattle.tc_world.specs.declared.events.LinkIndication.TheVariants.{Fop, Farm, Received, Lost}
use Rattle.tc_book.specs.declared.stamps.Stamp.{Stamp}
use Rattle.tc_book.specs.Acts.{first_refusal}
use Rattle.tc_book.specs.Book.{Book, empty_book, moved, want, with_entry}
use Rattle.tc_types.specs.declared.link.frames.Frame.{Frame}
use Rattle.tc_types.specs.declared.link.reports.Report.{Report}
use Rattle.tc_world.specs.InFlight.{InFlight}
use Rattle.tc_desk.specs.State.{State, new_desk}
use Rattle.tc_desk.specs.Acts.{link_tests, acted, first_of}
use Rattle.tc_desk.specs.Effects.{heard_all}
use Rattle.tc_desk.specs.StatusLines.{status_lines}
use Rattle.tc_desk.specs.Replies.{Reply, act_reply}

abbrev pub ann : Stamp
ann = record { by = codes "ann"; moment = 0 }

abbrev pub entry : Form
entry = record {
  apid = 5;
  ack = record { acceptance = true; start = false; progress = false; completion = false };
  critical = false;
  command = Plain 8 1;
  outcome = Completes;
}

-- a link with nothing in flight
abbrev pub idle : {T : Type 0} → InFlight T
idle = record { content = []; covered = 0 }

-- a desk with this book, over a link where nothing happened yet
abbrev desk_of : Book → State (InFlight Frame) (InFlight Report)
desk_of book = record (new_desk (record { window = 20; channel = 3; ring = None }) idle idle) { book = book }

-- a book with so many requests, each by ann
abbrev with_two : Book
with_two = with_entry ann (with_entry ann empty_book entry) entry

abbrev with_four : Book
with_four = with_entry ann (with_entry ann with_two entry) entry

-- a request is approved, and leaves the desk
abbrev approved : ℕ → Book → Book
approved n book = moved ann book (want n Approved cause.Approve)

abbrev queued : ℕ → Book → Book
queued n book = moved ann (approved n book) (want n Queued cause.Release)

abbrev sent : ℕ → Book → Book
sent n book = moved ann (queued n book) (want n Sent cause.Transmit)

-- the reply to an act on the link that told these
abbrev flown : Book → LinkAct → List LinkIndication → Reply
flown book given all =
    act_reply (first_of (desk_of book) (act.Link given) all) all (drop (length book.history) (heard_all ann no_mirror all (acted ann (act.Link given) book)).history)

-- a released request is sent at once
pub release-replied : flown (approved 1 with_two) (link_act.Release 1) (Fop (signal.Sent 1) ∷ []) ≡
    codes "ok" ∷ codes "move 4 0 ann 1 Approved Queued release" ∷ codes "move 5 0 ann 1 Queued Sent transmit" ∷ []
unfolding digits
release-replied = refl

-- the frame is taken on board, or is not, or was a control command
pub up-replied : flown (sent 1 with_two) link_act.Up (Farm (verdict.Accepted 1 (record { identity = record { apid = 5; count = 0 }; ack = entry.ack; task = task.Plain entry.outcome })) ∷ [])
    ++ flown (sent 1 with_two) link_act.Up (Farm verdict.Discarded ∷ []) ++ flown (sent 1 with_two) link_act.Up (Farm verdict.Control ∷ []) ++ flown (sent 1 with_two) link_act.Up [] ≡
    codes "ok accepted 1" ∷ codes "ok discarded" ∷ codes "ok control" ∷ codes "ok nothing" ∷ []
unfolding digits
up-replied = refl

-- a loss
pub loss-replied : flown (sent 1 with_two) (link_act.LoseUp 0) (Lost ∷ []) ++ flown (sent 1 with_two) (link_act.LoseDown 7) [] ≡ codes "ok lost" ∷ codes "ok nothing" ∷ []
unfolding digits
loss-replied = refl

-- a report overtakes the confirmation, which then moves nothing
pub late-replied : flown (sent 1 with_two) link_act.Down (Received (report.Telemetry (telemetry.Verification verification.Accepted 1 (record { apid = 5; count = 0 }))) ∷ []) ≡
    codes "ok tm 1,1 5/0 step 0 code 0" ∷ codes "move 6 0 ann 1 Sent Accepted report" ∷ []
unfolding digits
late-replied = refl

-- 0x010c0001
abbrev one_expected : ℕ
one_expected = 17563649

abbrev after_report : Book
after_report = heard_all ann no_mirror (Received (report.Telemetry (telemetry.Verification verification.Accepted 1 (record { apid = 5; count = 0 }))) ∷ []) (sent 1 with_two)

pub late-word : flown after_report link_act.Down (Received (report.Word one_expected) ∷ Fop (signal.Confirmed 1) ∷ []) ≡ codes "ok clcw 010c0001" ∷ []
unfolding digits
late-word = refl

-- the service stops at its limit: the first line, the alert, then the moves
pub limit-replied : flown (queued 4 (sent 3 (sent 2 (sent 1 with_four)))) link_act.Down
    (Received (report.Word (one_expected + 2048)) ∷ Fop (signal.Confirmed 1) ∷ Fop (signal.InDoubt 2) ∷ Fop (signal.InDoubt 3) ∷ Fop (signal.GivenBack 4) ∷ Fop (signal.Alert alert.Limit) ∷ []) ≡
    codes "ok clcw 010c0801"
    ∷ codes "alert LIMIT"
    ∷ codes "move 16 0 ann 1 Sent Confirmed confirm"
    ∷ codes "move 17 0 ann 2 Sent Doubtful doubt"
    ∷ codes "move 18 0 ann 3 Sent Doubtful doubt"
    ∷ codes "move 19 0 ann 4 Queued Approved giveback"
    ∷ []
unfolding digits
limit-replied = refl

-- ---- refusals, in their order

abbrev view : FopView
view = record { state = Active; vs = 0; nn = 0; sent = 0; waiting = 0; count = 1; timer = 0; k = 10; t1 = 10; limit = 3 }

-- an insert that is approved, as the first of its activities is, and the second is not
abbrev inserting : Book
inserting = approved 3 (approved 1 (with_entry ann with_two (record entry { command = InsertActivities (record { target = 1; time = 100 } ∷ record { target = 2; time = 100 } ∷ []) })))

abbrev refused : Book → FopView → ℕ → Option refusal.the_data
refused book fop n = first_refusal (link_tests book fop 10 0 (link_act.Release n))

pub release-refused :
    refused with_two (record view { state = Initial }) 3 ∷ refused with_two (record view { state = Initial }) 1
    ∷ refused (moved ann with_two (want 1 Withdrawn cause.Withdraw)) (record view { state = Initial }) 1
    ∷ refused inserting (record view { state = Initial }) 3
    ∷ refused (approved 1 with_two) (record view { state = Initial; waiting = 1 }) 1
    ∷ refused (approved 1 with_two) (record view { waiting = 1 }) 1
    ∷ refused (approved 1 with_two) view 1 ∷ [] ≡
    Some refusal.UnknownRequest ∷ Some refusal.NotApproved ∷ Some refusal.WrongPlace ∷ Some refusal.BadActivity ∷ Some refusal.ServiceNotActive ∷ Some refusal.WaitQueueFull ∷ None ∷ []
release-refused = refl

-- ---- how the link stands

-- after a start over a side that does not agree
pub status-told : status_lines (record {
  fop = record view { vs = 8; nn = 8 };
  farm = record { state = Open; vr = 10; farm_b = 1; lockout = false; wait = false; retransmit = false; window = 20 };
  up = 0;
  down = 0;
  clean = false;
}) ≡
    codes "fop S1 vs 8 nn 8 sent 0 wait 0 count 1 timer 0 k 10 t1 10 limit 3"
    ∷ codes "farm Open vr 10 b 1 flags --- w 20"
    ∷ codes "link up 0 down 0 premise broken"
    ∷ []
unfolding digits
status-told = refl
