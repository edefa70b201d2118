-- The definitions carried out on cases that were worked by hand: two requests are entered, one is withdrawn, and the
-- counts and a history are asked for; and requests are told and closed.
use Rattle.std.proofs.Common.{◌≡◌, ℕ, true, false, Option, Some, None, List, [], ◌∷◌, ◌++◌, map, drop, length, refl}
use Rattle.std.specs.Prelude.{codes}
use Rattle.std.specs.Fmt.{digits}
use Rattle.tc_types.specs.declared.requests.Form.{Form}
use Rattle.tc_types.specs.declared.requests.Command.TheVariants.{Plain}
use Rattle.tc_types.specs.declared.requests.Outcome.TheVariants.{Completes}
use Rattle.tc_types.specs.declared.history.places.Place.TheVariants.{Approved, Queued, Sent, Confirmed}
use Rattle.tc_types.specs.declared.history.causes.Cause.TheVariants as cause
use Rattle.tc_types.specs.declared.refusals.Refusal.{Refusal}
use Rattle.tc_types.specs.declared.acts.Line.{Line}
use Rattle.tc_types.specs.declared.acts.BookAct.TheVariants.{Close, Enter, Withdraw}
use Rattle.tc_types.specs.declared.acts.Act.{Act}
use Rattle.tc_types.specs.declared.acts.Act.TheVariants as act
use Rattle.tc_types.specs.declared.acts.Query.{Query}
use Rattle.tc_types.specs.declared.acts.Query.TheVariants as query
use Rattle.tc_types.specs.History.{entered, counts_of, rows_past}
use Rattle.tc_types.specs.Lines.{places_line}
use Rattle.tc_types.specs.ActGrammar.{line_text}
use Rattle.tc_proc.specs.Logs.{execution_at, procedure_at, steps_of}
use Rattle.tc_book.specs.declared.stamps.Stamp.{Stamp}
use Rattle.tc_types.specs.declared.link.frames.Frame.{Frame}
use Rattle.tc_types.specs.declared.link.reports.Report.{Report}
use Rattle.tc_book.specs.Book.{Book, empty_book, moved, place_in, request_at, want, with_entry}
use Rattle.tc_book.specs.Waiting.{standing_past, waiting_of}
use Rattle.tc_world.specs.InFlight.{InFlight, listed}
use Rattle.tc_desk.specs.State.{State, new_desk}
use Rattle.tc_desk.specs.Acts.{refusal_of, acted, first_of}
use Rattle.tc_desk.specs.Machine.{stamp_of}
use Rattle.tc_desk.specs.StatusLines.{status_lines, status_of}
use Rattle.tc_desk.specs.Replies.{Reply, Replies, act_reply, history_lines, request_lines, log_lines, waiting_lines, moves_lines, standing_lines, procedure_lines, refusal_reply}

abbrev first_entry : Form
first_entry = record {
  apid = 5;
  ack = record { acceptance = true; start = false; progress = false; completion = true };
  critical = false;
  command = Plain 8 1;
  outcome = Completes;
}

abbrev line : ℕ → List ℕ → Act → Line
line moment by given = record { moment = moment; by = by; act = given }

abbrev first_run : List Line
first_run =
    line 100 (codes "ann") (act.Book (Enter first_entry))
    ∷ line 110 (codes "bob") (act.Book (Enter (record first_entry { command = Plain 8 2 })))
    ∷ line 120 (codes "ann") (act.Book (Withdraw 1))
    ∷ line 130 (codes "ann") (act.Ask query.Places)
    ∷ line 130 (codes "ann") (act.Ask (query.History 1 0))
    ∷ []

-- a link with nothing in flight
abbrev idle : {T : Type 0} → InFlight T
idle = record { content = []; covered = 0 }

-- a desk with this book, over a link where nothing happened yet
abbrev desk_of : Book → State (InFlight Frame) (InFlight Report)
desk_of book = record (new_desk (record { window = 20; channel = 3; ring = None }) idle idle) { book = book }

-- the reply to a question, where it is neither of the schedule nor of what is urgent, nor a report
abbrev told : Book → Query → Reply
told book query.Places = places_line (length (entered book.history)) (counts_of book.history) ∷ []
told book (query.History n after) = history_lines n (rows_past n after book.history)
told book (query.Request n) = request_lines (request_at book n) (place_in book n)
told book query.Link = status_lines (status_of listed listed (desk_of book))
told book query.Schedule = []
told book (query.Log execution) = log_lines book.log (execution_at book.log execution)
told book (query.Report from to) = []
told book query.Waiting = waiting_lines (waiting_of book)
told book (query.Urgent from) = []
told book (query.Moves after) = moves_lines (drop after book.history)
told book (query.Standing place after) = standing_lines place (standing_past book place after)
told book (query.Steps procedure) = procedure_lines (procedure_at book.log procedure) (steps_of book.log procedure)

told-replies : (book : Book) (asked : Query) → (asked ≡ query.Schedule → ⊥) → ((from to : ℕ) → asked ≡ query.Report from to → ⊥) → ((from : ℕ) → asked ≡ query.Urgent from → ⊥) → Replies listed listed (desk_of book) asked (told book asked)
told-replies book query.Places other no_report no_urgent = refl
told-replies book (query.History n after) other no_report no_urgent = refl
told-replies book (query.Request n) other no_report no_urgent = refl
told-replies book query.Link other no_report no_urgent = refl
told-replies book query.Schedule other no_report no_urgent = absurd (other refl)
told-replies book (query.Log execution) other no_report no_urgent = refl
told-replies book (query.Report from to) other no_report no_urgent = absurd (no_report from to refl)
told-replies book query.Waiting other no_report no_urgent = refl
told-replies book (query.Urgent from) other no_report no_urgent = absurd (no_urgent from refl)
told-replies book (query.Moves after) other no_report no_urgent = refl
told-replies book (query.Standing place after) other no_report no_urgent = refl
told-replies book (query.Steps procedure) other no_report no_urgent = refl

-- the reply where no test holds
abbrev served : Book → Stamp → Act → Reply
served book stamp (act.Ask asked) = told book asked
served book stamp given = act_reply (first_of (desk_of book) given []) [] (drop (length book.history) (acted stamp given book).history)

-- a line's reply, and the book after it, where memory is not refused
abbrev step : Option Refusal → Book → Stamp → Act → Reply × Book
step (Some refusal) book stamp given = (refusal_reply refusal, book)
step None book stamp given = (served book stamp given, acted stamp given book)

abbrev step_of : Book → Line → Reply × Book
step_of book given = step (refusal_of (stamp_of given) (desk_of book) given.act) book (stamp_of given) given.act

-- the lines of the replies
abbrev replies_to : Book → List Line → Reply
replies_to book [] = []
replies_to book (given ∷ others) = (step_of book given).0 ++ replies_to (step_of book given).1 others

pub first_run-spelled : map line_text first_run ≡
    codes "100 ann enter 5 a--c no 8 1 - - ok"
    ∷ codes "110 bob enter 5 a--c no 8 2 - - ok"
    ∷ codes "120 ann withdraw 1"
    ∷ codes "130 ann places"
    ∷ codes "130 ann history 1 0"
    ∷ []
unfolding digits
first_run-spelled = refl

pub first_run-replies : replies_to empty_book (first_run ++ line 0 (codes "ann") (act.Ask query.Places) ∷ []) ≡
    codes "ok request 1 5/0"
    ∷ codes "move 1 100 ann 1 - Entered enter"
    ∷ codes "ok request 2 5/1"
    ∷ codes "move 2 110 bob 2 - Entered enter"
    ∷ codes "ok"
    ∷ codes "move 3 120 ann 1 Entered Withdrawn withdraw"
    ∷ codes "places 2: 1 0 0 0 0 0 0 0 0 0 0 0 1 0 0"
    ∷ codes "history 1: 2"
    ∷ codes "move 1 100 ann 1 - Entered enter"
    ∷ codes "move 3 120 ann 1 Entered Withdrawn withdraw"
    ∷ codes "places 2: 1 0 0 0 0 0 0 0 0 0 0 0 1 0 0"
    ∷ []
unfolding digits
first_run-replies = refl

pub empty-replies : replies_to empty_book (line 0 (codes "ann") (act.Ask query.Places) ∷ []) ≡ codes "places 0: 0 0 0 0 0 0 0 0 0 0 0 0 0 0 0" ∷ []
unfolding digits
empty-replies = refl

-- what the desk itself does
abbrev by_desk : Stamp
by_desk = record { by = codes "desk"; moment = 115 }

-- one request, which stands at Entered
abbrev entered_book : Book
entered_book = with_entry (record { by = codes "ann"; moment = 100 }) empty_book first_entry

-- the same request at Confirmed
abbrev confirmed_book : Book
confirmed_book =
    moved by_desk (moved by_desk (moved by_desk (moved by_desk entered_book (want 1 Approved cause.Approve)) (want 1 Queued cause.Release)) (want 1 Sent cause.Transmit)) (want 1 Confirmed cause.Confirm)

-- requests are asked for, and closed
abbrev closing : List Line
closing =
    line 120 (codes "bob") (act.Ask (query.Request 1))
    ∷ line 120 (codes "bob") (act.Ask (query.Request 2))
    ∷ line 120 (codes "bob") (act.Book (Close 1))
    ∷ line 120 (codes "bob") (act.Book (Close 1))
    ∷ line 120 (codes "bob") (act.Book (Close 2))
    ∷ line 120 (codes "bob") (act.Ask (query.Request 1))
    ∷ []

pub entered-closing : replies_to entered_book closing ≡
    codes "request 1 5/0 8/1 a--c no - - ok ann Entered"
    ∷ codes "refused 2 UnknownRequest"
    ∷ codes "refused 3 WrongPlace"
    ∷ codes "refused 3 WrongPlace"
    ∷ codes "refused 2 UnknownRequest"
    ∷ codes "request 1 5/0 8/1 a--c no - - ok ann Entered"
    ∷ []
unfolding digits
entered-closing = refl

pub confirmed-closing : replies_to confirmed_book closing ≡
    codes "request 1 5/0 8/1 a--c no - - ok ann Confirmed"
    ∷ codes "refused 2 UnknownRequest"
    ∷ codes "ok"
    ∷ codes "move 6 120 bob 1 Confirmed Closed close"
    ∷ codes "refused 3 WrongPlace"
    ∷ codes "refused 2 UnknownRequest"
    ∷ codes "request 1 5/0 8/1 a--c no - - ok ann Closed"
    ∷ []
unfolding digits
confirmed-closing = refl
