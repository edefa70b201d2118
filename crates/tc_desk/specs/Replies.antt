-- The lines of a reply.
use Rattle.std.specs.Prelude.{◌≡◌, ℕ, nat_lt, Bool, IsPermutation, IsSortedBy, Option, Some, None, List, [], ◌∷◌, ◌++◌, drop, length, map, take, codes}
use Rattle.std.specs.List.{filter_map}
use Rattle.tc_types.specs.declared.link.frames.Frame.{Frame}
use Rattle.tc_types.specs.declared.history.moves.Move.{Move}
use Rattle.tc_types.specs.declared.history.places.Place.{Place}
use Rattle.tc_types.specs.declared.refusals.Refusal.{Refusal}
use Rattle.tc_types.specs.declared.link.reports.Report.{Report}
use Rattle.tc_types.specs.declared.requests.Request.{Request}
use Rattle.tc_types.specs.declared.link.activities.ListedActivity.{ListedActivity}
use Rattle.tc_types.specs.declared.acts.Query.{Query}
use Rattle.tc_types.specs.declared.acts.Query.TheVariants as query
use Rattle.tc_types.specs.History.{entered, counts_of, rows_past}
use Rattle.tc_types.specs.Lines.{entered_line, approvals_line, stack_line, history_line, move_line, places_line, refusal_line}
use Rattle.tc_types.specs.LinkLines.{accepted_line, word_line, verified_line, summarized_line, worked_line, time_line, mirror_line, activity_line}
use Rattle.tc_types.specs.RequestLine.{request_line}
use Rattle.tc_types.specs.ProcedureLines.{procedure_line, begun_line, execution_line, record_line}
use Rattle.tc_types.specs.declared.tables.rows.BegunExecution.{BegunExecution}
use Rattle.tc_types.specs.declared.tables.rows.LoadedProcedure.{LoadedProcedure}
use Rattle.tc_types.specs.declared.tables.rows.ProcedureStep.{ProcedureStep}
use Rattle.tc_types.specs.declared.waits.Waiting.{Waiting}
use Rattle.tc_types.specs.WaitingLines.{waiting_line, waiting_count_line}
use Rattle.tc_types.specs.ListLines.{moves_line, standing_line, named_line}
use Rattle.tc_types.specs.StepLines.{procedure_head_line, step_line}
use Rattle.tc_proc.specs.Logs.{LogState, execution_at, next_of, procedure_at, records_of, steps_of}
use Rattle.tc_report.specs.ShiftReport.{IsReport}
use Rattle.tc_world.specs.declared.events.LinkIndication.{LinkIndication}
use Rattle.tc_world.specs.Links.{Kind}
use Rattle.tc_board.specs.Schedule.{is_before}
use Rattle.tc_board.specs.Mirror.{MirrorState}
use Rattle.tc_book.specs.declared.firsts.First.{First as BookFirst}
use Rattle.tc_book.specs.declared.firsts.First.TheVariants as book_first
use Rattle.tc_book.specs.Book.{place_in, request_at}
use Rattle.tc_book.specs.Waiting.{standing_past, waiting_of}
use Rattle.tc_desk.specs.declared.firsts.FirstLine.{FirstLine}
use Rattle.tc_desk.specs.declared.firsts.FirstLine.TheVariants as first
use Rattle.tc_desk.specs.State.{State}
use Rattle.tc_urgent.specs.Pages.{ShowsUrgent}
use Rattle.tc_desk.specs.StatusLines.{premise_word, status_lines, status_of, told_line}

abbrev pub Reply : Type 0
Reply = List (List ℕ)

-- the reply that is a refusal
abbrev pub refusal_reply : Refusal → Reply
refusal_reply refusal = refusal_line refusal ∷ []

-- ok, or ok request N APID/COUNT, or ok approvals I of M, or ok stack NAME ROWS FIRST, or ok procedure NAME STEPS, or ok execution E
abbrev pub book_line : BookFirst → List ℕ
book_line book_first.Plain = codes "ok"
book_line (book_first.Entered n identity) = entered_line n identity
book_line (book_first.Approvals given wanted) = approvals_line given wanted
book_line (book_first.Loaded name rows first) = stack_line name rows first
book_line (book_first.ProcedureLoaded name steps) = procedure_line name steps
book_line (book_first.Begun execution) = begun_line execution

-- the same, or what came up, was lost, or came down
abbrev pub first_line : FirstLine → List ℕ
first_line (first.Book given) = book_line given
first_line first.Nothing = codes "ok nothing"
first_line (first.Accepted n) = accepted_line n
first_line first.Discarded = codes "ok discarded"
first_line first.Control = codes "ok control"
first_line first.Lost = codes "ok lost"
first_line (first.Word word) = word_line word
first_line (first.Verified verification identity) = verified_line verification identity
first_line (first.Summarized enabled count) = summarized_line enabled count
first_line (first.Worked identity) = worked_line identity
first_line (first.Now time) = time_line time

-- the reply to an act: its first line, a line for each start and alert that the link told, and one for each row that it made
abbrev pub act_reply : FirstLine → List LinkIndication → List Move → Reply
act_reply first all rows = first_line first ∷ filter_map told_line all ++ map move_line rows

-- how many rows a reply about a request's history shows at most
abbrev pub most_shown : ℕ
most_shown = 50

-- the lines about a request of which these rows are to be shown: how many are, and whether some were left out; then
-- these
abbrev pub history_lines : ℕ → List Move → Reply
history_lines n rows =
    history_line n (length (take most_shown rows)) (nat_lt most_shown (length rows)) ∷ map move_line (take most_shown rows)

-- the line about a request that stands there; nothing about one that nobody entered
abbrev pub request_lines : Option Request → Option Place → Reply
request_lines None at = []
request_lines (Some request) at = request_line request at ∷ []

-- the lines of a schedule whose activities are shown in this order
abbrev pub schedule_lines : Bool → List ListedActivity → Reply
schedule_lines enabled shown = mirror_line enabled (length shown) ∷ map (λ (a : ListedActivity). activity_line a.identity a.time) shown

-- the activities of a mirror are shown by time, application process and count
pub record ShowsSchedule (mirror : MirrorState) (told : Reply) : Type 0 where
  pub shown : List ListedActivity
  pub all : IsPermutation mirror.activities shown
  pub ordered : IsSortedBy (λ a b. is_before a.time a.identity b.time b.identity) shown
  pub reply : told ≡ schedule_lines mirror.enabled shown

-- the lines about an execution: which procedure it is of, and which step comes next; then what is recorded of it, in order
abbrev pub log_lines : LogState → Option BegunExecution → Reply
log_lines log None = []
log_lines log (Some x) = execution_line x.execution x.procedure (next_of log x) ∷ map record_line (records_of log x.execution)

-- the lines of what waits: how many there are, and these
abbrev pub waiting_lines : List Waiting → Reply
waiting_lines waiting = waiting_count_line (length waiting) ∷ map waiting_line waiting

-- the lines of moves of which the first fifty are shown
abbrev pub moves_lines : List Move → Reply
moves_lines rows = moves_line (length (take most_shown rows)) (nat_lt most_shown (length rows)) ∷ map move_line (take most_shown rows)

-- the line that names a request
abbrev pub named_request : Request → List ℕ
named_request r = named_line r.number r.body.identity

-- the lines of the requests at a place of which the first fifty are shown
abbrev pub standing_lines : Place → List Request → Reply
standing_lines place found = standing_line place (length (take most_shown found)) (nat_lt most_shown (length found)) ∷ map named_request (take most_shown found)

-- the lines of a procedure: who loaded it, and its steps in order
abbrev pub procedure_lines : Option LoadedProcedure → List ProcedureStep → Reply
procedure_lines None steps = []
procedure_lines (Some loaded) steps = procedure_head_line loaded (length steps) ∷ map step_line steps

-- the requests of the activities that the mirror has on board
abbrev pub requests_in : MirrorState → List ℕ
requests_in mirror = map (λ (a : ListedActivity). a.request) mirror.activities

-- The reply to a question. What is urgent is shown by some number of moves at the opening; which one it is a room tells.
abbrev pub Replies : {U D : Type 0} → Kind U Frame → Kind D Report → State U D → Query → Reply → Type 0
Replies up down at query.Places reply = reply ≡ places_line (length (entered at.book.history)) (counts_of at.book.history) ∷ []
Replies up down at (query.History n after) reply = reply ≡ history_lines n (rows_past n after at.book.history)
Replies up down at (query.Request n) reply = reply ≡ request_lines (request_at at.book n) (place_in at.book n)
Replies up down at query.Link reply = reply ≡ status_lines (status_of up down at)
Replies up down at query.Schedule reply = ShowsSchedule at.mirror reply
Replies up down at (query.Log execution) reply = reply ≡ log_lines at.book.log (execution_at at.book.log execution)
Replies up down at query.Waiting reply = reply ≡ waiting_lines (waiting_of at.book)
Replies up down at (query.Urgent from) reply = (opened : ℕ) × ShowsUrgent at.book opened (requests_in at.mirror) from reply
Replies up down at (query.Moves after) reply = reply ≡ moves_lines (drop after at.book.history)
Replies up down at (query.Standing place after) reply = reply ≡ standing_lines place (standing_past at.book place after)
Replies up down at (query.Steps procedure) reply = reply ≡ procedure_lines (procedure_at at.book.log procedure) (steps_of at.book.log procedure)
Replies up down at (query.Report from to) reply = IsReport (premise_word at.world.clean) (counts_of at.book.history) at.book.history from to reply
