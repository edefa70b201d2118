-- What is open, most urgent first, each line with what the board says beside it.
use Rattle.std.specs.Prelude.{◌≡◌, ◌⊎◌, ℕ, ◌==◌, ◌&&◌, Bool, false, count_by, if◌then◌else◌, is_none, is_some, Option, Some, None, List, [], ◌∷◌, map}
use Rattle.std.specs.List.{find}
use Rattle.std.specs.Option.{option_map, option_map_or}
use Rattle.tc_types.specs.declared.history.places.Place.TheVariants.{Scheduled}
use Rattle.tc_types.specs.declared.link.activities.ListedActivity.{ListedActivity}
use Rattle.tc_types.specs.declared.requests.Request.{Request}
use Rattle.tc_types.specs.declared.tables.rows.ProcedureStep.{ProcedureStep}
use Rattle.tc_types.specs.declared.waits.Waiting.{Waiting}
use Rattle.tc_types.specs.declared.waits.Waiting.TheVariants as waiting
use Rattle.tc_types.specs.Names.{is_same_name}
use Rattle.tc_book.specs.Book.{Book, request_at}
use Rattle.tc_book.specs.Waiting.{standing_past, waiting_of}
use Rattle.tc_urgent.specs.declared.kinds.UrgentKind.TheVariants.{Approval, StepDue}
use Rattle.tc_urgent.specs.declared.lines.UrgentLine.{UrgentLine}
use Rattle.tc_urgent.specs.Kinds.{urgency}
use Rattle.tc_urgent.specs.Laws.{TellsSo}
use Rattle.tc_wall.specs.declared.walls.Live.{Live}
use Rattle.tc_wall.specs.declared.walls.UrgentRow.{UrgentRow}

-- ---- what a line waits for

-- a line is of this stack
abbrev pub is_of_stack : List ℕ → Option (List ℕ) → Bool
is_of_stack name None = false
is_of_stack name (Some stack) = is_same_name stack name

-- What waits is what a line is of: the request with its number, the stack of a line that waits for approval, or the execution.
abbrev pub is_about : UrgentLine → Waiting → Bool
is_about line (waiting.Request n approval) = is_some line.on_board && n == line.number
is_about line (waiting.Stack stack approval rows first) = urgency line.kind == urgency Approval && is_of_stack stack line.stack
is_about line (waiting.Free n) = is_some line.on_board && n == line.number
is_about line (waiting.Locked n lock) = is_some line.on_board && n == line.number
is_about line (waiting.Doubtful n) = is_some line.on_board && n == line.number
is_about line (waiting.Step execution procedure step is_countersigned) = is_none line.on_board && execution == line.number

-- the text of the step of a procedure with this number
abbrev pub step_text : List ProcedureStep → List ℕ → ℕ → Option (List ℕ)
step_text steps procedure number = option_map (λ (s : ProcedureStep). s.text) (find (λ (s : ProcedureStep). s.step == number && is_same_name s.procedure procedure) steps)

-- where an execution waits for a step: its text
abbrev pub text_of : List ProcedureStep → Option Waiting → Option (List ℕ)
text_of steps (Some (waiting.Step execution procedure step is_countersigned)) = step_text steps procedure step
text_of steps other = None

-- ---- what is critical

-- the request of a line; an execution has none
abbrev pub request_of : Book → UrgentLine → Option Request
request_of book line = if is_some line.on_board then request_at book line.number else None

-- A line of one request is critical if that is. One that waits for approval with its stack is if the stack is.
abbrev pub is_critical : Book → UrgentLine → Option Waiting → Bool
is_critical book line (Some (waiting.Stack stack approval rows first)) = approval.critical
is_critical book line other = line.same == 0 && option_map_or (λ (r : Request). r.critical) (request_of book line) false

-- ---- rows

abbrev pub row_with : Book → UrgentLine → Option Waiting → UrgentRow
row_with book line waits = record { line = line; critical = is_critical book line waits; waiting = waits; text = text_of book.log.steps waits }

-- a line, with what it waits for
abbrev pub row_of : Book → UrgentLine → UrgentRow
row_of book line = row_with book line (find (is_about line) (waiting_of book))

-- a line is of an execution, or what it says of its request is so
abbrev pub SaysSo : Book → UrgentLine → Type 0
SaysSo book line = (line.kind ≡ StepDue) ⊎ ((r : Request) × (r.number ≡ line.number) × TellsSo book r line.kind)

-- how many of these lines have this rank, for each rank
abbrev pub count_of : List UrgentLine → ℕ → ℕ
count_of lines rank = count_by (λ (line : UrgentLine). urgency line.kind == rank) lines

abbrev pub counts_of : List UrgentLine → List ℕ
counts_of lines = map (count_of lines) (1 ∷ 2 ∷ 3 ∷ 4 ∷ 5 ∷ 6 ∷ 7 ∷ 8 ∷ 9 ∷ 10 ∷ [])

-- ---- which requests are on board

-- those of the activities that the board shows
abbrev pub scheduled_on : Option Live → List ℕ
scheduled_on None = []
scheduled_on (Some live) = map (λ (a : ListedActivity). a.request) live.schedule.activities.now

-- no mirror tells of a file that nobody has open: each request at Scheduled counts as on board
abbrev pub scheduled_in : Book → List ℕ
scheduled_in book = map (λ (r : Request). r.number) (standing_past book Scheduled 0)
