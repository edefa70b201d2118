-- What waits for a person, and which requests stand at a place.
use Rattle.std.specs.Prelude.{◌≡◌, ℕ, ◌==◌, ◌&&◌, Bool, true, false, nat_lt, is_none, if◌then◌else◌, IsSomeAnd, Option, Some, None, List, [], ◌∷◌, ◌++◌, count_by, drop, filter, slice_get}
use Rattle.std.specs.List.{filter_map, list_any}
use Rattle.std.specs.Option.{option_and_then, option_map, option_or}
use Rattle.tc_types.specs.declared.history.places.Place.{Place}
use Rattle.tc_types.specs.declared.history.places.Place.TheVariants.{Entered, Approved, Doubtful}
use Rattle.tc_types.specs.declared.requests.Request.{Request}
use Rattle.tc_types.specs.declared.requests.Origin.{Origin}
use Rattle.tc_types.specs.declared.tables.rows.BegunExecution.{BegunExecution}
use Rattle.tc_types.specs.Schedule.{inserted}
use Rattle.tc_stack.specs.Approvals.{ApprovalState}
use Rattle.tc_proc.specs.Logs.{LogState, state_of}
use Rattle.tc_proc.specs.Executions.{next_step, is_next_countersigned}
use Rattle.tc_types.specs.declared.waits.Wanting.{Wanting}
use Rattle.tc_types.specs.declared.waits.Waiting.{Waiting}
use Rattle.tc_types.specs.declared.waits.Waiting.TheVariants as waiting
use Rattle.tc_types.specs.declared.waits.Lock.{Lock}
use Rattle.tc_book.specs.Book.{Book, place_in, request_at, stands, approval_of}
use Rattle.tc_book.specs.Stacks.{is_in_stack, stack_approval_at, is_interlocked}

-- ---- approvals

-- how far an approval has come that is not complete: then one person approved at most
abbrev pub wanting_of : ApprovalState → Wanting
wanting_of s = record { author = s.author; critical = s.critical; by = slice_get s.persons 0 }

-- a request is on line 1 of this stack
abbrev pub BeginsStack : List ℕ → Request → Type 0
BeginsStack name r = IsSomeAnd r.origin (λ (o : Origin). (o.line ≡ 1) × (o.stack ≡ name))

-- a request is a row of this stack, and stands at Entered
abbrev pub is_entered_row : Book → List ℕ → Request → Bool
is_entered_row book name r = is_in_stack name r && stands book r.number (Entered ∷ [])

-- how many rows of a stack do
abbrev pub entered_rows : Book → List ℕ → ℕ
entered_rows book name = count_by (is_entered_row book name) book.requests

-- a stack waits for approval where a row of it stands at Entered
abbrev pub stack_waiting : ℕ → List ℕ → ℕ → ApprovalState → Option Waiting
stack_waiting n name rows s = if nat_lt 0 rows then Some (waiting.Stack name (wanting_of s) rows n) else None

-- what is said of a stack on its line 1, which is request n
abbrev pub begun_waits : Book → ℕ → Origin → Option Waiting
begun_waits book n origin =
    if origin.line == 1 then option_and_then (stack_waiting n origin.stack (entered_rows book origin.stack)) (stack_approval_at book origin.stack) else None

-- ---- interlocks

-- the line that has to be completed before a row of a stack is released, if there is one
abbrev pub lock_in : Origin → Option Lock
lock_in origin = option_map (λ line. (let lock : Lock = record { stack = origin.stack; line = line } in lock)) origin.after

-- what holds request n back
abbrev pub lock_of : Book → ℕ → Option Lock
lock_of book n = if is_interlocked book n then option_and_then (λ (r : Request). option_and_then lock_in r.origin) (request_at book n) else None

-- what holds the first of these requests back that is held back
abbrev pub first_lock_of : Book → List ℕ → Option Lock
first_lock_of book numbers = slice_get (filter_map (lock_of book) numbers) 0

-- what holds a request back first: itself, or an activity that it inserts
abbrev pub first_lock : Book → Request → Option Lock
first_lock book r = first_lock_of book (r.number ∷ inserted r.body.command)

-- a request is held back, or an activity that it inserts is
abbrev pub is_locked : Book → Request → Bool
is_locked book r = list_any (is_interlocked book) (r.number ∷ inserted r.body.command)

abbrev pub released_when : ℕ → Option Lock → Waiting
released_when n None = waiting.Free n
released_when n (Some lock) = waiting.Locked n lock

-- ---- what waits

-- a request that stands here; one that came with a stack waits for approval with it
abbrev pub waits_at : Book → Request → Option Place → Option Waiting
waits_at book r (Some Entered) = if is_none r.origin then Some (waiting.Request r.number (wanting_of (approval_of book.approvals r))) else None
waits_at book r (Some Approved) = Some (released_when r.number (first_lock book r))
waits_at book r (Some Doubtful) = Some (waiting.Doubtful r.number)
waits_at book r other = None

-- a stack waits on its line 1; else a request by where it stands
abbrev pub request_waits : Book → Request → Option Waiting
request_waits book r = option_or (option_and_then (begun_waits book r.number) r.origin) (waits_at book r (place_in book r.number))

-- an execution that has not ended waits for its next step
abbrev pub execution_waits : LogState → BegunExecution → Option Waiting
execution_waits log x = option_map (λ step. waiting.Step x.execution x.procedure step (is_next_countersigned (state_of log x))) (next_step (state_of log x))

-- what waits for a person: requests and stacks by number, then executions
abbrev pub waiting_of : Book → List Waiting
waiting_of book = filter_map (request_waits book) book.requests ++ filter_map (execution_waits book.log) book.log.executions

-- ---- the requests at a place

-- those with a greater number than this that stand there, in order
abbrev pub standing_past : Book → Place → ℕ → List Request
standing_past book place after = filter (λ (r : Request). stands book r.number (place ∷ [])) (drop after book.requests)

-- ---- what is told of interlocks

-- request n stands at Approved, and whether it or an activity that it inserts is held back is this
abbrev pub IsApprovedAnd : Book → ℕ → Bool → Type 0
IsApprovedAnd book n locked = IsSomeAnd (request_at book n) (λ (r : Request). (stands book n (Approved ∷ []) ≡ true) × (is_locked book r ≡ locked))

-- who is told to be free is not held back, nor is an activity of it; who is told to be locked is, or one of them is
abbrev pub TellsLocks : Book → Waiting → Type 0
TellsLocks book (waiting.Free n) = IsApprovedAnd book n false
TellsLocks book (waiting.Locked n lock) = IsApprovedAnd book n true
TellsLocks book other = Unit {0}
