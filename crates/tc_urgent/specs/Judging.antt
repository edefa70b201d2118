-- Which kind of line a request has: by where it stands, the locks of its stack, the open inserts, and the mirror.
use Rattle.std.specs.Prelude.{◌≡◌, ℕ, ◌-◌, ◌==◌, ◌&&◌, ◌||◌, Bool, true, false, not, nat_lt, zero, suc, if◌then◌else◌, Option, Some, None, List, [], ◌∷◌, fold, length, slice_get, slice_index_or, ◌<◌, ◌+◌}
use Rattle.std.specs.List.{filter_map, find, list_any}
use Rattle.std.specs.Option.{option_and_then, option_map, option_map_or}
use Rattle.tc_types.specs.declared.history.places.Place.{Place}
use Rattle.tc_types.specs.declared.history.places.Place.TheVariants.{Entered, Approved, Queued, Sent, Confirmed, Riding, Scheduled, Accepted, Started, Completed, Failed, Doubtful, Withdrawn, Deleted, Closed}
use Rattle.tc_types.specs.declared.history.moves.Move.{Move}
use Rattle.tc_types.specs.declared.requests.Request.{Request}
use Rattle.tc_types.specs.declared.requests.Origin.{Origin}
use Rattle.tc_types.specs.Lawful.{final_places}
use Rattle.tc_types.specs.Schedule.{inserted, is_insert}
use Rattle.tc_book.specs.Book.{Book, place_in, request_at, stands}
use Rattle.tc_book.specs.Stacks.{is_interlocked}
use Rattle.tc_book.specs.Waiting.{is_locked}
use Rattle.tc_urgent.specs.declared.moves.LastMove.{LastMove}
use Rattle.tc_urgent.specs.declared.kinds.UrgentKind.{UrgentKind}
use Rattle.tc_urgent.specs.declared.kinds.UrgentKind.TheVariants.{InDoubt, FailedSince, Approval, Flying, LostReport, Free, ActivityOf, LockedForever, Locked}

-- ---- since when

abbrev pub unmoved : LastMove
unmoved = record { seq = 0; moment = 0 }

abbrev pub moved_last : ℕ → LastMove → Move → LastMove
moved_last n at row = if row.request == n then record { seq = row.seq; moment = row.moment } else at

-- the last move of request n; number 0 if no move names it
abbrev pub last_move : List Move → ℕ → LastMove
last_move history n = fold (moved_last n) unmoved history

abbrev pub since : List Move → ℕ → ℕ
since history n = (last_move history n).seq

-- the moment of the desk's last move
abbrev pub latest : List Move → ℕ
latest history = option_map_or (λ (row : Move). row.moment) (slice_get history (length history - 1)) 0

-- how many seconds request n stands so, by the desk's last move
abbrev pub waited : List Move → ℕ → ℕ
waited history n = latest history - (last_move history n).moment

-- these are the last moves of the first `count` requests, in order of number
pub record AreLastMoves (history : List Move) (count : ℕ) (last : List LastMove) : Type 0 where
  pub all : length last ≡ count
  pub each : (k : ℕ) → k < count → slice_index_or last k unmoved ≡ last_move history (k + 1)

-- a request that stands here has no line, whenever it came there
abbrev pub silent_places : List Place
silent_places = Completed ∷ Withdrawn ∷ Deleted ∷ Closed ∷ []

-- ---- locks that never open

-- the places where a line stays that is never completed
abbrev pub lost_places : List Place
lost_places = Failed ∷ Withdrawn ∷ Deleted ∷ Closed ∷ []

-- the request on the line that request n waits for: the rows of a stack are numbered one after the other
abbrev pub before_in : ℕ → Origin → Option ℕ
before_in n origin = option_map (λ line. n - (origin.line - line)) origin.after

-- the same, if that line is not at Completed
abbrev pub awaited : Book → ℕ → Option ℕ
awaited book n = if is_interlocked book n then option_and_then (λ (r : Request). option_and_then (before_in n) r.origin) (request_at book n) else None

-- The lock of request n never opens: the line that it waits for stays where it is, or waits for such a line itself. No chain of
-- lines is longer than the book.
abbrev pub never_opens : ℕ → Book → ℕ → Bool
never_opens zero book n = false
never_opens (suc most) book n = option_map_or (λ m. stands book m lost_places || never_opens most book m) (awaited book n) false

-- its own lock never opens, or that of an activity that it inserts
abbrev pub is_locked_forever : Book → Request → Bool
is_locked_forever book r = list_any (never_opens (length book.requests) book) (r.number ∷ inserted r.body.command)

-- ---- activities

-- an insert that has not ended, if the request is one
abbrev pub open_insert : Book → Request → Option Request
open_insert book r = if is_insert r.body.command && not (stands book r.number final_places) then Some r else None

abbrev pub open_inserts : Book → List Request
open_inserts book = filter_map (open_insert book) book.requests

-- a request names this one as an activity
abbrev pub names : ℕ → Request → Bool
names n r = list_any (λ m. m == n) (inserted r.body.command)

-- the first open insert that names request n
abbrev pub insert_of : Book → ℕ → Option Request
insert_of book n = find (names n) (open_inserts book)

-- ---- kinds

abbrev pub kind_unlocked : Bool → Option Request → UrgentKind
kind_unlocked locked (Some r) = ActivityOf r.number
kind_unlocked locked None = if locked then Locked else Free

-- a request that waits for its release
abbrev pub kind_approved : Book → Request → UrgentKind
kind_approved book r = if is_locked_forever book r then LockedForever else kind_unlocked (is_locked book r) (insert_of book r.number)

abbrev pub is_scheduled : List ℕ → ℕ → Bool
is_scheduled scheduled n = list_any (λ m. m == n) scheduled

-- a request that stands here; `opened` moves stood at the opening, and the mirror has the requests `scheduled`
abbrev pub kind_at : Book → ℕ → List ℕ → Request → Option Place → Option UrgentKind
kind_at book opened scheduled r (Some Entered) = Some Approval
kind_at book opened scheduled r (Some Approved) = Some (kind_approved book r)
kind_at book opened scheduled r (Some Queued) = Some Flying
kind_at book opened scheduled r (Some Sent) = Some Flying
kind_at book opened scheduled r (Some Confirmed) = Some LostReport
kind_at book opened scheduled r (Some Riding) = Some Flying
kind_at book opened scheduled r (Some Scheduled) = Some (if is_scheduled scheduled r.number then Flying else LostReport)
kind_at book opened scheduled r (Some Accepted) = Some Flying
kind_at book opened scheduled r (Some Started) = Some Flying
kind_at book opened scheduled r (Some Doubtful) = Some InDoubt
kind_at book opened scheduled r (Some Failed) = if nat_lt opened (since book.history r.number) then Some FailedSince else None
kind_at book opened scheduled r other = None

abbrev pub kind_of : Book → ℕ → List ℕ → Request → Option UrgentKind
kind_of book opened scheduled r = kind_at book opened scheduled r (place_in book r.number)
