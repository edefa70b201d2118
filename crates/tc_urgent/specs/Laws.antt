-- What holds of the lines.
use Rattle.std.specs.Prelude.{◌≡◌, ℕ, ◌≤◌, ◌<◌, ◌&&◌, ◌||◌, Bool, true, false, not, nat_lt, is_none, IsSomeAnd, List, [], ◌∷◌, Option, Some, None, filter, map}
use Rattle.std.specs.List.{AllByRecursion}
use Rattle.std.specs.List.Sorted.{IsSortedByKey}
use Rattle.std.specs.Ordering.{ordering_then, nat_cmp}
use Rattle.std.specs.declared.cmp.Ordering.{Ordering}
use Rattle.tc_types.specs.declared.history.places.Place.TheVariants.{Entered, Approved, Queued, Sent, Confirmed, Riding, Scheduled, Accepted, Started, Failed, Doubtful}
use Rattle.tc_types.specs.declared.history.places.Place.{Place}
use Rattle.tc_types.specs.declared.requests.Request.{Request}
use Rattle.tc_book.specs.Book.{Book, place_in, request_at, stands}
use Rattle.tc_book.specs.Waiting.{is_locked}
use Rattle.tc_urgent.specs.declared.kinds.UrgentKind.{UrgentKind}
use Rattle.tc_urgent.specs.declared.kinds.UrgentKind.TheVariants.{InDoubt, FailedSince, Approval, StepDue, Flying, LostReport, Free, ActivityOf, LockedForever, Locked}
use Rattle.tc_urgent.specs.declared.lines.UrgentLine.{UrgentLine}
use Rattle.tc_urgent.specs.Judging.{insert_of, is_locked_forever, kind_of, since}
use Rattle.tc_urgent.specs.Kinds.{urgency}

-- by rank, then by number
abbrev pub by_rank : ℕ × ℕ → ℕ × ℕ → Ordering
by_rank a b = ordering_then (nat_cmp a.0 b.0) (nat_cmp a.1 b.1)

abbrev pub rank : UrgentLine → ℕ × ℕ
rank line = (urgency line.kind, line.number)

abbrev pub AreByUrgency : List UrgentLine → Type 0
AreByUrgency lines = IsSortedByKey rank by_rank lines

-- no line is more urgent than one before it
abbrev pub NoneMoreUrgent : List UrgentLine → Type 0
NoneMoreUrgent [] = Unit {0}
NoneMoreUrgent (line ∷ lines) = AllByRecursion (λ (later : UrgentLine). urgency line.kind ≤ urgency later.kind) lines × NoneMoreUrgent lines

-- the places of a request that has not ended
abbrev pub open_places : List Place
open_places = Entered ∷ Approved ∷ Queued ∷ Sent ∷ Confirmed ∷ Riding ∷ Scheduled ∷ Accepted ∷ Started ∷ Doubtful ∷ []

-- a request has not ended, or failed after the opening
abbrev pub is_shown : Book → ℕ → Request → Bool
is_shown book opened r = stands book r.number open_places || (stands book r.number (Failed ∷ []) && nat_lt opened (since book.history r.number))

-- the requests of these lines are those that are shown, each once, in order
abbrev pub AreShownOnce : Book → ℕ → List UrgentLine → Type 0
AreShownOnce book opened lines = map (λ (line : UrgentLine). line.number) lines ≡ map (λ (r : Request). r.number) (filter (is_shown book opened) book.requests)

-- What a kind says of a request is so. A free one may be released: no open insert names it, and nothing locks it. Only one whose lock
-- opens some day is told to be locked.
abbrev pub TellsSo : Book → Request → UrgentKind → Type 0
TellsSo book r InDoubt = stands book r.number (Doubtful ∷ []) ≡ true
TellsSo book r Free = (stands book r.number (Approved ∷ []) ≡ true) × (is_none (insert_of book r.number) ≡ true) × (is_locked book r ≡ false)
TellsSo book r (ActivityOf insert) = IsSomeAnd (insert_of book r.number) (λ (i : Request). i.number ≡ insert)
TellsSo book r LockedForever = is_locked_forever book r ≡ true
TellsSo book r Locked = (is_locked book r ≡ true) × (is_locked_forever book r ≡ false)
TellsSo book r other = Unit {0}
