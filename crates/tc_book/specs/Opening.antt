-- What an opening makes of a book that was left (this desk's own): of what was on its way nobody knows any more what became of it, and
-- what never left the desk goes back.
use Rattle.std.specs.Prelude.{ℕ, ◌+◌, ◌<◌, ◌^◌, ◌==◌, Bool, ◌&&◌, ◌||◌, if◌then◌else◌, List, [], ◌∷◌, fold, length, count_by}
use Rattle.std.specs.List.{list_any}
use Rattle.tc_types.specs.declared.history.places.Place.{Place}
use Rattle.tc_types.specs.declared.history.places.Place.TheVariants.{Approved, Queued, Sent, Confirmed, Riding, Scheduled, Accepted, Started, Doubtful}
use Rattle.tc_types.specs.declared.history.causes.Cause.TheVariants as cause
use Rattle.tc_types.specs.declared.requests.Command.{Command}
use Rattle.tc_types.specs.declared.requests.Request.{Request}
use Rattle.tc_types.specs.Lawful.{is_one_of}
use Rattle.tc_types.specs.Names.{desk_name}
use Rattle.tc_types.specs.Schedule.{inserted}
use Rattle.tc_book.specs.declared.stamps.Stamp.{Stamp}
use Rattle.tc_book.specs.Book.{Book, stands, want, moved}

-- the places of what was on its way, or still waited to leave
abbrev pub opened_places : List Place
opened_places = Queued ∷ Sent ∷ Confirmed ∷ Riding ∷ Scheduled ∷ Accepted ∷ Started ∷ []

-- a request that stands here is moved by an opening
abbrev pub is_opened : Place → Bool
is_opened place = is_one_of opened_places place

-- this command inserts request n into the on-board schedule
abbrev pub inserts : ℕ → Command → Bool
inserts n given = list_any (λ m. m == n) (inserted given)

-- an insert of request n never left: it stands at Queued
abbrev pub is_held : Book → ℕ → Bool
is_held book n = list_any (λ (r : Request). inserts n r.body.command && stands book r.number (Queued ∷ [])) book.requests

-- where an opening moves request n: back to Approved, if neither it nor the insert in which it rides has left
abbrev pub opened_to : Book → ℕ → Place
opened_to book n = if stands book n (Queued ∷ []) || (stands book n (Riding ∷ []) && is_held book n) then Approved else Doubtful

-- the desk itself, at this moment
abbrev pub desk_stamp : ℕ → Stamp
desk_stamp moment = record { by = desk_name; moment = moment }

-- one request, by where it stood in the book that was left
abbrev pub opened_request : ℕ → Book → Book → Request → Book
opened_request moment left book r =
    if stands left r.number opened_places then moved (desk_stamp moment) book (want r.number (opened_to left r.number) cause.Open) else book

-- the book once each request was looked at, in order of number
abbrev pub opened_book : ℕ → Book → Book
opened_book moment left = fold (opened_request moment left) left left.requests

-- how many requests an opening moves
abbrev pub count_opened : Book → ℕ
count_opened book = count_by (λ (r : Request). stands book r.number opened_places) book.requests

-- The rows of the history are numbered below 2^32, and those of an opening still find such numbers.
abbrev pub HasNumbers : Book → Type 0
HasNumbers book = length book.history + count_opened book < 2 ^ 32
