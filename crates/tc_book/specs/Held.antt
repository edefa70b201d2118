-- How an opening moves one request, by where it stands now and by which requests have an insert that never left.
use Rattle.std.specs.Prelude.{ℕ, ◌==◌, Bool, ◌&&◌, ◌||◌, if◌then◌else◌, Option, List, [], ◌∷◌}
use Rattle.std.specs.List.{list_any}
use Rattle.tc_types.specs.declared.history.places.Place.{Place}
use Rattle.tc_types.specs.declared.history.places.Place.TheVariants.{Approved, Queued, Riding, Doubtful}
use Rattle.tc_types.specs.declared.history.causes.Cause.TheVariants as cause
use Rattle.tc_types.specs.declared.history.moves.Move.{Move}
use Rattle.tc_types.specs.declared.requests.Request.{Request}
use Rattle.tc_types.specs.Lawful.{is_among}
use Rattle.tc_types.specs.History.{place_of}
use Rattle.tc_types.specs.Schedule.{inserted}
use Rattle.tc_book.specs.Book.{Book, place_in, stands, want, moved}
use Rattle.tc_book.specs.Opening.{opened_places, desk_stamp}

-- the requests that a request inserts, where it does and stands at Queued
abbrev pub held_by : List Move → Request → List ℕ
held_by history r = if is_among (Queued ∷ []) (place_of history r.number) then inserted r.body.command else []

-- a number is among these
abbrev pub has_number : List ℕ → ℕ → Bool
has_number numbers n = list_any (λ k. k == n) numbers

-- where a request goes that stands here
abbrev pub opened_from : Option Place → Bool → Place
opened_from at held = if is_among (Queued ∷ []) at || (is_among (Riding ∷ []) at && held) then Approved else Doubtful

-- the book with a request looked at, where these have an insert that never left
abbrev pub looked_at : ℕ → List ℕ → Book → Request → Book
looked_at moment held book r =
    if stands book r.number opened_places then moved (desk_stamp moment) book (want r.number (opened_from (place_in book r.number) (has_number held r.number)) cause.Open) else book
