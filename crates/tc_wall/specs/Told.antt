-- What a page tells of requests and places, read from its parts.
use Rattle.std.specs.Prelude.{ℕ, ◌==◌, Bool, true, false, List, [], ◌∷◌}
use Rattle.std.specs.List.{flat_map}
use Rattle.tc_types.specs.declared.history.places.Place.{Place}
use Rattle.tc_types.specs.declared.history.places.Place.TheVariants.{Entered, Approved, Queued, Sent, Confirmed, Riding, Scheduled, Accepted, Started, Completed, Failed, Doubtful, Withdrawn, Deleted, Closed}
use Rattle.tc_types.specs.Lawful.{place_number}
use Rattle.tc_urgent.specs.declared.kinds.UrgentKind.{UrgentKind}
use Rattle.tc_wall.specs.declared.walls.UrgentRow.{UrgentRow}
use Rattle.tc_wall.specs.declared.walls.Way.{Way}
use Rattle.tc_wall.specs.Parts.{Part, Count, Row, Line}
use Rattle.tc_wall.specs.Tiles.{count_at}

-- so many stand at a place; a request stands at a place; a line of this kind is of a request or an execution
pub data Told : Type 0 where
  Stand : Place → ℕ → Told
  StandsAt : ℕ → Place → Told
  Says : UrgentKind → ℕ → Told

abbrev pub told : Part → List Told
told (Count place n) = Stand place n ∷ []
told (Row n place) = StandsAt n place ∷ []
told (Line kind n) = Says kind n ∷ []
told other = []

abbrev pub told_all : List Part → List Told
told_all parts = flat_map told parts

-- the places of the tiles: each once
abbrev pub tile_places : List Place
tile_places =
    Entered ∷ Approved ∷ Queued ∷ Sent ∷ Confirmed ∷ Riding ∷ Accepted ∷ Started ∷ Scheduled ∷ Doubtful
    ∷ Failed ∷ Completed ∷ Withdrawn ∷ Deleted ∷ Closed ∷ []

-- the count of a place, as the wall has it
abbrev pub counted : List ℕ → Place → Told
counted counts place = Stand place (count_at counts place)

-- where a request that is open stands
abbrev pub standing : Way → Told
standing way = StandsAt way.request.number way.place

-- the kind of a line, and its number
abbrev pub said : UrgentRow → Told
said row = Says row.line.kind row.line.number

-- the count of this place; the row of a request; a line of what is open
abbrev pub is_count_of : Place → Told → Bool
is_count_of place (Stand other n) = place_number other == place_number place
is_count_of place (StandsAt n at) = false
is_count_of place (Says kind n) = false

abbrev pub is_row : Told → Bool
is_row (Stand place n) = false
is_row (StandsAt n place) = true
is_row (Says kind n) = false

abbrev pub is_line : Told → Bool
is_line (Stand place n) = false
is_line (StandsAt n place) = false
is_line (Says kind n) = true
