-- The requests that are open, and their ways.
use Rattle.std.specs.Prelude.{◌≡◌, Bool, false, not, if◌then◌else◌, Option, Some, None, List, [], ◌∷◌, length}
use Rattle.std.specs.List.{filter_map}
use Rattle.std.specs.Option.{option_and_then}
use Rattle.tc_types.specs.declared.history.places.Place.{Place}
use Rattle.tc_types.specs.declared.requests.Request.{Request}
use Rattle.tc_types.specs.History.{rows_of}
use Rattle.tc_types.specs.Lawful.{final_places, is_one_of}
use Rattle.tc_book.specs.Book.{Book, place_in}
use Rattle.tc_urgent.specs.declared.lines.UrgentLine.{UrgentLine}
use Rattle.tc_wall.specs.declared.walls.Way.{Way}
use Rattle.tc_wall.specs.declared.walls.TheConstants.{MOST_STAGES}
use Rattle.tc_wall.specs.Bounds.{last_of}
use Rattle.tc_view.specs.Urgents.{request_of}

-- who stands at a place that is not final is open
abbrev pub is_open_at : Option Place → Bool
is_open_at None = false
is_open_at (Some place) = not (is_one_of final_places place)

abbrev pub is_open : Book → Request → Bool
is_open book r = is_open_at (place_in book r.number)

-- the request of a line, if it is open
abbrev pub if_open : Book → Request → Option Request
if_open book r = if is_open book r then Some r else None

abbrev pub open_in : Book → UrgentLine → Option Request
open_in book line = option_and_then (if_open book) (request_of book line)

-- the requests of these lines that are open, in the order of the lines
abbrev pub open_of : Book → List UrgentLine → List Request
open_of book lines = filter_map (open_in book) lines

-- the way of a request: where it stands, the last of its moves, and how many it has
pub record IsWayOf (book : Book) (r : Request) (way : Way) : Type 0 where
  pub request : way.request ≡ r
  pub place : place_in book r.number ≡ Some way.place
  pub moves : way.moves.now ≡ last_of MOST_STAGES (rows_of r.number book.history)
  pub moved : way.moved ≡ length (rows_of r.number book.history)

-- the ways of these requests, each of its own
abbrev pub AreWaysOf : Book → List Request → List Way → Type 0
AreWaysOf book [] [] = Unit {0}
AreWaysOf book [] (way ∷ ways) = ⊥
AreWaysOf book (r ∷ rs) [] = ⊥
AreWaysOf book (r ∷ rs) (way ∷ ways) = IsWayOf book r way × AreWaysOf book rs ways
