-- The tiles: how many requests stand where. Each has the sum of its places, and each of them with its count.
use Rattle.std.specs.Prelude.{ℕ, ◌-◌, ◌==◌, nat_lt, if◌then◌else◌, List, [], ◌∷◌, ◌++◌, codes, map, sum, slice_index}
use Rattle.std.specs.List.{flat_map}
use Rattle.tc_types.specs.declared.history.places.Place.{Place}
use Rattle.tc_types.specs.declared.history.places.Place.TheVariants.{Entered, Approved, Queued, Sent, Confirmed, Riding, Scheduled, Accepted, Started, Completed, Failed, Doubtful, Withdrawn, Deleted, Closed}
use Rattle.tc_types.specs.Lawful.{place_number}
use Rattle.tc_wall.specs.declared.fixed.TheConstants.{TILES}
use Rattle.tc_wall.specs.Parts.{Part, Fixed, Number, Count, fixed}
use Rattle.tc_wall.specs.Signs.{sign_of}

-- how many stand at a place, of the counts of all places in order of number
abbrev pub count_at : List ℕ → Place → ℕ
count_at counts place = slice_index counts (place_number place - 1)

unfoldable pub sum_at : List ℕ → List Place → ℕ
sum_at counts places = sum (map (count_at counts) places)

-- the class `zero` where none stand there
unfoldable pub zero_word : ℕ → List ℕ
zero_word count = if count == 0 then codes " zero" else []

-- a tile's class, and its sign: that of its first place; then its sum and its label
unfoldable pub tile_begins : List ℕ → Place → ℕ → List Part
tile_begins kind first count =
    Fixed (codes "<div class=\"tile ") ∷ Fixed kind ∷ Fixed (zero_word count) ∷ Fixed (codes "\"><i>") ∷ Fixed (sign_of first) ∷ Fixed (codes "</i>") ∷ []

unfoldable pub tile_label : ℕ → List ℕ → List Part
tile_label count label = Fixed (codes "<b>") ∷ Number count ∷ Fixed (codes "</b><p>") ∷ Fixed label ∷ Fixed (codes "</p><small>") ∷ []

unfoldable pub tile_head_parts : List ℕ → List ℕ → Place → ℕ → List Part
tile_head_parts kind label first count = tile_begins kind first count ++ tile_label count label

-- PLACE count, parted by commas
unfoldable pub count_parts : List ℕ → Place → List Part
count_parts counts place = Count place (count_at counts place) ∷ []

unfoldable pub next_parts : List ℕ → Place → List Part
next_parts counts place = fixed (codes ", ") ++ count_parts counts place

unfoldable pub counts_parts : List ℕ → List Place → List Part
counts_parts counts [] = []
counts_parts counts (place ∷ others) = count_parts counts place ++ flat_map (next_parts counts) others

unfoldable pub tile_parts : List ℕ → List ℕ → List ℕ → Place → List Place → List Part
tile_parts counts kind label first places =
    tile_head_parts kind label first (sum_at counts places) ++ counts_parts counts places ++ fixed (codes "</small></div>\n")

-- those on the way, and those that a person ended
abbrev pub under_way_parts : List ℕ → List Part
under_way_parts counts = tile_parts counts (codes "way") (codes "on the way") Queued (Queued ∷ Sent ∷ Confirmed ∷ Riding ∷ Accepted ∷ Started ∷ [])

abbrev pub ended_parts : List ℕ → List Part
ended_parts counts = tile_parts counts (codes "ended") (codes "withdrawn, deleted, closed") Withdrawn (Withdrawn ∷ Deleted ∷ Closed ∷ [])

-- a tile of one place, with its label
abbrev pub place_tile_parts : List ℕ → List ℕ → List ℕ → Place → List Part
place_tile_parts counts kind label place = tile_parts counts kind label place (place ∷ [])

unfoldable pub open_tiles_parts : List ℕ → List Part
open_tiles_parts counts =
    place_tile_parts counts (codes "wait") (codes "wait for approval") Entered
    ++ place_tile_parts counts (codes "ready") (codes "ready or locked") Approved
    ++ under_way_parts counts
    ++ place_tile_parts counts (codes "scheduled") (codes "scheduled") Scheduled
    ++ place_tile_parts counts (codes "doubt") (codes "IN DOUBT") Doubtful

-- the tile of those that failed stands out if one failed after the opening
unfoldable pub failed_word : ℕ → List ℕ
failed_word failed = if nat_lt 0 failed then codes "failed" else codes "past"

unfoldable pub final_tiles_parts : List ℕ → ℕ → List Part
final_tiles_parts counts failed =
    place_tile_parts counts (failed_word failed) (codes "FAILED") Failed
    ++ place_tile_parts counts (codes "completed") (codes "completed") Completed
    ++ ended_parts counts

unfoldable pub tiles_parts : List ℕ → ℕ → List Part
tiles_parts counts failed = fixed TILES.now ++ open_tiles_parts counts ++ final_tiles_parts counts failed ++ fixed (codes "</section>\n")
