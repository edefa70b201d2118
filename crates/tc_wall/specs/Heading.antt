-- The heading: how the desk was opened, how many requests were entered, and the last move; a closed file says so.
use Rattle.std.specs.Prelude.{ℕ, ◌-◌, Option, Some, None, List, [], ◌∷◌, ◌++◌, codes, length, slice_get}
use Rattle.tc_types.specs.declared.history.moves.Move.{Move}
use Rattle.tc_wall.specs.declared.walls.Opening.{Opening}
use Rattle.tc_wall.specs.declared.walls.Wall.{Wall}
use Rattle.tc_wall.specs.declared.fixed.TheConstants.{CLOSED, HEADING}
use Rattle.tc_wall.specs.Parts.{Part, Fixed, Number, Time, fixed}

-- when it was opened, and how many moves stood then
unfoldable pub opened_parts : Opening → List Part
opened_parts opening =
    Fixed (codes "<p>opened at <b>") ∷ Time opening.since ∷ Fixed (codes "</b> UTC after <b>") ∷ Number opening.stood ∷ Fixed (codes "</b> moves</p>\n") ∷ []

-- a closed file has no opening and no schedule, so it tells of no failed request, and takes each scheduled one as on board
unfoldable pub file_parts : Option Opening → List Part
file_parts (Some opening) = opened_parts opening
file_parts None = fixed CLOSED.now

unfoldable pub entered_parts : ℕ → List Part
entered_parts entered = Fixed (codes "<p><b>") ∷ Number entered ∷ Fixed (codes "</b> entered</p>\n") ∷ []

-- the script of the page reads the moment, to tell how old the move is
unfoldable pub moved_parts : Move → List Part
moved_parts row =
    Fixed (codes "<p id=\"moved\" data-at=\"") ∷ Number row.moment ∷ Fixed (codes "\">last move <b>") ∷ Number row.seq ∷ Fixed (codes "</b> at <b>") ∷ Time row.moment ∷ Fixed (codes "</b> UTC</p>\n") ∷ []

abbrev pub last_parts : Option Move → List Part
last_parts (Some row) = moved_parts row
last_parts None = fixed (codes "<p>nothing moved yet</p>\n")

unfoldable pub heading_parts : Wall → List Part
heading_parts b =
    fixed HEADING.now ++ file_parts b.opening ++ entered_parts b.entered ++ last_parts (slice_get b.moves.now (length b.moves.now - 1))
    ++ fixed (codes "</header>\n")
