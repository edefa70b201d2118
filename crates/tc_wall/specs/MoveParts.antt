-- The last moves, the newest first.
use Rattle.std.specs.Prelude.{List, [], ◌∷◌, ◌++◌, codes, reverse}
use Rattle.std.specs.List.{flat_map}
use Rattle.tc_types.specs.declared.history.moves.Move.{Move}
use Rattle.tc_wall.specs.declared.walls.Wall.{Wall}
use Rattle.tc_wall.specs.declared.walls.TheConstants.{MOST_MOVES}
use Rattle.tc_wall.specs.declared.fixed.TheConstants.{MOVES}
use Rattle.tc_wall.specs.Parts.{Part, Fixed, Number, Time, PlaceWord, FromWord, CauseWord, Person, fixed}
use Rattle.tc_wall.specs.Bounds.{last_of, none_parts, left_out_parts}

-- which, when and who
unfoldable pub who_parts : Move → List Part
who_parts row =
    Fixed (codes "<tr class=\"") ∷ PlaceWord row.to ∷ Fixed (codes "\"><td>") ∷ Number row.seq ∷ Fixed (codes "</td><td>") ∷ Time row.moment
    ∷ Fixed (codes "</td><td>") ∷ Person row.by ∷ Fixed (codes "</td>") ∷ []

-- which request, from where, to where and why
unfoldable pub what_parts : Move → List Part
what_parts row =
    Fixed (codes "<td>") ∷ Number row.request ∷ Fixed (codes "</td><td>") ∷ FromWord row.from ∷ Fixed (codes "</td><td>") ∷ PlaceWord row.to
    ∷ Fixed (codes "</td><td>") ∷ CauseWord row.cause ∷ Fixed (codes "</td></tr>\n") ∷ []

abbrev pub move_parts : Move → List Part
move_parts row = who_parts row ++ what_parts row

unfoldable pub moves_parts : Wall → List Part
moves_parts b =
    fixed MOVES.now ++ flat_map move_parts (reverse (last_of MOST_MOVES b.moves.now)) ++ fixed (codes "</tbody>\n</table>\n")
    ++ none_parts b.moved (codes "Nothing moved yet.") ++ left_out_parts b.moved MOST_MOVES ++ fixed (codes "</section>\n")
