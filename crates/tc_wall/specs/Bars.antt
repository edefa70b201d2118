-- The bar of a way: a stage for each move that is drawn.
use Rattle.std.specs.Prelude.{ℕ, ◌-◌, max, nat_lt, if◌then◌else◌, List, [], ◌∷◌, ◌++◌, codes}
use Rattle.tc_types.specs.declared.history.places.Place.{Place}
use Rattle.tc_types.specs.declared.history.moves.Move.{Move}
use Rattle.tc_wall.specs.declared.axes.Mark.{Mark}
use Rattle.tc_wall.specs.declared.axes.TheConstants.{WIDTH}
use Rattle.tc_wall.specs.Axis.{x_of}
use Rattle.tc_wall.specs.Parts.{Part, Fixed, Number, PlaceWord}

-- a stage; none is drawn where it has no width
unfoldable pub stage_parts : Place → ℕ → ℕ → List Part
stage_parts place begin end =
    if nat_lt begin end
    then Fixed (codes "<rect class=\"") ∷ PlaceWord place ∷ Fixed (codes "\" x=\"") ∷ Number begin
    ∷ Fixed (codes "\" width=\"") ∷ Number (end - begin) ∷ Fixed (codes "\" height=\"10\"/>") ∷ []
    else []

-- a stage begins at its move, or where the one before it begins if that is later
abbrev pub begin_of : List Mark → ℕ → Move → ℕ
begin_of axis before row = max before (x_of axis row.moment)

-- it ends where the next begins, the last at the end of the axis
abbrev pub end_of : List Mark → ℕ → List Move → ℕ
end_of axis begin [] = WIDTH
end_of axis begin (next ∷ others) = begin_of axis begin next

-- the stages of these moves; the one before them begins there
unfoldable pub bar_parts : List Mark → ℕ → List Move → List Part
bar_parts axis before [] = []
bar_parts axis before (row ∷ others) =
    stage_parts row.to (begin_of axis before row) (end_of axis (begin_of axis before row) others) ++ bar_parts axis (begin_of axis before row) others
