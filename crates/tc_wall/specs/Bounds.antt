-- How much of a list the wall shows.
use Rattle.std.specs.Prelude.{ℕ, ◌-◌, nat_lt, if◌then◌else◌, List, [], ◌∷◌, length, drop, codes}
use Rattle.tc_wall.specs.Parts.{Part, Fixed, Number}

-- the last so many of a list
abbrev pub last_of : {X : Type 0} → ℕ → List X → List X
last_of most xs = drop (length xs - most) xs

-- how many of so many are not shown, where some are
unfoldable pub left_out_parts : ℕ → ℕ → List Part
left_out_parts count most =
    if nat_lt most count then Fixed (codes "<p class=\"more\">and ") ∷ Number (count - most) ∷ Fixed (codes " more</p>\n") ∷ [] else []

-- what is said where there are none
unfoldable pub none_parts : ℕ → List ℕ → List Part
none_parts count said =
    if nat_lt 0 count then [] else Fixed (codes "<p class=\"none\">") ∷ Fixed said ∷ Fixed (codes "</p>\n") ∷ []
