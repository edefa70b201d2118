-- The lines of lists of which the first fifty are shown.
use Rattle.std.specs.Prelude.{ℕ, Bool, if◌then◌else◌, List, [], ◌∷◌, ◌++◌, codes}
use Rattle.std.specs.Fmt.{decimal}
use Rattle.tc_types.specs.declared.history.places.Place.{Place}
use Rattle.tc_types.specs.declared.requests.Identity.{Identity}
use Rattle.tc_types.specs.Lines.{spaced, place_name, identity_word}

-- K, or K more where others are left out
abbrev pub shown_words : ℕ → Bool → List ℕ
shown_words shown more = decimal shown ++ (if more then codes " more" else [])

-- moves K, or moves K more
abbrev pub moves_line : ℕ → Bool → List ℕ
moves_line shown more = codes "moves " ++ shown_words shown more

-- standing PLACE: K, or standing PLACE: K more
abbrev pub standing_line : Place → ℕ → Bool → List ℕ
standing_line place shown more = codes "standing " ++ place_name place ++ codes ": " ++ shown_words shown more

-- request N APID/COUNT
abbrev pub named_line : ℕ → Identity → List ℕ
named_line n identity = spaced (codes "request" ∷ decimal n ∷ identity_word identity ∷ [])
