-- Texts that persons typed, as HTML spells them.
use Rattle.std.specs.Prelude.{ℕ, ◌==◌, Bool, true, not, ◌&&◌, ◌||◌, if◌then◌else◌, nat_eq, List, [], ◌∷◌, codes}
use Rattle.std.specs.List.{flat_map, list_any, starts_with}

-- A byte of a text that a person typed. The five that mean something in HTML have a name there.
abbrev pub entity : ℕ → List ℕ
entity byte =
    if byte == 38 then codes "&amp;"
    else (if byte == 60 then codes "&lt;"
    else (if byte == 62 then codes "&gt;"
    else (if byte == 34 then codes "&quot;"
    else (if byte == 39 then codes "&#39;"
    else byte ∷ []))))

abbrev pub escaped : List ℕ → List ℕ
escaped text = flat_map entity text

-- the five names
abbrev pub entities : List (List ℕ)
entities = codes "&amp;" ∷ codes "&lt;" ∷ codes "&gt;" ∷ codes "&quot;" ∷ codes "&#39;" ∷ []

-- < or > or " or '
abbrev pub is_markup : ℕ → Bool
is_markup byte = byte == 60 || byte == 62 || byte == 34 || byte == 39

-- a text that has none of these, and in which each & begins one of the five names
abbrev pub is_plain : List ℕ → Bool
is_plain [] = true
is_plain (byte ∷ others) = not (is_markup byte) && (not (byte == 38) || list_any (starts_with nat_eq (byte ∷ others)) entities) && is_plain others
