-- What is told of an opening.
use Rattle.std.specs.Prelude.{ℕ, List, [], ◌∷◌, codes}
use Rattle.std.specs.Fmt.{decimal}
use Rattle.tc_types.specs.Lines.{spaced}

-- how many moves stood once the desk was opened, and when that was
abbrev pub opening_line : ℕ → ℕ → List ℕ
opening_line moves since = spaced (codes "opening" ∷ decimal moves ∷ codes "at" ∷ decimal since ∷ [])
