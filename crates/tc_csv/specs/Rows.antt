-- The rows of a table, each spelled by a record.
use Rattle.std.specs.Prelude.{◌≡◌, ⊤, ℕ, ◌+◌, List, [], ◌∷◌}

-- these records spell these rows, each by its number, the first of which is this one
abbrev pub SpellRows : {Row : Type 0} → (ℕ → List (List ℕ) → Row → Type 0) → ℕ → List (List (List ℕ)) → List Row → Type 0
SpellRows Spells number [] [] = ⊤
SpellRows Spells number [] (row ∷ rows) = ⊥
SpellRows Spells number (fields ∷ given) [] = ⊥
SpellRows Spells number (fields ∷ given) (row ∷ rows) = Spells number fields row × SpellRows Spells (number + 1) given rows

-- this one, and no other
abbrev pub IsOnly : {X : Type 0} → (X → Type 0) → X → Type 0
IsOnly Is it = Is it × ((other : _) → Is other → it ≡ other)
