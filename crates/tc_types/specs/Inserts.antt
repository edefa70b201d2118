-- What one insert carries (ECSS-E-ST-70-41C, 8.11.2.4): a list, as a person names it and as it flies. How many at most is this desk's own.
use Rattle.std.specs.Prelude.{ℕ, ◌<◌, ◌≤◌, ◌-◌, List, [], ◌∷◌, ◌++◌, length, replicate}
use Rattle.tc_types.specs.declared.link.inserts.TheConstants.{MOST_INSERTED}

-- of one insert
abbrev pub most_inserted : ℕ
most_inserted = MOST_INSERTED

-- 1 to 8 of them
pub record IsInsert {X : Type 0} (items : List X) : Type 0 where
  pub some : 0 < length items
  pub few : length items ≤ most_inserted

-- a list as it lies in eight places: behind its last the first stands again
abbrev pub padded : {X : Type 0} → List X → List X
padded [] = []
padded (first ∷ others) = (first ∷ others) ++ replicate (most_inserted - length (first ∷ others)) first
