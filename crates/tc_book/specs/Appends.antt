-- What is appended where there is room.
use Rattle.std.specs.Prelude.{◌≡◌, ℕ, ◌+◌, ◌≤◌, ◌++◌, List, Vec, vec_len, vec_capacity}

-- these came behind what stood, and there is no less room than before
pub record Appends {X A : Type 0} (old new : Vec X A) (more : List X) : Type 0 where
  pub items : new.items ≡ old.items ++ more
  pub capacity : vec_capacity old ≤ vec_capacity new

-- the same of so many at the most
pub record AppendsMost {X A : Type 0} (old new : Vec X A) (most : ℕ) (more : List X) : Type 0 where
  pub items : new.items ≡ old.items ++ more
  pub len : vec_len new ≤ vec_len old + most
  pub capacity : vec_capacity old ≤ vec_capacity new
