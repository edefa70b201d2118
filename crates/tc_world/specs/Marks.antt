-- Marks for requests, each at the place of its number.
use Rattle.std.specs.Prelude.{◌≡◌, ℕ, ◌==◌, Bool, false, List, slice_index_or}
use Rattle.std.specs.List.{list_any}

-- exactly these requests are marked
pub record AreMarked (requests : List ℕ) (marks : List Bool) : Type 0 where
  pub each : (n : ℕ) → list_any (λ (m : ℕ). m == n) requests ≡ slice_index_or marks n false
