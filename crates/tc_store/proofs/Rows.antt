-- A list of rows in order of key takes one more as the tables do.
use Rattle.std.proofs.Common.{◌≡◌, ℕ, List, [], ◌∷◌, nat_lt, ◌==◌, cond, refl, ap}
use Rattle.tc_types.specs.Tables as tables
use Rattle.tc_sql.specs.Puts.{put_by}

pub same_put : {X : Type 0} (key : X → ℕ) (new : X) (xs : List X) → put_by key new xs ≡ tables.put_by key new xs
same_put key new [] = refl
same_put key new (x ∷ xs) = ap (λ more. cond (nat_lt (key new) (key x)) (new ∷ x ∷ xs) (cond (key new == key x) (new ∷ xs) (x ∷ more))) (same_put key new xs)
