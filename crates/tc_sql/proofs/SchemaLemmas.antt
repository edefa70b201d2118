-- Parts of a schema of which nothing is asked are plain.
use Rattle.std.proofs.Common.{List, [], ◌∷◌}
use Rattle.std.specs.List.{AllByRecursion}

pub all_plain : {X : Type 0} (xs : List X) → AllByRecursion (λ (_ : X). Unit {0}) xs
all_plain [] = tt
all_plain (x ∷ xs) = (tt, all_plain xs)
