-- Lines with one more.
use Rattle.std.proofs.Common.{◌≡◌, List, [], ◌∷◌, ◌++◌, refl, ap}
use Rattle.tc_urgent.specs.declared.lines.UrgentLine.{UrgentLine}
use Rattle.tc_urgent.specs.Folds.{joined, with_next}

pub with_next_last : (front : List UrgentLine) (line next : UrgentLine) → with_next (front ++ line ∷ []) next ≡ front ++ joined line next
with_next_last [] line next = refl
with_next_last (first ∷ []) line next = refl
with_next_last (first ∷ second ∷ front) line next = ap (λ l. first ∷ l) (with_next_last (second ∷ front) line next)
