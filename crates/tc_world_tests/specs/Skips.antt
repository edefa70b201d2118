-- A take that skips.
use Rattle.std.specs.Prelude.{◌≡◌, ◌⊎◌, List, [], ◌∷◌, ◌++◌}
use Rattle.std.proofs.Common.{inl, inr, subst, sym}

-- one item stood, and it is given; or the first is dropped, and the second given
abbrev pub Skips : {X : Type 0} → List X → X → List X → Type 0
Skips {X} old item new = ((old ≡ item ∷ []) × (new ≡ [])) ⊎ ((first : X) × (old ≡ first ∷ item ∷ new))

-- what is given is the first of what is not lost
pub skips-in_order : {X : Type 0} (old : List X) (item : X) (new : List X) → Skips old item new → (lost : List X) × (old ≡ lost ++ item ∷ new)
skips-in_order old item new (inl (one, none)) = ([], subst (λ rest. old ≡ item ∷ rest) (sym none) one)
skips-in_order old item new (inr (first, e)) = (first ∷ [], e)
