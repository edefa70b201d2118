-- A list with items left out.
use Rattle.std.specs.Prelude.{◌≡◌, ◌⊎◌, ℕ, List, [], ◌∷◌, ◌++◌, remove, refl}
use Rattle.std.proofs.Common.{inl, inr, zero, suc}

-- xs is ys with items left out
abbrev pub IsSublist : {X : Type 0} → List X → List X → Type 0
IsSublist xs [] = xs ≡ []
IsSublist {X} xs (y ∷ ys) = IsSublist xs ys ⊎ ((zs : List X) × (xs ≡ y ∷ zs) × IsSublist zs ys)

-- The laws that the kinds of links cite.

-- nothing left out
pub IsSublist-same : {X : Type 0} (xs : List X) → IsSublist xs xs
IsSublist-same [] = refl
IsSublist-same (x ∷ xs) = inr (xs, refl, IsSublist-same xs)

-- all left out
pub IsSublist-nil : {X : Type 0} (ys : List X) → IsSublist [] ys
IsSublist-nil [] = refl
IsSublist-nil (y ∷ ys) = inl (IsSublist-nil ys)

-- a front left out
pub IsSublist-behind : {X : Type 0} (lost xs : List X) → IsSublist xs (lost ++ xs)
IsSublist-behind [] xs = IsSublist-same xs
IsSublist-behind (x ∷ lost) xs = inl (IsSublist-behind lost xs)

-- one item left out, or none past the end
pub IsSublist-remove : {X : Type 0} (xs : List X) (i : ℕ) → IsSublist (remove xs i) xs
IsSublist-remove [] zero = refl
IsSublist-remove [] (suc i) = refl
IsSublist-remove (x ∷ xs) zero = inl (IsSublist-same xs)
IsSublist-remove (x ∷ xs) (suc i) = inr (remove xs i, refl, IsSublist-remove xs i)
