-- Words that are compared.
use Rattle.std.proofs.Common.{◌≡◌, ◌↔◌, ℕ, ◌==◌, ◌&&◌, Bool, true, false, IsTrue, List, [], ◌∷◌, refl, ap₂, sym, ◌∙◌}
use Rattle.std.proofs.lemmas.Bool.{false≢true, eqb-true, eq-eqb}
use Rattle.tc_front.specs.Paths.{same}

both_true : (a b : Bool) → a && b ≡ true → (a ≡ true) × (b ≡ true)
both_true true true e = (refl, refl)
both_true true false e = absurd (false≢true e)
both_true false b e = absurd (false≢true e)

same_is : (a b : List ℕ) → same a b ≡ true → a ≡ b
same_is [] [] e = refl
same_is [] (y ∷ b) e = absurd (false≢true e)
same_is (x ∷ a) [] e = absurd (false≢true e)
same_is (x ∷ a) (y ∷ b) e = let p = both_true (x == y) (same a b) e in ap₂ (λ z zs. z ∷ zs) (eqb-true x y p.0) (same_is a b p.1)

differ_by : (t r : Bool) (P : Type 0) → (t ≡ true → P) → (IsTrue r ↔ P) → r ≡ false → t ≡ false
differ_by true r P h i e = absurd (false≢true (sym e ∙ i.1 (h refl)))
differ_by false r P h i e = refl

-- words of which a comparison said no
pub differ : (a b : List ℕ) (r : Bool) → (IsTrue r ↔ (a ≡ b)) → r ≡ false → same a b ≡ false
differ a b r h e = differ_by (same a b) r (a ≡ b) (same_is a b) h e

and_true : (a b : Bool) → a ≡ true → b ≡ true → a && b ≡ true
and_true a b e f = rw e (rw f refl)

same_refl : (a : List ℕ) → same a a ≡ true
same_refl [] = refl
same_refl (x ∷ a) = and_true _ _ (eq-eqb x x refl) (same_refl a)

-- words of which a comparison said yes
pub agree : (a b : List ℕ) (r : Bool) → (IsTrue r ↔ (a ≡ b)) → r ≡ true → same a b ≡ true
agree a b r h e = rw (h.0 e) (same_refl b)

-- what a comparison said
pub decides : (a b : List ℕ) (r : Bool) → (IsTrue r ↔ (a ≡ b)) → r ≡ same a b
decides a b true h = sym (agree a b true h refl)
decides a b false h = sym (differ a b false h refl)
