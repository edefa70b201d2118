-- The mark that may stand at the front of a text.
use Rattle.std.proofs.Common.{◌≡◌, ℕ, suc, ◌-◌, ◌≤◌, Bool, true, false, if◌then◌else◌, ◌&&◌, List, [], ◌∷◌, length, take, drop, refl, sym, subst, arith}
use Rattle.std.proofs.Math.Seq.{take-length}
use Rattle.std.proofs.lemmas.Bool.{and_parts}
use Rattle.csv.specs.Reading.{strip_bom}
use Rattle.tc_check.specs.Looks.{has_byte, has_mark}

-- behind the mark
pub marked : (text : List ℕ) → has_mark text ≡ true → (3 ≤ length text) × (take (length text - 3) (drop 3 text) ≡ strip_bom text)
unfolding strip_bom
marked [] is = cc
marked (a ∷ []) is = let third = (and_parts (has_byte (a ∷ []) 0 239 && has_byte (a ∷ []) 1 187) (has_byte (a ∷ []) 2 191) is).1 in cc
marked (a ∷ b ∷ []) is = let third = (and_parts (has_byte (a ∷ b ∷ []) 0 239 && has_byte (a ∷ b ∷ []) 1 187) (has_byte (a ∷ b ∷ []) 2 191) is).1 in cc
marked (a ∷ b ∷ c ∷ rest) is =
    let count : suc (suc (suc (length rest))) - 3 ≡ length rest = omega arith in
    (omega arith, subst (λ (m : Bool). take (suc (suc (suc (length rest))) - 3) rest ≡ (if m then rest else a ∷ b ∷ c ∷ rest)) (sym is) (rw count (take-length rest)))

-- where there is none
pub unmarked : (text : List ℕ) → has_mark text ≡ false → text ≡ strip_bom text
unfolding strip_bom
unmarked [] is = refl
unmarked (a ∷ []) is = refl
unmarked (a ∷ b ∷ []) is = refl
unmarked (a ∷ b ∷ c ∷ rest) is = subst (λ (m : Bool). a ∷ b ∷ c ∷ rest ≡ (if m then rest else a ∷ b ∷ c ∷ rest)) (sym is) refl
