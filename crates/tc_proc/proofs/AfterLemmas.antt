-- What holds of each of a list after those before it, looked at from the front.
use Rattle.std.proofs.Common.{◌≡◌, ℕ, zero, suc, ◌+◌, ◌<◌, ◌≤◌, List, [], ◌∷◌, ◌++◌, length, take, get_or, slice_index_or, sym, ◌∙◌, ap, subst, append-nil, append_assoc, arith, Bool, filter}
use Rattle.std.specs.Prelude.{count_by}
use Rattle.std.specs.List.{AllByRecursion}
use Rattle.std.proofs.lemmas.List.Sums.{length-filter}
use Rattle.std.proofs.lemmas.List.{take_more, take_all}
use Rattle.tc_types.specs.History.{AllAfter}
use Rattle.tc_proc.proofs.ListLemmas.{after_append, each_append, each_at}

-- one more
pub after_more : {X : Type 0} (May : List X → X → Type 0) (xs : List X) (k : ℕ) (x : X) → k < length xs → x ≡ slice_index_or xs k x → AllAfter May [] (take k xs) → May (take k xs) x
    → AllAfter May [] (take (k + 1) xs)
after_more May xs k x within is before may =
    subst (AllAfter May []) (sym (take_more xs k x within ∙ ap (λ (y : _). take k xs ++ y ∷ []) (sym is))) (after_append May [] (take k xs) (x ∷ []) before (may, tt))

-- each of them, by its place
after_here : {X : Type 0} (May : List X → X → Type 0) (before xs : List X) (k : ℕ) (d : X) → AllAfter May before xs → k < length xs → May (before ++ take k xs) (get_or xs k d)
after_here May before [] k d all within = absurd (omega (arith, within))
after_here May before (x ∷ xs) zero d all within = subst (λ b. May b x) (sym (append-nil before)) all.0
after_here May before (x ∷ xs) (suc k) d all within = subst (λ b. May b (get_or xs k d)) (append_assoc before (x ∷ []) (take k xs)) (after_here May (before ++ x ∷ []) xs k d all.1 (omega (arith, within)))

pub after_at : {X : Type 0} (May : List X → X → Type 0) (xs : List X) (k : ℕ) (x : X) → AllAfter May [] xs → k < length xs → x ≡ slice_index_or xs k x → May (take k xs) x
after_at May xs k x all within is = subst (May (take k xs)) (sym is) (after_here May [] xs k x all within)

-- all of them
pub after_all : {X : Type 0} (May : List X → X → Type 0) (xs : List X) (k : ℕ) → length xs ≤ k → AllAfter May [] (take k xs) → AllAfter May [] xs
after_all May xs k all before = subst (AllAfter May []) (take_all k xs all) before

-- ---- the same of what holds of each alone

pub each_more : {X : Type 0} (P : X → Type 0) (xs : List X) (k : ℕ) (x : X) → k < length xs → x ≡ slice_index_or xs k x → AllByRecursion P (take k xs) → P x → AllByRecursion P (take (k + 1) xs)
each_more P xs k x within is before may =
    subst (AllByRecursion P) (sym (take_more xs k x within ∙ ap (λ (y : _). take k xs ++ y ∷ []) (sym is))) (each_append P (take k xs) (x ∷ []) before (may, tt))

pub each_here : {X : Type 0} (P : X → Type 0) (xs : List X) (k : ℕ) (x : X) → AllByRecursion P xs → k < length xs → x ≡ slice_index_or xs k x → P x
each_here P xs k x all within is = subst P (sym is) (each_at P xs k x all within)

pub each_all : {X : Type 0} (P : X → Type 0) (xs : List X) (k : ℕ) → length xs ≤ k → AllByRecursion P (take k xs) → AllByRecursion P xs
each_all P xs k all before = subst (AllByRecursion P) (take_all k xs all) before

-- how many pass a test
pub counted : {X : Type 0} (p : X → Bool) (xs : List X) → count_by p xs ≡ length (filter p xs)
counted p xs = sym (length-filter p xs)
