-- What holds of each item that was looked at.
use Rattle.std.proofs.Common.{◌≡◌, ℕ, ◌+◌, ◌<◌, List, length, take, get_or, sym, subst}
use Rattle.std.proofs.lemmas.List.{take_more}
use Rattle.std.specs.List.{AllByRecursion}
use Rattle.tc_wall.proofs.AxisLemmas.{all_appended}

-- one more was looked at
pub each_kept_at : {X : Type 0} (P : X → Type 0) (xs : List X) (k : ℕ) (d : X) → k < length xs → AllByRecursion P (take k xs) → P (get_or xs k d) → AllByRecursion P (take (k + 1) xs)
each_kept_at P xs k d within all one = subst (AllByRecursion P) (sym (take_more xs k d within)) (all_appended P (take k xs) (get_or xs k d) all one)

pub each_kept : {X : Type 0} (P : X → Type 0) (xs : List X) (k : ℕ) (x : X) → k < length xs → x ≡ get_or xs k x → AllByRecursion P (take k xs) → P x → AllByRecursion P (take (k + 1) xs)
each_kept P xs k x within is all one = each_kept_at P xs k x within all (subst P is one)
