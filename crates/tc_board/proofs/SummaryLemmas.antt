-- A summary tells the schedule.
use Rattle.std.proofs.Common.{◌≡◌, ℕ, ◌≤◌, zero, suc, List, [], ◌∷◌, length, map, refl, ap, arith}
use Rattle.std.proofs.lemmas.List.{length-map}
use Rattle.tc_types.specs.declared.link.activities.Activity.{Activity}
use Rattle.tc_types.specs.declared.link.activities.ListedActivity.{ListedActivity}
use Rattle.tc_board.specs.Schedule.{IsSchedule, listed, places_for}
use Rattle.tc_board.specs.Mirror.{places_told}

-- the places of a summary tell what takes them, where there are as many
places-told : (n : ℕ) (xs : List ListedActivity) → length xs ≤ n → places_told (places_for n xs) ≡ xs
places-told zero [] few = refl
places-told zero (x ∷ xs) few = absurd (omega arith)
places-told (suc n) [] few = places-told n [] (omega arith)
places-told (suc n) (x ∷ xs) few = ap (λ l. x ∷ l) (places-told n xs (omega arith))

-- a summary tells all activities of a schedule
pub summary-told : (xs : List Activity) → IsSchedule xs → places_told (places_for 64 (map listed xs)) ≡ map listed xs
summary-told xs is = places-told 64 (map listed xs) (let len = length-map xs listed in let few = is.few in omega (arith, len, few))
