-- How many requests a report value acknowledges, and what is confirmed by it.
use Rattle.std.proofs.Common.{◌≡◌, ℕ, ◌+◌, ◌-◌, ◌%◌, ◌≤◌, List, ◌++◌, take, drop, sym, ◌∙◌, ap, arith}
use Rattle.std.proofs.lemmas.List.{take-append-drop, take-take, drop-take}
use Rattle.tc_farm.specs.Farm.{distance}

-- two numbers at most 255 apart are as far apart as their remainders say
pub distance_of : (base n r report nn : ℕ) → report ≡ (base + r) % 256 → nn ≡ (base + n) % 256 → n ≤ r → r ≤ n + 255
    → distance report nn ≡ r - n
distance_of base n r report nn far near low high = omega (arith, far, near, low, high)

-- a front, and as many more as lead to a longer one
pub fronts_join : (n r : ℕ) (xs : List ℕ) → n ≤ r → take n xs ++ take (r - n) (drop n xs) ≡ take r xs
fronts_join n r xs low =
    let whole : n + (r - n) ≡ r = omega (arith, low) in
    let within : n ≤ n + (r - n) = omega arith in
    let front = take (n + (r - n)) xs in
    ap (λ (l : List ℕ). take n xs ++ l) (sym (drop-take n (r - n) xs))
    ∙ ap (λ (l : List ℕ). l ++ drop n front) (sym (take-take n (n + (r - n)) xs within))
    ∙ take-append-drop n front
    ∙ ap (λ (m : ℕ). take m xs) whole
