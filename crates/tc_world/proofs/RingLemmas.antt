-- Turning a ring, and what is left where one item is removed by turning.
use Rattle.std.proofs.Common.{◌≡◌, ℕ, zero, suc, ◌+◌, ◌-◌, ◌<◌, ◌≤◌, Some, None, List, [], ◌∷◌, ◌++◌, length, take, drop, slice_get, refl, sym, ◌∙◌, ap, arith}
use Rattle.std.proofs.lemmas.List.{append_assoc, length-append, length-drop, length-take-le}
use Rattle.circular_buffer.specs.Buffer.{Buffer, buffer, keep_last}

-- what stands at a place, and what stands before and behind it
split_at : {X : Type 0} (xs : List X) (i : ℕ) → i < length xs → (y : X) × (drop i xs ≡ y ∷ drop (suc i) xs) × (take (suc i) xs ≡ take i xs ++ y ∷ [])
split_at [] i h = absurd (let no : ⊥ = omega (arith, h) in no)
split_at (y ∷ ys) zero h = (y, refl, refl)
split_at (y ∷ ys) (suc i) h =
    let rest = split_at ys i (omega (arith, h)) in
    (rest.0, rest.1, ap (λ l. y ∷ l) rest.2)

-- within the capacity all are kept
kept : {X : Type 0} (capacity : ℕ) (xs : List X) → length xs ≤ capacity → keep_last capacity xs ≡ xs
kept capacity xs h =
    let none : length xs - capacity ≡ 0 = omega (arith, h) in
    ap (λ k. drop k xs) none

turned_length : {X : Type 0} (xs : List X) (i : ℕ) → i ≤ length xs → length (drop i xs ++ take i xs) ≡ length xs
turned_length xs i h =
    let all = length-append (drop i xs) (take i xs) in
    let back = length-drop i xs in
    let front = length-take-le i xs h in
    omega (arith, all, back, front, h)

-- the first goes behind the others
pub turned_on : {X : Type 0} (all : List X) (i capacity : ℕ) (x : X) (before popped after : Buffer X) → i < length all → length all ≤ capacity
    → (before.items ≡ drop i all ++ take i all) × (before.capacity ≡ capacity) → slice_get before.items 0 ≡ Some x
    → popped ≡ buffer (drop 1 before.items) before.capacity
    → after ≡ buffer (keep_last popped.capacity (popped.items ++ x ∷ [])) popped.capacity
    → (after.items ≡ drop (i + 1) all ++ take (i + 1) all) × (after.capacity ≡ capacity)
turned_on {X} all i capacity x before popped after inside few stands first pop push =
    let s = split_at all i inside in
    let rest = drop (suc i) all ++ take i all in
    let whole : before.items ≡ s.0 ∷ rest = stands.0 ∙ ap (λ l. l ++ take i all) s.1 in
    let found : slice_get before.items 0 ≡ Some s.0 = ap (λ l. slice_get l 0) whole in
    let same : x ≡ s.0 = cc in
    let left : popped.items ≡ rest = ap (λ (b : Buffer X). b.items) pop ∙ ap (λ l. drop 1 l) whole in
    let size : popped.capacity ≡ capacity = ap (λ (b : Buffer X). b.capacity) pop ∙ stands.1 in
    let one : i + 1 ≡ suc i = omega arith in
    let joined : popped.items ++ x ∷ [] ≡ drop (suc i) all ++ take (suc i) all =
    ap (λ l. l ++ x ∷ []) left ∙ append_assoc (drop (suc i) all) (take i all) (x ∷ [])
    ∙ ap (λ y. drop (suc i) all ++ (take i all ++ y ∷ [])) same ∙ ap (λ l. drop (suc i) all ++ l) (sym s.2) in
    let within : suc i ≤ length all = omega (arith, inside) in
    let many = turned_length all (suc i) within in
    let fits : length (popped.items ++ x ∷ []) ≤ popped.capacity = omega (arith, ap length joined, many, size, few) in (
      ap (λ (b : Buffer X). b.items) push ∙ kept popped.capacity (popped.items ++ x ∷ []) fits ∙ joined ∙ ap (λ k. drop k all ++ take k all) (sym one),
      ap (λ (b : Buffer X). b.capacity) push ∙ size,
    )

drop_front : {X : Type 0} (xs ys : List X) → drop (length xs) (xs ++ ys) ≡ ys
drop_front [] ys = refl
drop_front (x ∷ xs) ys = drop_front xs ys

take_front : {X : Type 0} (xs ys : List X) → take (length xs) (xs ++ ys) ≡ xs
take_front [] ys = refl
take_front (x ∷ xs) ys = ap (λ l. x ∷ l) (take_front xs ys)

-- turned to the item, without it, and turned on to the end
pub removed_by_turning : {X : Type 0} (all : List X) (place m : ℕ) (at without after : Buffer X) → place < length all → m ≡ length all - 1 - place
    → at.items ≡ drop place all ++ take place all → without ≡ buffer (drop 1 at.items) at.capacity
    → after.items ≡ drop m without.items ++ take m without.items
    → after.items ≡ take place all ++ drop (suc place) all
removed_by_turning {X} all place m at without after inside e turned popped on =
    let s = split_at all place inside in
    let front = take place all in
    let back = drop (suc place) all in
    let left : without.items ≡ back ++ front =
    ap (λ (b : Buffer X). b.items) popped ∙ ap (λ l. drop 1 l) (turned ∙ ap (λ l. l ++ front) s.1) in
    let size : m ≡ length back = (let many = length-drop (suc place) all in omega (arith, many, e, inside)) in
    on
    ∙ ap (λ l. drop m l ++ take m l) left
    ∙ ap (λ k. drop k (back ++ front) ++ take k (back ++ front)) size
    ∙ ap (λ l. l ++ take (length back) (back ++ front)) (drop_front back front)
    ∙ ap (λ l. front ++ l) (take_front back front)

-- there is a first where fewer were turned than there are
pub turns_some : {X : Type 0} (all : List X) (i : ℕ) (ring : Buffer X) → i < length all → ring.items ≡ drop i all ++ take i all → slice_get ring.items 0 ≡ None → ⊥
turns_some all i ring inside stands none =
    let s = split_at all i inside in
    let found : slice_get ring.items 0 ≡ Some s.0 = ap (λ l. slice_get l 0) (stands ∙ ap (λ l. l ++ take i all) s.1) in
    let no : ⊥ = cc in no
