-- The places of a summary: those that activities take, and the others.
use Rattle.std.proofs.Common.{◌≡◌, ℕ, ◌+◌, ◌<◌, ◌≤◌, zero, suc, Some, None, List, [], ◌∷◌, ◌++◌, length, map, take, drop, set, get_or, replicate, add-one, refl, sym, ◌∙◌, ap, arith}
use Rattle.tc_types.specs.declared.link.activities.ListedActivity.{ListedActivity}
use Rattle.tc_board.specs.Schedule.{places_for}

-- the list once the first i items of one took the first places of another
abbrev pub taken_to : {X Y : Type 0} → (X → Y) → ℕ → List X → List Y → List Y
taken_to f i xs ys = map f (take i xs) ++ drop i ys

-- one more place is taken
taken_suc : {X Y : Type 0} (f : X → Y) (i : ℕ) (xs : List X) (ys : List Y) (d : X) → i < length xs → i < length ys → set (taken_to f i xs ys) i (f (get_or xs i d)) ≡ taken_to f (suc i) xs ys
taken_suc f i [] ys d some room = absurd (omega arith)
taken_suc f i (x ∷ xs) [] d some room = absurd (omega arith)
taken_suc f zero (x ∷ xs) (y ∷ ys) d some room = refl
taken_suc f (suc i) (x ∷ xs) (y ∷ ys) d some room = ap (λ l. f x ∷ l) (taken_suc f i xs ys d (omega arith) (omega arith))

pub taken_more : {X Y : Type 0} (f : X → Y) (xs : List X) (ys now : List Y) (i : ℕ) (d : X) (y : Y) → i < length xs → length xs ≤ length ys → now ≡ taken_to f i xs ys → y ≡ f (get_or xs i d) → set now i y ≡ taken_to f (i + 1) xs ys
taken_more f xs ys now i d y some room is made =
    ap (set now i) made ∙ ap (λ l. set l i (f (get_or xs i d))) is ∙ taken_suc f i xs ys d some (omega (arith, some, room)) ∙ ap (λ n. taken_to f n xs ys) (sym (add-one i))

take_whole : {X : Type 0} (xs : List X) → take (length xs) xs ≡ xs
take_whole [] = refl
take_whole (x ∷ xs) = ap (λ l. x ∷ l) (take_whole xs)

-- all are taken
pub taken_all : {X Y : Type 0} (f : X → Y) (xs : List X) (ys : List Y) (i : ℕ) → length xs ≤ i → i ≤ length xs → taken_to f i xs ys ≡ map f xs ++ drop (length xs) ys
taken_all f xs ys i most least =
    let same : i ≡ length xs = omega (arith, most, least) in
    ap (λ n. taken_to f n xs ys) same ∙ ap (λ l. map f l ++ drop (length xs) ys) (take_whole xs)

-- empty places, of which the first are taken
pub places_taken : {X : Type 0} (f : X → ListedActivity) (xs : List X) (n : ℕ) → length xs ≤ n → map (λ x. Some (f x)) xs ++ drop (length xs) (replicate n None) ≡ places_for n (map f xs)
places_taken f [] zero few = refl
places_taken f [] (suc n) few = ap (λ l. None ∷ l) (empty n)
  where
    empty : (m : ℕ) → replicate m None ≡ places_for m []
    empty zero = refl
    empty (suc m) = ap (λ l. None ∷ l) (empty m)
places_taken f (x ∷ xs) zero few = absurd (omega arith)
places_taken f (x ∷ xs) (suc n) few = ap (λ l. Some (f x) ∷ l) (places_taken f xs n (omega arith))
