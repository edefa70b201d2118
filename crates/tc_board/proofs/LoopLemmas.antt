-- A loop over `iter_mut` that puts f of each item in its place.
use Rattle.std.proofs.Common.{◌≡◌, ℕ, ◌+◌, ◌<◌, zero, suc, Bool, true, false, if◌then◌else◌, List, [], ◌∷◌, ◌++◌, length, map, take, drop, set, get_or, add-one, refl, sym, ◌∙◌, ap, arith}

-- the list once the loop has come to the index i
abbrev pub mapped_to : {X : Type 0} → (X → X) → ℕ → List X → List X
mapped_to f i xs = map f (take i xs) ++ drop i xs

-- the item that comes next is as it was, and is then written
mapped_suc : {X : Type 0} (f : X → X) (xs : List X) (i : ℕ) (d : X) → i < length xs → set (mapped_to f i xs) i (f (get_or (mapped_to f i xs) i d)) ≡ mapped_to f (suc i) xs
mapped_suc f [] i d low = absurd (omega arith)
mapped_suc f (x ∷ xs) zero d low = refl
mapped_suc f (x ∷ xs) (suc i) d low = ap (λ l. f x ∷ l) (mapped_suc f xs i d (omega arith))

-- one item more
pub mapped_more : {X : Type 0} (f : X → X) (xs now : List X) (i : ℕ) (d y : X) → i < length xs → now ≡ mapped_to f i xs → y ≡ f (get_or now i d) → set now i y ≡ mapped_to f (i + 1) xs
mapped_more f xs now i d y low is made =
    ap (set now i) made
    ∙ ap (λ l. set l i (f (get_or l i d))) is
    ∙ mapped_suc f xs i d low
    ∙ ap (λ n. mapped_to f n xs) (sym (add-one i))

-- one item more that passes the test, where only those are changed that do
pub chosen_more : {X : Type 0} (p : X → Bool) (h : X → X) (xs now : List X) (i : ℕ) (d y : X) → i < length xs → now ≡ mapped_to (λ a. if p a then h a else a) i xs
    → p (get_or now i d) ≡ true → y ≡ h (get_or now i d) → set now i y ≡ mapped_to (λ a. if p a then h a else a) (i + 1) xs
chosen_more p h xs now i d y low is passes made =
    mapped_more (λ a. if p a then h a else a) xs now i d y low is (made ∙ ap (λ b. if b then h (get_or now i d) else get_or now i d) (sym passes))

-- one item more that does not
pub other_more : {X : Type 0} (p : X → Bool) (h : X → X) (xs now : List X) (i : ℕ) (d : X) → i < length xs → now ≡ mapped_to (λ a. if p a then h a else a) i xs
    → p (get_or now i d) ≡ false → set now i (get_or now i d) ≡ mapped_to (λ a. if p a then h a else a) (i + 1) xs
other_more p h xs now i d low is not_it =
    mapped_more (λ a. if p a then h a else a) xs now i d (get_or now i d) low is (ap (λ b. if b then h (get_or now i d) else get_or now i d) (sym not_it))
