-- What a loop made of the items of a list, one more.
use Rattle.std.proofs.Common.{◌≡◌, ◌∙◌, ℕ, ◌+◌, ◌<◌, List, [], ◌∷◌, ◌++◌, length, map, take, get_or, refl, ap, sym}
use Rattle.std.proofs.lemmas.List.{take_more}

mapped_last : {X Y : Type 0} (f : X → Y) (xs : List X) (x : X) → map f (xs ++ x ∷ []) ≡ map f xs ++ f x ∷ []
mapped_last f [] x = refl
mapped_last f (z ∷ xs) x = ap (λ l. f z ∷ l) (mapped_last f xs x)

pub map_more : {X Y : Type 0} (f : X → Y) (xs : List X) (i : ℕ) (x : X) (old new : List Y) (y : Y) → i < length xs → x ≡ get_or xs i x → old ≡ map f (take i xs) → new ≡ old ++ y ∷ [] → y ≡ f x → new ≡ map f (take (i + 1) xs)
map_more f xs i x old new y low is before after made =
    after ∙ ap (λ l. l ++ y ∷ []) before ∙ ap (λ z. map f (take i xs) ++ z ∷ []) made ∙ sym (mapped_last f (take i xs) x)
    ∙ ap (map f) (ap (λ z. take i xs ++ z ∷ []) is ∙ sym (take_more xs i x low))
