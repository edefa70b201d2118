-- What the items of a list give, one after the other, as a loop over their numbers comes to it.
use Rattle.std.proofs.Common.{◌≡◌, ℕ, ◌+◌, ◌-◌, ◌<◌, ◌==◌, true, false, if◌then◌else◌, Option, Some, None, List, [], ◌∷◌, ◌++◌, length, take, inl, inr, refl, sym, ◌∙◌, ap, arith}
use Rattle.std.specs.List.{cons_option, filter_map, slice_get}
use Rattle.std.specs.Option.{option_and_then}
use Rattle.std.proofs.lemmas.Bool.Decides.{nat_tests}
use Rattle.std.proofs.lemmas.List.{append_assoc, take_more}
use Rattle.std.proofs.lemmas.List.Elements.{filter_map-append}
use Rattle.std.proofs.lemmas.Option.{slice_get_cases}

numbered : {X : Type 0} → List X → ℕ → Option X
numbered xs n = if n == 0 then None else slice_get xs (n - 1)

numbered_next : {X : Type 0} (xs : List X) (i : ℕ) → numbered xs (i + 1) ≡ slice_get xs i
unfolding numbered
numbered_next xs i =
    let some : (i + 1 == 0) ≡ false = grind (arith, nat_tests) in
    let place : i + 1 - 1 ≡ i = omega arith in
    rw (some, place) refl

-- what the item with the next number gives goes behind what those before it gave
pub given_more : {X Y : Type 0} (h : X → Option Y) (xs : List X) (i : ℕ) (old now new : List Y) → i < length xs
    → now ≡ old ++ filter_map h (take i xs) → new ≡ now ++ cons_option (option_and_then h (if i + 1 == 0 then None else slice_get xs (i + 1 - 1))) [] → new ≡ old ++ filter_map h (take (i + 1) xs)
unfolding numbered
given_more {X} {Y} h xs i old now new low before after =
    elim (slice_get_cases xs i).1 [
      | inl (x, _, is, same) ↦
          after
          ∙ ap (λ (o : Option X). now ++ cons_option (option_and_then h o) []) (numbered_next xs i ∙ is)
          ∙ ap (λ l. l ++ cons_option (h x) []) before
          ∙ append_assoc old (filter_map h (take i xs)) (cons_option (h x) [])
          ∙ ap (λ l. old ++ l)
          (sym (filter_map-append h (take i xs) (x ∷ []))
          ∙ ap (λ y. filter_map h (take i xs ++ y ∷ [])) (sym same)
          ∙ ap (filter_map h) (sym (take_more xs i x low)))
      | inr (past, _) ↦ absurd (omega (arith, past, low))
    ]
