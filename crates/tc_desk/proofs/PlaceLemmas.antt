-- Who stands at one place does not stand at others.
use Rattle.std.proofs.Common.{◌≡◌, ℕ, ◌==◌, Bool, true, false, ◌||◌, Option, Some, None, List, [], ◌∷◌, ◌++◌, refl, sym, ◌∙◌, ap, subst, arith}
use Rattle.std.proofs.lemmas.Bool.Decides.{nat_tests}
use Rattle.std.proofs.lemmas.Bool.{or_from}
use Rattle.std.proofs.lemmas.List.Folds.{list_any-append}
use Rattle.std.specs.List.{list_any}
use Rattle.tc_types.specs.declared.history.places.Place.{Place}
use Rattle.tc_types.specs.Lawful.{is_among, is_one_of, place_number}
use Rattle.tc_world.specs.Kept.{Each}
use Rattle.tc_book.specs.Book.{Book, place_in}
use Rattle.tc_desk.specs.Places.{StandsAt}
use Rattle.tc_desk.proofs.TiedLemmas.{only}

-- who stands at one place does not stand among others
pub not_there : (q : Place) (good : List Place) (at : Option Place) (to : Place) → is_among (q ∷ []) at ≡ true → is_one_of good q ≡ false → is_among good at ≡ true → is_one_of good to ≡ true
not_there q good at to here out there = let no : is_one_of good q ≡ true = sym (only q good at here) ∙ there in cc

-- who stands among others does not stand at one place
pub not_here : (q : Place) (others : List Place) (at : Option Place) (to : Place) → is_among others at ≡ true → is_one_of others q ≡ false → is_among (q ∷ []) at ≡ true → is_one_of (q ∷ []) to ≡ true
not_here q others at to there out here = let no : is_one_of others q ≡ true = sym (only q others at here) ∙ there in cc

-- who stands at one of two places
pub either : (p q : Place) (good : List Place) (at : Option Place) (to : Place) → is_among (p ∷ q ∷ []) at ≡ true → is_one_of good p ≡ false → is_one_of good q ≡ false → is_among good at ≡ true → is_one_of good to ≡ true
either p q good None to here a b there = cc
either p q good (Some at) to here a b there = by_test (place_number p == place_number at) refl
  where
    by_test : (t : Bool) → (place_number p == place_number at) ≡ t → is_one_of good to ≡ true
    by_test true e = not_there p good (Some at) to (ap (λ t. t || false) e) a there
    by_test false e = not_there q good (Some at) to (subst (λ t. (t || ((place_number q == place_number at) || false)) ≡ true) e here) b there

-- who stands at a place or among others, and not at that place
pub among_others : (q : Place) (others : List Place) (at : Option Place) → is_among (q ∷ others) at ≡ true → is_among (q ∷ []) at ≡ false → is_among others at ≡ true
among_others q others None here out = cc
among_others q others (Some at) here out = by_test (place_number q == place_number at) out here
  where
    by_test : (t : Bool) → (t || false) ≡ false → (t || is_one_of others at) ≡ true → is_one_of others at ≡ true
    by_test true none there = cc
    by_test false none there = there

-- ---- lists of requests

-- who is not among these is none of them
pub none_of : (good : List Place) (book : Book) (n : ℕ) (xs : List ℕ) → is_among good (place_in book n) ≡ false → Each (StandsAt good book) xs → list_any (λ (m : ℕ). m == n) xs ≡ false
none_of good book n [] out all = refl
none_of good book n (x ∷ xs) out all = by_test (none_of good book n xs out all.1) (x == n) refl
  where
    by_test : list_any (λ (m : ℕ). m == n) xs ≡ false → (t : Bool) → (x == n) ≡ t → (t || list_any (λ (m : ℕ). m == n) xs) ≡ false
    by_test others false e = others
    by_test others true e = let same : x ≡ n = grind (arith, nat_tests) in let in_it : is_among good (place_in book n) ≡ true = subst (StandsAt good book) same all.0 in cc

pub any_behind : (test : ℕ → Bool) (xs ys : List ℕ) → list_any test xs ≡ false → list_any test ys ≡ false → list_any test (xs ++ ys) ≡ false
any_behind test xs ys a b = list_any-append test xs ys ∙ or_from (list_any test xs) (list_any test ys) a b
