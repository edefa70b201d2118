-- What the tests say where no one of them holds.
use Rattle.std.proofs.Common.{◌≡◌, Bool, true, false, not, None, List, [], ◌∷◌, refl}
use Rattle.tc_types.specs.declared.refusals.Refusal.{Refusal}
use Rattle.tc_book.specs.Acts.{first_refusal}

-- none of these tests holds
abbrev pub NoneHolds : List (Bool × Refusal) → Type 0
NoneHolds [] = Unit {0}
NoneHolds (test ∷ tests) = (test.0 ≡ false) × NoneHolds tests

-- the tests that let an act pass
pub none_holds : (tests : List (Bool × Refusal)) → first_refusal tests ≡ None → NoneHolds tests
none_holds [] e = tt
none_holds ((true, r) ∷ tests) e = cc
none_holds ((false, r) ∷ tests) e = (refl, none_holds tests e)

pub not_false : (t : Bool) → not t ≡ false → t ≡ true
not_false true e = refl
not_false false e = cc
