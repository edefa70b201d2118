-- Tries of a copy, one after the other.
use Rattle.std.proofs.Common.{◌≡◌, ◌≢◌, ◌<◌, ◌+◌, ℕ, zero, suc, List, [], ◌∷◌, ◌++◌, Option, Some, add-one, refl, subst, sym}
use Rattle.std.specs.Prelude.{◌↔◌, true, false}
use Rattle.tc_copy.specs.declared.marks.Marks.{Marks}
use Rattle.tc_copy.specs.declared.pairs.Unpaired.{Unpaired}
use Rattle.tc_copy.specs.declared.pairs.Unpaired.TheVariants.{Named, Unlogged, Unopened}
use Rattle.tc_copy.specs.declared.copying.Reading.{Reading}
use Rattle.tc_copy.specs.declared.copying.Reading.TheVariants.{Torn, Unpaired as NoPair, Whole}
use Rattle.tc_copy.specs.Asked.{Asked, paused}
use Rattle.tc_copy.specs.Pairs.{HaveOneName, is_log_held}
use Rattle.tc_copy.specs.Tries.{AreInVain, AreTries, IsNoPair, IsTry}

pub told_why : (marks : Marks) (found : Option Unpaired) (why : Unpaired) → found ≡ Some why → ((found ≡ Some Named) ↔ ¬ HaveOneName marks)
    → ((found ≡ Some Unlogged) ↔ (HaveOneName marks × (marks.is_held ≡ true) × (is_log_held marks.log ≡ false)))
    → ((found ≡ Some Unopened) ↔ (HaveOneName marks × (marks.is_held ≡ false) × (is_log_held marks.log ≡ true))) → IsNoPair marks why
told_why marks found Named is named unlogged unopened = named.0 is
told_why marks found Unlogged is named unlogged unopened = unlogged.0 is
told_why marks found Unopened is named unlogged unopened = unopened.0 is

pub whole_at_last : (most count : ℕ) (other reading : Reading) (earlier last : List Asked) → reading ≡ Whole → count < most → AreInVain count other earlier
    → IsTry reading last → AreTries most reading (earlier ++ last)
whole_at_last most count other Whole earlier last same less vain try = (count, other, earlier, last, less, refl, vain, try)
whole_at_last most count other Torn earlier last same less vain try = cc
whole_at_last most count other (NoPair why) earlier last same less vain try = cc

-- tries that were all in vain
pub in_vain_till : (most : ℕ) (reading : Reading) (asked : List Asked) → AreInVain most reading asked → AreTries most reading asked
in_vain_till zero Whole asked vain = let none = vain.1 in cc
in_vain_till (suc count) Whole asked vain = absurd (vain.5 refl)
in_vain_till most Torn asked vain = vain
in_vain_till most (NoPair why) asked vain = vain

-- one try more in vain, and a pause
pub one_more : (count : ℕ) (other reading : Reading) (earlier last : List Asked) → reading ≢ Whole → AreInVain count other earlier → IsTry reading last
    → AreInVain (count + 1) reading (earlier ++ (last ++ paused ∷ []))
one_more count other reading earlier last differs vain try =
    subst (λ (n : ℕ). AreInVain n reading (earlier ++ (last ++ paused ∷ []))) (sym (add-one count)) (earlier, last, other, refl, vain, differs, try)
