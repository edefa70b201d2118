-- A reader that reads a word, or reads none, tells whether the word is the spelling of a value.
use Rattle.std.proofs.Common.{◌≡◌, ◌∙◌, ◌||◌, Bool, true, false, Option, Some, None, List, [], ◌∷◌, ℕ, refl, sym, ap, subst}
use Rattle.std.specs.Prelude.{⊤, IsTrue, ◌↔◌, is_some}
use Rattle.std.specs.List.{list_any}
use Rattle.tc_types.specs.Grammar.{Reads}
use Rattle.tc_types.specs.Names.{IsPerson}
use Rattle.tc_types.specs.StepGrammar.{second_word, IsSecond}
use Rattle.tc_types.specs.declared.history.places.Place.{Place}
use Rattle.tc_types.specs.declared.history.places.Place.TheVariants.{Entered, Approved, Queued, Sent, Confirmed, Riding, Scheduled, Accepted, Started, Completed, Failed, Doubtful, Withdrawn, Deleted, Closed}
use Rattle.tc_types.specs.declared.history.places.TheConstants.{ALL_PLACES}
use Rattle.tc_types.specs.Lines.{place_name}
use Rattle.tc_script.specs.Verbs.{same}
use Rattle.tc_script.specs.Fits.{Spells, IsDash}
use Rattle.tc_script.proofs.WordLemmas.{word_is}

pub read_spells : {X : Type 0} (text : X → List ℕ) (In : X → Type 0) (word : List ℕ) (read : Option X) → Reads text In word read → IsTrue (is_some read) ↔ Spells text In word
read_spells text In word None reads = (λ it. cc, λ (x, is, kept). let bad : ◌≡◌ {A = Option _} None (Some x) = reads.only x kept is in cc)
read_spells text In word (Some x) reads = (λ it. (x, reads.found.0, reads.found.1), λ it. refl)

-- one whose values are their own spellings
pub read_is : (In : List ℕ → Type 0) (word : List ℕ) (read : Option (List ℕ)) → Reads (λ it. it) In word read → IsTrue (is_some read) ↔ In word
read_is In word None reads = (λ it. cc, λ is. let bad : ◌≡◌ {A = Option (List ℕ)} None (Some word) = reads.only word is refl in cc)
read_is In word (Some x) reads = (λ it. subst In (sym reads.found.0) reads.found.1, λ it. refl)

-- the second person is one, where it is no dash
pub second_spelled : (word : List ℕ) (is : Bool) → (IsTrue is ↔ IsPerson word) → ¬ IsDash word → IsTrue is ↔ Spells second_word IsSecond word
second_spelled word is told named = (λ it. (Some word, refl, told.0 it), back)
  where
    back : Spells second_word IsSecond word → IsTrue is
    back (None, dash, none) = absurd (named dash)
    back (Some person, spelled, kept) = told.1 (subst IsPerson (sym spelled) kept)

-- the name of one of these places is that of a place
named_place : (places : List Place) (word : List ℕ) → list_any (λ (place : Place). same (place_name place) word) places ≡ true → Spells place_name (λ place. ⊤) word
named_place [] word any = cc
named_place (place ∷ places) word any = by_first (same (place_name place) word) refl (named_place places word)
  where
    by_first : (is : Bool) → same (place_name place) word ≡ is
        → (list_any (λ (p : Place). same (place_name p) word) places ≡ true → Spells place_name (λ place. ⊤) word) → Spells place_name (λ place. ⊤) word
    by_first true is others = (place, sym (word_is (place_name place) word is), tt)
    by_first false is others = others (sym (ap (λ (b : Bool). b || list_any (λ (p : Place). same (place_name p) word) places) is) ∙ any)

-- a word is the name of a place exactly where it is that of one of all
pub place_spelled : (word : List ℕ) → IsTrue (list_any (λ (place : Place). same (place_name place) word) ALL_PLACES) ↔ Spells place_name (λ place. ⊤) word
place_spelled word = (named_place ALL_PLACES word, back)
  where
    Named : List ℕ → Type 0
    Named w = list_any (λ (place : Place). same (place_name place) w) ALL_PLACES ≡ true

    back : Spells place_name (λ place. ⊤) word → IsTrue (list_any (λ (place : Place). same (place_name place) word) ALL_PLACES)
    back (Entered, is, kept) = subst Named (sym is) refl
    back (Approved, is, kept) = subst Named (sym is) refl
    back (Queued, is, kept) = subst Named (sym is) refl
    back (Sent, is, kept) = subst Named (sym is) refl
    back (Confirmed, is, kept) = subst Named (sym is) refl
    back (Riding, is, kept) = subst Named (sym is) refl
    back (Scheduled, is, kept) = subst Named (sym is) refl
    back (Accepted, is, kept) = subst Named (sym is) refl
    back (Started, is, kept) = subst Named (sym is) refl
    back (Completed, is, kept) = subst Named (sym is) refl
    back (Failed, is, kept) = subst Named (sym is) refl
    back (Doubtful, is, kept) = subst Named (sym is) refl
    back (Withdrawn, is, kept) = subst Named (sym is) refl
    back (Deleted, is, kept) = subst Named (sym is) refl
    back (Closed, is, kept) = subst Named (sym is) refl
