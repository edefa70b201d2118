-- The next word of those that stand one behind the other, each where it is taken.
use Rattle.std.proofs.Common.{◌≡◌, ◌∙◌, ℕ, Option, Some, None, List, [], ◌∷◌, refl, ap, subst}
use Rattle.tc_script.specs.declared.slots.Slot.{Slot}
use Rattle.tc_script.specs.Slots.{behind}
use Rattle.tc_script.specs.Fits.{Fits}
use Rattle.tc_script.specs.Faults.{Follow}

-- a word stands at a place, and what stands behind it follows
pub record Next (at : Slot) (given : List (List ℕ)) : Type 0 where
  pub word : List ℕ
  pub others : List (List ℕ)
  pub is : given ≡ word ∷ others
  pub fits : Fits at word
  pub more : Follow (behind at word) others

pub next : (at : Slot) (given : List (List ℕ)) → Follow (Some at) given → Next at given
next at [] follow = absurd follow
next at (word ∷ others) follow = record { word = word; others = others; is = refl; fits = follow.0; more = follow.1 }

-- where a line ends, no word is left
pub at_end : (given : List (List ℕ)) → Follow None given → given ≡ []
at_end [] follow = refl
at_end (word ∷ others) follow = absurd follow

-- a word at a place behind which the line ends
pub one_word : (at : Slot) (given : List (List ℕ)) → ((word : List ℕ) → behind at word ≡ None) → Follow (Some at) given → (word : List ℕ) × (given ≡ word ∷ []) × Fits at word
one_word at given last follow =
    let one = next at given follow in
    let none = at_end one.others (subst (λ (to : Option Slot). Follow to one.others) (last one.word) one.more) in
    (one.word, one.is ∙ ap (λ others. one.word ∷ others) none, one.fits)
