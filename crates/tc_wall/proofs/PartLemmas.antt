-- Parts that are added one after the other.
use Rattle.std.proofs.Common.{◌≡◌, ℕ, ◌+◌, ◌<◌, List, [], ◌∷◌, ◌++◌, take, length, get_or, ap, sym, ◌∙◌, append_assoc, append-nil, subst}
use Rattle.std.proofs.lemmas.List.{take_more}
use Rattle.std.specs.List.{flat_map}
use Rattle.std.specs.Prelude.{OnOk, Result, Ok, Err}
use Rattle.tc_wall.proofs.ListLemmas.{flat_map-append}
use Rattle.tc_wall.specs.Parts.{Part, shown, shown_all, Adds}

-- nothing was added
pub none_added : (old : List ℕ) → Adds [] old old
none_added old = record { bytes = sym (append-nil old) }

-- these, and then those
pub then_adds : (a b : List Part) (old mid new : List ℕ) → Adds a old mid → Adds b mid new → Adds (a ++ b) old new
then_adds a b old mid new first then = record {
  bytes = then.bytes ∙ ap (λ l. l ++ shown_all b) first.bytes ∙ append_assoc old (shown_all a) (shown_all b) ∙ ap (λ l. old ++ l) (sym (flat_map-append shown a b));
}

-- what was written is the parts
pub added : {E : Type 0} (r : Result (Unit {0}) E) (parts : List Part) (old new : List ℕ) → OnOk r (new ≡ old ++ shown_all parts) → OnOk r (Adds parts old new)
added (Ok done) parts old new is = record { bytes = is }
added (Err error) parts old new is = tt

-- the last call adds its parts, if it is done
pub last_adds : {E : Type 0} (r : Result (Unit {0}) E) (a b : List Part) (old mid new : List ℕ) → Adds a old mid → OnOk r (Adds b mid new) → OnOk r (Adds (a ++ b) old new)
last_adds (Ok done) a b old mid new first second = then_adds a b old mid new first second
last_adds (Err error) a b old mid new first second = tt

-- the parts of one item more
pub one_more_at : {X : Type 0} (f : X → List Part) (xs : List X) (k : ℕ) (d : X) (old mid new : List ℕ) → k < length xs → Adds (flat_map f (take k xs)) old mid → Adds (f (get_or xs k d)) mid new
    → Adds (flat_map f (take (k + 1) xs)) old new
one_more_at f xs k d old mid new within first then =
    subst (λ parts. Adds parts old new)
    (ap (λ l. flat_map f (take k xs) ++ l) (sym (append-nil (f (get_or xs k d)))) ∙ sym (flat_map-append f (take k xs) (get_or xs k d ∷ [])) ∙ ap (flat_map f) (sym (take_more xs k d within)))
    (then_adds (flat_map f (take k xs)) (f (get_or xs k d)) old mid new first then)

pub one_more : {X : Type 0} (f : X → List Part) (xs : List X) (k : ℕ) (x : X) (old mid new : List ℕ) → k < length xs → x ≡ get_or xs k x → Adds (flat_map f (take k xs)) old mid → Adds (f x) mid new
    → Adds (flat_map f (take (k + 1) xs)) old new
one_more f xs k x old mid new within is first then = one_more_at f xs k x old mid new within first (subst (λ y. Adds (f y) mid new) is then)
