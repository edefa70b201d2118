-- Who is let in.
use Rattle.std.proofs.Common.{◌≡◌, ◌↔◌, ◌∙◌, ◌||◌, ℕ, Bool, true, false, IsTrue, Option, Some, None, List, [], ◌∷◌, ap, map, refl, sym, take}
use Rattle.std.specs.List.{list_any}
use Rattle.std.specs.Prelude.{not}
use Rattle.std.proofs.lemmas.Bool.{false≢true}
use Rattle.httparse.specs.Grammar.{RequestHead}
use Rattle.httparse.specs.Spans.{name_and_value}
use Rattle.httparse.proofs.GrammarLemmas.{request_unique}
use Rattle.tc_front.specs.Door.{IsForeign, IsForeignFront, lets_in}
use Rattle.tc_front.specs.Ends.{head_end, skip_ends}
use Rattle.tc_front.specs.Judge.{IsGoodHead}

pub any_mapped : {X Y : Type 0} (f : X → Y) (p : Y → Bool) (xs : List X) → list_any (λ x. p (f x)) xs ≡ list_any p (map f xs)
any_mapped f p [] = refl
any_mapped f p (x ∷ xs) = ap (λ b. p (f x) || b) (any_mapped f p xs)

-- ---- a head

lets : List (List ℕ) → RequestHead → Bool
lets hosts h = lets_in hosts h.method (map name_and_value h.fields)

pub head_found : (hosts : List (List ℕ)) (text : List ℕ) (h : RequestHead) (r : Bool) → IsGoodHead text 64 h → r ≡ lets_in hosts h.method (map name_and_value h.fields)
    → IsTrue (not r) ↔ IsForeign hosts text
unfolding lets
head_found hosts text h true good is = (
  (λ e. absurd (false≢true e)),
  (λ f. let same = request_unique text h f.0 [] [] good.0 f.1.0 in absurd (false≢true (sym (is ∙ ap (lets hosts) same.0 ∙ f.2)))),
)
head_found hosts text h false good is = ((λ e. (h, good, sym is)), (λ f. refl))

pub no_head : (hosts : List (List ℕ)) (text : List ℕ) → ((h : RequestHead) → ¬ (IsGoodHead text 64 h)) → IsTrue false ↔ IsForeign hosts text
no_head hosts text none = ((λ e. absurd (false≢true e)), (λ f. absurd (none f.0 f.1)))

-- ---- a front

pub front_found : (found : Option ℕ) (end : ℕ) (hosts : List (List ℕ)) (text : List ℕ) (r : Bool) → found ≡ head_end (take 8192 text) → found ≡ Some end
    → (IsTrue r ↔ IsForeign hosts (skip_ends (take end text))) → IsTrue r ↔ IsForeignFront hosts text
unfolding IsForeignFront
front_found found end hosts text r at is foreign = rw (sym at) (rw is foreign)

pub no_front : (found : Option ℕ) (hosts : List (List ℕ)) (text : List ℕ) → found ≡ head_end (take 8192 text) → found ≡ None → IsTrue false ↔ IsForeignFront hosts text
unfolding IsForeignFront
no_front found hosts text at is = rw (sym at) (rw is ((λ e. absurd (false≢true e)), (λ f. absurd f)))
