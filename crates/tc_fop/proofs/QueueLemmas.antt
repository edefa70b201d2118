-- The Sent_Queue as the machine has it: flags, numbers, fronts and ends.
use Rattle.std.proofs.Common.{◌≡◌, ℕ, zero, suc, ◌+◌, ◌%◌, ◌⊎◌, inl, inr, Some, List, [], ◌∷◌, ◌++◌, map, length, drop, slice_get, refl, sym, ◌∙◌, ap, ⊎_elim, zero-add, arith}
use Rattle.std.proofs.lemmas.List.{append_assoc, append-nil, length-append, map-append, drop-map, take-map}
use Rattle.tc_types.specs.declared.link.frames.Frame.TheVariants.{Ad}
use Rattle.tc_fop.specs.declared.queues.Outstanding.{Outstanding}
use Rattle.tc_fop.specs.declared.signals.Indication.TheVariants.{Confirmed, InDoubt}
use Rattle.tc_fop.specs.Machine.{Held, Out, joined, nothing, cleared, flagged, flagged_of, frame_of}
use Rattle.tc_fop.specs.Queued.{held_of}
use Rattle.tc_fop.specs.Standing.{AreNumbered}

-- what the code keeps has no flag
pub held_unflagged : (q : List Outstanding) → flagged_of (map held_of q) ≡ []
held_unflagged [] = refl
held_unflagged (first ∷ others) = held_unflagged others

pub held_cleared : (q : List Outstanding) → map cleared (map held_of q) ≡ map held_of q
held_cleared [] = refl
held_cleared (first ∷ others) = ap (λ l. held_of first ∷ l) (held_cleared others)

-- flagged, sent again and cleared it is as before
pub held_resent : (q : List Outstanding) → map cleared (map flagged (map held_of q)) ≡ map held_of q
held_resent [] = refl
held_resent (first ∷ others) = ap (λ l. held_of first ∷ l) (held_resent others)

pub resent_frames : (q : List Outstanding) → map frame_of (flagged_of (map flagged (map held_of q))) ≡ map (λ (held : Outstanding). Ad held.ns held.request held.body) q
resent_frames [] = refl
resent_frames (first ∷ others) = ap (λ l. Ad first.ns first.request first.body ∷ l) (resent_frames others)

pub held_confirmed : (q : List Outstanding) → map (λ (held : Held). Confirmed held.request) (map held_of q) ≡ map (λ (held : Outstanding). Confirmed held.request) q
held_confirmed [] = refl
held_confirmed (first ∷ others) = ap (λ l. Confirmed first.request ∷ l) (held_confirmed others)

pub held_doubted : (q : List Outstanding) → map (λ (held : Held). InDoubt held.request) (map held_of q) ≡ map (λ (held : Outstanding). InDoubt held.request) q
held_doubted [] = refl
held_doubted (first ∷ others) = ap (λ l. InDoubt first.request ∷ l) (held_doubted others)

pub slice_get_after : {X : Type 0} (d : ℕ) (xs : List X) (i : ℕ) → slice_get (drop d xs) i ≡ slice_get xs (d + i)
slice_get_after zero xs i = ap (λ j. slice_get xs j) (sym (zero-add i))
slice_get_after (suc d) [] i = refl
slice_get_after (suc d) (x ∷ xs) i =
    let e : suc (d + i) ≡ suc d + i = omega arith in
    slice_get_after d xs i ∙ ap (λ j. slice_get (x ∷ xs) j) e

-- an element of a list with one more is one of the list, or the new one at the end
push_cases : {X : Type 0} (xs : List X) (x y : X) (i : ℕ) → slice_get (xs ++ x ∷ []) i ≡ Some y → (slice_get xs i ≡ Some y) ⊎ ((i ≡ length xs) × (x ≡ y))
push_cases [] x y zero e = inr (refl, cc)
push_cases [] x y (suc i) e = inl e
push_cases (z ∷ zs) x y zero e = inl e
push_cases (z ∷ zs) x y (suc i) e =
    ⊎_elim (λ p. inl p) (λ p. inr (let step : suc i ≡ length (z ∷ zs) = omega (arith, p.0) in step, p.1)) (push_cases zs x y i e)

-- the numbers behind the front
pub numbered_drop : (n d : ℕ) (q : List Outstanding) → AreNumbered n (map held_of q) → AreNumbered ((n + d) % 256) (map held_of (drop d q))
numbered_drop n d q h = record {
  each = λ i held e.
      let there : slice_get (map held_of q) (d + i) ≡ Some held =
      sym (slice_get_after d (map held_of q) i) ∙ ap (λ l. slice_get l i) (drop-map held_of d q) ∙ e
      in
      let known = h.each (d + i) held there in
      omega (arith, known);
}

-- one more at the end
pub numbered_push : (n : ℕ) (q : List Outstanding) (x : Outstanding) → AreNumbered n (map held_of q) → x.ns ≡ (n + length (map held_of q)) % 256 → AreNumbered n (map held_of (q ++ x ∷ []))
numbered_push n q x h last = record {
  each = λ i held e.
      let whole : slice_get (map held_of q ++ held_of x ∷ []) i ≡ Some held =
      ap (λ l. slice_get l i) (sym (map-append held_of q (x ∷ []))) ∙ e
      in
      ⊎_elim (λ p. h.each i held p) (λ p. ap (λ (y : Held). y.ns) (sym p.1) ∙ last ∙ ap (λ j. (n + j) % 256) (sym p.0)) (push_cases (map held_of q) (held_of x) held i whole);
}

pub none_numbered : (n : ℕ) → AreNumbered n []
none_numbered n = record { each = λ i held e. cc }

pub joined_assoc : (a b c : Out) → joined (joined a b) c ≡ joined a (joined b c)
joined_assoc a b c i = record { frames = append_assoc a.frames b.frames c.frames i; indications = append_assoc a.indications b.indications c.indications i }

pub joined_nothing : (a : Out) → joined a nothing ≡ a
joined_nothing a i = record { frames = append-nil a.frames i; indications = append-nil a.indications i }

pub ruleset queues = (held_unflagged, held_cleared, held_resent, resent_frames, held_confirmed, held_doubted, numbered_drop, numbered_push, none_numbered, drop-map, take-map, map-append, length-append, append_assoc, append-nil)
