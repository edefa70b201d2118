-- Frames in flight, and the positions for which they fly.
use Rattle.std.proofs.Common.{◌≡◌, ℕ, zero, suc, inl, inr, Some, List, [], ◌∷◌, ◌++◌, slice_get, refl, sym, ◌∙◌, ap, subst}
use Rattle.tc_types.specs.declared.link.frames.Frame.{Frame}
use Rattle.tc_types.specs.declared.link.frames.Frame.TheVariants.{Ad, Unlock, SetVr}
use Rattle.tc_world.specs.Sublist.{IsSublist, IsSublist-nil}
use Rattle.tc_world.specs.Kept.{AreFrames, HasNoSetVr, IsLeftover, AreControls}

-- frames left out fly for the same positions left out
pub frames_sub : (base : ℕ) (sent : List ℕ) (fs gs : List Frame) (ns : List ℕ) → IsSublist fs gs → AreFrames base sent gs ns
    → (ms : List ℕ) × IsSublist ms ns × AreFrames base sent fs ms
frames_sub base sent fs [] ns h a = ([], IsSublist-nil ns, subst (λ l. AreFrames base sent l []) (sym h) refl)
frames_sub base sent fs (Ad number request body ∷ gs) ns h a =
    elim h [
      | inl k ↦
          let c = frames_sub base sent fs gs a.1 k a.5 in
          (c.0, subst (λ l. IsSublist c.0 l) (sym a.2) (inl c.1), c.2)
      | inr k ↦
          let c = frames_sub base sent k.0 gs a.1 k.2 a.5 in (
            a.0 ∷ c.0,
            subst (λ l. IsSublist (a.0 ∷ c.0) l) (sym a.2) (inr (c.0, refl, c.1)),
            subst (λ l. AreFrames base sent l (a.0 ∷ c.0)) (sym k.1) (a.0, c.0, refl, a.3, a.4, c.2),
          )
    ]
frames_sub base sent fs (Unlock ∷ gs) ns h a =
    elim h [
      | inl k ↦ frames_sub base sent fs gs ns k a
      | inr k ↦
          let c = frames_sub base sent k.0 gs ns k.2 a in
          (c.0, c.1, subst (λ l. AreFrames base sent l c.0) (sym k.1) c.2)
    ]
frames_sub base sent fs (SetVr v ∷ gs) ns h a =
    elim h [
      | inl k ↦ frames_sub base sent fs gs ns k a
      | inr k ↦
          let c = frames_sub base sent k.0 gs ns k.2 a in
          (c.0, c.1, subst (λ l. AreFrames base sent l c.0) (sym k.1) c.2)
    ]

-- the frames here and there fly for the positions here and there
pub frames_append : (base : ℕ) (sent : List ℕ) (fs gs : List Frame) (ns ms : List ℕ)
    → AreFrames base sent fs ns → AreFrames base sent gs ms → AreFrames base sent (fs ++ gs) (ns ++ ms)
frames_append base sent [] gs ns ms a b = subst (λ l. AreFrames base sent gs (l ++ ms)) (sym a) b
frames_append base sent (Ad number request body ∷ fs) gs ns ms a b =
    (a.0, a.1 ++ ms, ap (λ l. l ++ ms) a.2, a.3, a.4, frames_append base sent fs gs a.1 ms a.5 b)
frames_append base sent (Unlock ∷ fs) gs ns ms a b = frames_append base sent fs gs ns ms a b
frames_append base sent (SetVr v ∷ fs) gs ns ms a b = frames_append base sent fs gs ns ms a b

-- what stands at a place still does with more behind
pub get_before : (xs more : List ℕ) (n request : ℕ) → slice_get xs n ≡ Some request → slice_get (xs ++ more) n ≡ Some request
get_before [] more n request e = cc
get_before (x ∷ xs) more zero request e = e
get_before (x ∷ xs) more (suc n) request e = get_before xs more n request e

-- more requests are sent, and the frames fly for the same positions
pub frames_grow : (base : ℕ) (sent more : List ℕ) (fs : List Frame) (ns : List ℕ)
    → AreFrames base sent fs ns → AreFrames base (sent ++ more) fs ns
frames_grow base sent more [] ns a = a
frames_grow base sent more (Ad number request body ∷ fs) ns a =
    (a.0, a.1, a.2, a.3, get_before sent more a.0 request a.4, frames_grow base sent more fs a.1 a.5)
frames_grow base sent more (Unlock ∷ fs) ns a = frames_grow base sent more fs ns a
frames_grow base sent more (SetVr v ∷ fs) ns a = frames_grow base sent more fs ns a

-- what flies behind a front
pub frames_behind : (base : ℕ) (sent : List ℕ) (front fs : List Frame) (ns : List ℕ) → AreFrames base sent (front ++ fs) ns
    → (ms os : List ℕ) × (ns ≡ ms ++ os) × AreFrames base sent front ms × AreFrames base sent fs os
frames_behind base sent [] fs ns a = ([], ns, refl, refl, a)
frames_behind base sent (Ad number request body ∷ front) fs ns a =
    let c = frames_behind base sent front fs a.1 a.5 in
    (a.0 ∷ c.0, c.1, a.2 ∙ ap (λ l. a.0 ∷ l) c.2, (a.0, c.0, refl, a.3, a.4, c.3), c.4)
frames_behind base sent (Unlock ∷ front) fs ns a = frames_behind base sent front fs ns a
frames_behind base sent (SetVr v ∷ front) fs ns a = frames_behind base sent front fs ns a

-- control commands fly for nothing
pub frames_controls : (base : ℕ) (sent : List ℕ) (fs : List Frame) → AreControls base fs → AreFrames base sent fs []
frames_controls base sent [] a = refl
frames_controls base sent (Ad number request body ∷ fs) a = absurd a
frames_controls base sent (Unlock ∷ fs) a = frames_controls base sent fs a
frames_controls base sent (SetVr v ∷ fs) a = frames_controls base sent fs a.1

-- frames are left out
pub no_set_vr_sub : (fs gs : List Frame) → IsSublist fs gs → HasNoSetVr gs → HasNoSetVr fs
no_set_vr_sub fs [] h a = subst (λ l. HasNoSetVr l) (sym h) tt
no_set_vr_sub fs (Ad number request body ∷ gs) h a =
    elim h [
      | inl k ↦ no_set_vr_sub fs gs k a
      | inr k ↦ subst (λ l. HasNoSetVr l) (sym k.1) (no_set_vr_sub k.0 gs k.2 a)
    ]
no_set_vr_sub fs (Unlock ∷ gs) h a =
    elim h [
      | inl k ↦ no_set_vr_sub fs gs k a
      | inr k ↦ subst (λ l. HasNoSetVr l) (sym k.1) (no_set_vr_sub k.0 gs k.2 a)
    ]
no_set_vr_sub fs (SetVr v ∷ gs) h a = absurd a

-- frames are put behind
pub no_set_vr_append : (fs gs : List Frame) → HasNoSetVr fs → HasNoSetVr gs → HasNoSetVr (fs ++ gs)
no_set_vr_append [] gs a b = b
no_set_vr_append (Ad number request body ∷ fs) gs a b = no_set_vr_append fs gs a b
no_set_vr_append (Unlock ∷ fs) gs a b = no_set_vr_append fs gs a b
no_set_vr_append (SetVr v ∷ fs) gs a b = absurd a

-- frames behind a front
pub no_set_vr_behind : (front fs : List Frame) → HasNoSetVr (front ++ fs) → HasNoSetVr fs
no_set_vr_behind [] fs a = a
no_set_vr_behind (Ad number request body ∷ front) fs a = no_set_vr_behind front fs a
no_set_vr_behind (Unlock ∷ front) fs a = no_set_vr_behind front fs a
no_set_vr_behind (SetVr v ∷ front) fs a = absurd a

-- where no Set V(R) flies, none is left over
pub no_set_vr_leftover : (base accepted : ℕ) (fs : List Frame) → HasNoSetVr fs → IsLeftover base accepted fs
no_set_vr_leftover base accepted [] a = tt
no_set_vr_leftover base accepted (Ad number request body ∷ fs) a = a
no_set_vr_leftover base accepted (Unlock ∷ fs) a = no_set_vr_leftover base accepted fs a
no_set_vr_leftover base accepted (SetVr v ∷ fs) a = absurd a

-- frames are left out of what was left over
pub leftover_sub : (base accepted : ℕ) (fs gs : List Frame) → IsSublist fs gs → IsLeftover base accepted gs → IsLeftover base accepted fs
leftover_sub base accepted fs [] h a = subst (λ l. IsLeftover base accepted l) (sym h) tt
leftover_sub base accepted fs (Ad number request body ∷ gs) h a =
    elim h [
      | inl k ↦ no_set_vr_leftover base accepted fs (no_set_vr_sub fs gs k a)
      | inr k ↦ subst (λ l. IsLeftover base accepted l) (sym k.1) (no_set_vr_sub k.0 gs k.2 a)
    ]
leftover_sub base accepted fs (Unlock ∷ gs) h a =
    elim h [
      | inl k ↦ leftover_sub base accepted fs gs k a
      | inr k ↦ subst (λ l. IsLeftover base accepted l) (sym k.1) (leftover_sub base accepted k.0 gs k.2 a)
    ]
leftover_sub base accepted fs (SetVr v ∷ gs) h a =
    elim h [
      | inl k ↦ leftover_sub base accepted fs gs k a.2
      | inr k ↦ subst (λ l. IsLeftover base accepted l) (sym k.1) (a.0, a.1, leftover_sub base accepted k.0 gs k.2 a.2)
    ]

-- frames that are no Set V(R) are put behind
pub leftover_append : (base accepted : ℕ) (fs gs : List Frame) → IsLeftover base accepted fs → HasNoSetVr gs → IsLeftover base accepted (fs ++ gs)
leftover_append base accepted [] gs a b = no_set_vr_leftover base accepted gs b
leftover_append base accepted (Ad number request body ∷ fs) gs a b = no_set_vr_append fs gs a b
leftover_append base accepted (Unlock ∷ fs) gs a b = leftover_append base accepted fs gs a b
leftover_append base accepted (SetVr v ∷ fs) gs a b = (a.0, a.1, leftover_append base accepted fs gs a.2 b)

-- what is left over behind a front
pub leftover_behind : (base accepted : ℕ) (front fs : List Frame) → IsLeftover base accepted (front ++ fs) → IsLeftover base accepted fs
leftover_behind base accepted [] fs a = a
leftover_behind base accepted (Ad number request body ∷ front) fs a = no_set_vr_leftover base accepted fs (no_set_vr_behind front fs a)
leftover_behind base accepted (Unlock ∷ front) fs a = leftover_behind base accepted front fs a
leftover_behind base accepted (SetVr v ∷ front) fs a = leftover_behind base accepted front fs a.2

-- control commands of this start are harmless while nothing was accepted
pub controls_leftover : (base : ℕ) (fs : List Frame) → AreControls base fs → IsLeftover base 0 fs
controls_leftover base [] a = tt
controls_leftover base (Ad number request body ∷ fs) a = absurd a
controls_leftover base (Unlock ∷ fs) a = controls_leftover base fs a
controls_leftover base (SetVr v ∷ fs) a = (a.0, refl, controls_leftover base fs a.1)

-- control commands are left out
pub controls_sub : (base : ℕ) (fs gs : List Frame) → IsSublist fs gs → AreControls base gs → AreControls base fs
controls_sub base fs [] h a = subst (λ l. AreControls base l) (sym h) tt
controls_sub base fs (Ad number request body ∷ gs) h a = absurd a
controls_sub base fs (Unlock ∷ gs) h a =
    elim h [
      | inl k ↦ controls_sub base fs gs k a
      | inr k ↦ subst (λ l. AreControls base l) (sym k.1) (controls_sub base k.0 gs k.2 a)
    ]
controls_sub base fs (SetVr v ∷ gs) h a =
    elim h [
      | inl k ↦ controls_sub base fs gs k a.1
      | inr k ↦ subst (λ l. AreControls base l) (sym k.1) (a.0, controls_sub base k.0 gs k.2 a.1)
    ]

-- control commands are put behind
pub controls_append : (base : ℕ) (fs gs : List Frame) → AreControls base fs → AreControls base gs → AreControls base (fs ++ gs)
controls_append base [] gs a b = b
controls_append base (Ad number request body ∷ fs) gs a b = absurd a
controls_append base (Unlock ∷ fs) gs a b = controls_append base fs gs a b
controls_append base (SetVr v ∷ fs) gs a b = (a.0, controls_append base fs gs a.1 b)

-- control commands behind a front
pub controls_behind : (base : ℕ) (front fs : List Frame) → AreControls base (front ++ fs) → AreControls base fs
controls_behind base [] fs a = a
controls_behind base (Ad number request body ∷ front) fs a = absurd a
controls_behind base (Unlock ∷ front) fs a = controls_behind base front fs a
controls_behind base (SetVr v ∷ front) fs a = controls_behind base front fs a.1
