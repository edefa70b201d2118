-- Where windows fit, the FARM meets no frame outside its window, and it never enters Lockout.
use Rattle.std.proofs.Common.{◌≡◌, ◌≢◌, ℕ, ◌+◌, ◌-◌, ◌/◌, ◌%◌, ◌<◌, ◌≤◌, ◌⊎◌, inl, inr, Bool, true, false, List, ◌∷◌, ◌++◌, length, refl, sym, ◌∙◌, ap, subst, arith}
use Rattle.std.specs.Prelude.{if◌then◌else◌, ◌==◌, nat_lt, nat_le}
use Rattle.std.proofs.lemmas.Bool.{false≢true, cases_Bool}
use Rattle.std.proofs.lemmas.Bool.Decides.{nat_tests}
use Rattle.tc_types.specs.declared.link.frames.Frame.{Frame}
use Rattle.tc_types.specs.declared.link.frames.Frame.TheVariants.{Ad, Unlock, SetVr}
use Rattle.tc_farm.specs.declared.farms.FarmState.{FarmState}
use Rattle.tc_farm.specs.declared.farms.FarmState.TheVariants.{Open, Wait, Lockout}
use Rattle.tc_farm.specs.declared.farms.FarmView.{FarmView}
use Rattle.tc_farm.specs.Farm.{IsFarm, Case, ExpectedWithBuffer, ExpectedWithoutBuffer, AheadInWindow, BehindInWindow, OutsideWindow, case_of, farm_cell, changed, distance, farm_after, with_vr}
use Rattle.tc_world.specs.Abstraction.{Bare}
use Rattle.tc_world.specs.Kept.{IsSane, AreFrames, AreControls}
use Rattle.tc_world.specs.Fitting.{half_window}
use Rattle.tc_world.specs.Sublist.{IsSublist, IsSublist-behind}
use Rattle.tc_world.proofs.FrameLists.{frames_behind, controls_behind}
use Rattle.tc_world.proofs.Lists.{each_sub}

-- a frame inside the window
abbrev pub IsInside : ℕ → ℕ → Type 0
IsInside half d = (d < half) ⊎ (256 - half ≤ d)

outside_lockout : (c : Case) (s : FarmState) (farm : FarmView) → c ≢ OutsideWindow → farm.lockout ≡ false → (changed (farm_cell c s) farm).lockout ≡ false
outside_lockout ExpectedWithBuffer Open farm inside e = e
outside_lockout ExpectedWithBuffer Wait farm inside e = e
outside_lockout ExpectedWithBuffer Lockout farm inside e = e
outside_lockout ExpectedWithoutBuffer Open farm inside e = e
outside_lockout ExpectedWithoutBuffer Wait farm inside e = e
outside_lockout ExpectedWithoutBuffer Lockout farm inside e = e
outside_lockout AheadInWindow Open farm inside e = e
outside_lockout AheadInWindow Wait farm inside e = e
outside_lockout AheadInWindow Lockout farm inside e = e
outside_lockout BehindInWindow Open farm inside e = e
outside_lockout BehindInWindow Wait farm inside e = e
outside_lockout BehindInWindow Lockout farm inside e = e
outside_lockout OutsideWindow Open farm inside e = absurd (inside refl)
outside_lockout OutsideWindow Wait farm inside e = absurd (inside refl)
outside_lockout OutsideWindow Lockout farm inside e = absurd (inside refl)

-- the three tests of the table, as values
case_by : Bool → Bool → Bool → Bool → Case
case_by here free_buffer ahead behind =
    if here then (if free_buffer then ExpectedWithBuffer else ExpectedWithoutBuffer)
    else if ahead then AheadInWindow
    else if behind then BehindInWindow
    else OutsideWindow

inside_by : (here free_buffer ahead behind : Bool) → (ahead ≡ true) ⊎ (behind ≡ true) → case_by here free_buffer ahead behind ≢ OutsideWindow
unfolding case_by
inside_by true true ahead behind h = λ e. cc
inside_by true false ahead behind h = λ e. cc
inside_by false free_buffer true behind h = λ e. cc
inside_by false free_buffer false true h = λ e. cc
inside_by false free_buffer false false (inl h) = absurd (false≢true h)
inside_by false free_buffer false false (inr h) = absurd (false≢true h)

inside_case : (half d : ℕ) (free_buffer : Bool) → IsInside half d → case_of half d free_buffer ≢ OutsideWindow
unfolding case_by
inside_case half d free_buffer (inl h) =
    let ahead : nat_lt d half ≡ true = grind (arith, nat_tests, h) in
    inside_by (d == 0) free_buffer (nat_lt d half) (nat_le (256 - half) d) (inl ahead)
inside_case half d free_buffer (inr h) =
    let behind : nat_le (256 - half) d ≡ true = grind (arith, nat_tests, h) in
    inside_by (d == 0) free_buffer (nat_lt d half) (nat_le (256 - half) d) (inr behind)

-- the frame of a position near the next one is inside the window
near_inside : (base n accepted sent half number vr : ℕ) → number ≡ (base + n) % 256 → vr ≡ (base + accepted) % 256
    → half ≤ 127 → accepted ≤ n + half → n < accepted + half → IsInside half (distance number vr)
near_inside base n accepted sent half number vr e f few low high =
    elim (cases_Bool (nat_lt n accepted)) [
      | inl behind ↦
          let before : n < accepted = grind (arith, nat_tests, behind) in
          inr (let far : 256 - half ≤ (number + 256 - vr) % 256 = omega (arith, e, f, few, low, before) in far)
      | inr ahead ↦
          let after : accepted ≤ n = grind (arith, nat_tests, ahead) in
          inl (let near : (number + 256 - vr) % 256 < half = omega (arith, e, f, few, high, after) in near)
    ]

-- a Set V(R) leaves the flag
set_vr_open : (v : ℕ) (s : FarmState) (farm : FarmView) → farm.lockout ≡ false → (with_vr v s farm).lockout ≡ false
set_vr_open v Open farm e = e
set_vr_open v Wait farm e = e
set_vr_open v Lockout farm e = e

-- no frame that flies brings Lockout
pub boards_open : (w : Bare) (frame : Frame) (room : Bool) (lost rest : List Frame) → w.up ≡ lost ++ frame ∷ rest
    → IsFarm w.farm → IsSane (half_window w) w → w.farm.lockout ≡ false → (farm_after w.farm frame room).lockout ≡ false
boards_open w Unlock room lost rest up farm sane e = refl
boards_open w (SetVr v) room lost rest up farm sane e = set_vr_open v w.farm.state w.farm e
boards_open w (Ad number request body) room lost rest up farm (inl (started, kept)) e =
    absurd (controls_behind w.newest.base lost (Ad number request body ∷ rest) (subst (λ (l : List Frame). AreControls w.newest.base l) up kept.up))
boards_open w (Ad number request body) room lost rest up farm (inr (ns, rs, started, kept)) e =
    let base = w.newest.base in
    let half = half_window w in
    let b = frames_behind base w.newest.sent lost (Ad number request body ∷ rest) ns (subst (λ (l : List Frame). AreFrames base w.newest.sent l ns) up kept.frames) in
    let f = b.4 in
    let sub = subst (λ (l : List ℕ). IsSublist (f.0 ∷ f.1) l) (sym (b.2 ∙ ap (λ (l : List ℕ). b.0 ++ l) f.2)) (IsSublist-behind b.0 (f.0 ∷ f.1)) in
    let low = (each_sub (λ (n : ℕ). length w.newest.accepted ≤ n + half) (f.0 ∷ f.1) ns sub kept.window.up_low).0 in
    let high = (each_sub (λ (n : ℕ). n < length w.newest.sent) (f.0 ∷ f.1) ns sub kept.window.up_high).0 in
    let few : half ≤ 127 = omega (arith, farm.window.2) in
    let inside = near_inside base f.0 (length w.newest.accepted) (length w.newest.sent) half number w.farm.vr f.3 kept.vr few low
    (omega (arith, high, kept.window.sent_few, kept.window.confirmed_few)) in
    outside_lockout (case_of half (distance number w.farm.vr) room) w.farm.state w.farm (inside_case half (distance number w.farm.vr) room inside) e

-- the window width stays
changed_window : (c : Case) (s : FarmState) (farm : FarmView) → (changed (farm_cell c s) farm).window ≡ farm.window
changed_window c s farm = grind arith

set_vr_window : (v : ℕ) (s : FarmState) (farm : FarmView) → (with_vr v s farm).window ≡ farm.window
set_vr_window v Open farm = refl
set_vr_window v Wait farm = refl
set_vr_window v Lockout farm = refl

pub boards_window : (farm : FarmView) (frame : Frame) (room : Bool) → (farm_after farm frame room).window ≡ farm.window
boards_window farm (Ad number request body) room = changed_window (case_of (farm.window / 2) (distance number farm.vr) room) farm.state farm
boards_window farm Unlock room = refl
boards_window farm (SetVr v) room = set_vr_window v farm.state farm
