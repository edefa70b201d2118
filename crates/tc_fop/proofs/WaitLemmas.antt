-- An offer that waits while the window is closed.
use Rattle.std.proofs.Common.{◌≡◌, Bool, true, false, if◌then◌else◌, Some, IsOk, IfOk, List, [], ◌∷◌, map, refl, sym, ◌∙◌, ap}
use Rattle.std.proofs.lemmas.Bool.{true≢false}
use Rattle.tc_fop.specs.declared.signals.FopState.{FopState}
use Rattle.tc_fop.specs.Machine.{Machine, Held, Waiting, Action, Wait, Resend, Transmit, change, after, output, nothing, joined, cleared, flagged_of, is_window_open, due_from, transmitted, transmits, frame_of}
use Rattle.tc_fop.specs.Calls.{offered, is_taking, look_in}
use Rattle.tc_fop.specs.Standing.{IsFop}
use Rattle.tc_fop.proofs.TableLemmas.{by_state, of_offer}

clear_of : (flag : Bool) (held : Held) (others : List Held) → held.flagged ≡ flag → (if flag then held ∷ flagged_of others else flagged_of others) ≡ []
    → (cleared held ≡ held) × (flagged_of others ≡ [])
clear_of true held others e h = cc
clear_of false held others e h = (ap (λ (b : Bool). record held { flagged = b }) (sym e), h)

-- where no flag is set, nothing is to be cleared
cleared_same : (sent : List Held) → flagged_of sent ≡ [] → map cleared sent ≡ sent
cleared_same [] h = refl
cleared_same (held ∷ others) h =
    let parts = clear_of held.flagged held others refl h in
    ap (λ (x : Held). x ∷ map cleared others) parts.0 ∙ ap (λ (l : List Held). held ∷ l) (cleared_same others parts.1)

abbrev pub WaitsBy : List Action → Machine → Waiting → Type 0
WaitsBy actions m w = (change (Wait w) m ≡ after actions m) × (nothing ≡ output actions m)

looks_idly : (opened : Bool) (m : Machine) (w : Waiting) → is_window_open m ≡ opened → opened ≡ false → flagged_of m.sent ≡ []
    → WaitsBy (Wait w ∷ Resend ∷ Transmit ∷ []) m w
looks_idly true m w o e f = absurd (true≢false e)
looks_idly false m w o e f =
    let x : Machine = change Resend (change (Wait w) m) in
    let same : change (Wait w) m ≡ x = ap (λ (l : List Held). record (change (Wait w) m) { sent = l }) (sym (cleared_same m.sent f)) in (
      same ∙ ap (λ (b : Bool). transmitted (due_from b (Some w)) x) (sym o),
      sym (ap (λ (b : Bool). joined nothing (joined (record { frames = map frame_of (flagged_of m.sent); indications = [] }) (joined (transmits (due_from b (Some w)) m.vs) nothing))) o
          ∙ ap (λ (l : List Held). joined nothing (joined (record { frames = map frame_of l; indications = [] }) (joined nothing nothing))) f),
    )

pub waits_only : (m : Machine) (w : Waiting) → IsFop m → is_window_open m ≡ false → IsOk (offered m w) → IfOk (offered m w) (λ (actions : List Action). WaitsBy actions m w)
waits_only m w h closed =
    of_offer (λ given. IsOk given → IfOk given (λ (actions : List Action). WaitsBy actions m w)) (is_taking m.state) m.waiting (Wait w ∷ look_in m.state)
    (λ e. absurd (true≢false (sym e)))
    (λ e. absurd (true≢false (sym e)))
    (λ none ok. by_state (λ (s : FopState). WaitsBy (Wait w ∷ look_in s) m w)
    (looks_idly false m w closed refl h.no_flag) (looks_idly false m w closed refl h.no_flag) (refl, refl) (refl, refl) (refl, refl) (refl, refl) m.state)
