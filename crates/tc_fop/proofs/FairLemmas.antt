-- Which alerts a list of actions tells, and what the table does at a control word that fits.
use Rattle.std.proofs.Common.{◌≡◌, ℕ, true, sym, subst, Option, Some, None, List, [], ◌∷◌, ◌++◌, map, take, refl, ◌∙◌, ap}
use Rattle.std.specs.Prelude.{◌&&◌}
use Rattle.std.specs.List.{flat_map, list_all}
use Rattle.std.proofs.lemmas.Grind.{flat_map-append}
use Rattle.std.proofs.lemmas.List.Folds.{list_all-append}
use Rattle.tc_fop.specs.declared.signals.AlertKind.{AlertKind}
use Rattle.tc_fop.specs.declared.signals.Indication.TheVariants as indication
use Rattle.std.specs.Prelude.{Bool, Ok, Err}
use Rattle.std.proofs.lemmas.Bool.{false≢true}
use Rattle.tc_fop.specs.declared.signals.FopState.{FopState}
use Rattle.tc_fop.specs.Calls.{Given, Answers}
use Rattle.tc_fop.specs.Machine.{Machine, Held, Waiting, Out, Action, Remove, To, Initiate, SetVsAlone, SetVsAndNn, Transmit, Alert, change, transmitted, said, output, after, due, transmits, option_list, given_back}
use Rattle.tc_fop.specs.Fair.{alert_by, alerts_in, may_alert, may_come, AllMayCome, leaves_standing, AllLeaveStanding, is_retransmitting}
use Rattle.tc_fop.proofs.RequestLemmas.{both}
use Rattle.tc_fop.proofs.MoveLemmas.{silent_map, silent_append}

-- an alert tells itself
alert_told : (kind : AlertKind) (m : Machine) → flat_map alert_by (given_back kind m) ≡ kind ∷ []
alert_told kind m =
    let doubted = map (λ (held : Held). indication.InDoubt held.request) m.sent in
    let back = map (λ (w : Waiting). indication.GivenBack w.request) (option_list m.waiting) in
    flat_map-append alert_by (doubted ++ back) (indication.Alert kind ∷ [])
    ∙ ap (λ l. l ++ kind ∷ []) (silent_append alert_by doubted back
    (silent_map alert_by (λ (held : Held). indication.InDoubt held.request) (λ held. refl) m.sent)
    (silent_map alert_by (λ (w : Waiting). indication.GivenBack w.request) (λ w. refl) (option_list m.waiting)))

-- ---- the alerts that may come in a state

transmits_may : (level : Bool) (state : FopState) (w : Option Waiting) (vs : ℕ) → list_all (may_alert level state) (alerts_in (transmits w vs)) ≡ true
transmits_may level state None vs = refl
transmits_may level state (Some w) vs = refl

step_may : (level : Bool) (state : FopState) (a : Action) (m : Machine) → may_come level state a ≡ true → list_all (may_alert level state) (alerts_in (said a m)) ≡ true
step_may level state (Alert kind) m h = ap (λ l. list_all (may_alert level state) l) (alert_told kind m) ∙ ap (λ b. b && true) h
step_may level state (Remove d) m h =
    ap (λ l. list_all (may_alert level state) l) (silent_map alert_by (λ (held : Held). indication.Confirmed held.request) (λ held. refl) (take d m.sent))
step_may level state Transmit m h = transmits_may level state (due m) m.vs
step_may level state a m h = refl

run_may : (level : Bool) (state : FopState) (todo : List Action) (m : Machine) → list_all (may_come level state) todo ≡ true
    → list_all (may_alert level state) (alerts_in (output todo m)) ≡ true
run_may level state [] m h = refl
run_may level state (a ∷ todo) m h =
    let x = both (may_come level state a) (list_all (may_come level state) todo) h in
    let mine = (said a m).indications in
    let rest = (output todo (change a m)).indications in
    ap (λ l. list_all (may_alert level state) l) (flat_map-append alert_by mine rest)
    ∙ list_all-append (may_alert level state) (flat_map alert_by mine) (flat_map alert_by rest)
    ∙ ap (λ b. b && list_all (may_alert level state) (flat_map alert_by rest)) (step_may level state a m x.0)
    ∙ run_may level state todo (change a m) x.1

pub given_may : (level : Bool) (state : FopState) (given : Given) (m new : Machine) (out : Out) → AllMayCome level state given
    → Answers given m new (Ok out) → list_all (may_alert level state) (alerts_in out) ≡ true
given_may level state (Ok actions) m new out h e = ap (λ (o : Out). list_all (may_alert level state) (alerts_in o)) e.1 ∙ run_may level state actions m h
given_may level state (Err refusal) m new out h e = absurd e

-- ---- where the service stands

-- NN(R) is as before, and S2 and S3 are not entered
abbrev StandsAs : Machine → Machine → Type 0
StandsAs m new = (new.nn ≡ m.nn) × (is_retransmitting new.state ≡ true → is_retransmitting m.state ≡ true)

transmitted_stands : (w : Option Waiting) (m : Machine) → StandsAs m (transmitted w m)
transmitted_stands None m = (refl, λ e. e)
transmitted_stands (Some w) m = (refl, λ e. e)

step_stands : (a : Action) (m : Machine) → leaves_standing a ≡ true → StandsAs m (change a m)
step_stands (Remove d) m h = absurd (false≢true h)
step_stands (To state) m h = absurd (false≢true h)
step_stands (Initiate control) m h = absurd (false≢true h)
step_stands (SetVsAlone v) m h = absurd (false≢true h)
step_stands (SetVsAndNn v) m h = absurd (false≢true h)
step_stands Transmit m h = transmitted_stands (due m) m
step_stands (Alert kind) m h = (refl, λ e. absurd (false≢true e))
step_stands a m h = (refl, λ e. e)

run_stands : (todo : List Action) (m : Machine) → list_all leaves_standing todo ≡ true → StandsAs m (after todo m)
run_stands [] m h = (refl, λ e. e)
run_stands (a ∷ todo) m h =
    let x = both (leaves_standing a) (list_all leaves_standing todo) h in
    let one = step_stands a m x.0 in
    let rest = run_stands todo (change a m) x.1 in
    (rest.0 ∙ one.0, λ e. one.1 (rest.1 e))

pub given_stands : (given : Given) (m new : Machine) (out : Out) → AllLeaveStanding given
    → Answers given m new (Ok out) → is_retransmitting new.state ≡ true → (is_retransmitting m.state ≡ true) × (new.nn ≡ m.nn)
given_stands (Ok actions) m new out h e again =
    let s = subst (λ (x : Machine). StandsAs m x) (sym e.0) (run_stands actions m h) in
    (s.1 again, s.0)
given_stands (Err refusal) m new out h e again = absurd e
