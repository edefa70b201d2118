-- No line about the link has an LF in it.
use Rattle.std.proofs.Common.{◌≡◌, ℕ, ◌<◌, ◌^◌, Bool, true, false, eqb, IsTrue, [], ◌∷◌, refl, arith}
use Rattle.std.specs.Prelude.{codes, IfSome}
use Rattle.std.specs.Fmt.{decimal}
use Rattle.tc_types.specs.Grammar.{flag}
use Rattle.tc_types.specs.Words.{is_one_line}
use Rattle.tc_types.proofs.OneLine.{spaced_one, number_one}
use Rattle.tc_types.proofs.WordLaws.{lacks}
use Rattle.tc_farm.specs.declared.farms.FarmState.{FarmState}
use Rattle.tc_farm.specs.declared.farms.FarmState.TheVariants as farm_state
use Rattle.tc_farm.specs.declared.farms.FarmView.{FarmView}
use Rattle.tc_fop.specs.declared.signals.AlertKind.{AlertKind}
use Rattle.tc_fop.specs.declared.signals.AlertKind.TheVariants as kind
use Rattle.tc_fop.specs.declared.signals.FopState.{FopState}
use Rattle.tc_fop.specs.declared.signals.FopState.TheVariants as fop_state
use Rattle.tc_fop.specs.declared.signals.Indication.TheVariants as signal
use Rattle.tc_fop.specs.declared.views.FopView.{FopView}
use Rattle.tc_world.specs.declared.events.LinkIndication.{LinkIndication}
use Rattle.tc_world.specs.declared.events.LinkIndication.TheVariants as said
use Rattle.tc_desk.specs.declared.statuses.LinkStatus.{LinkStatus}
use Rattle.tc_desk.specs.StatusLines.{fop_state_name, farm_state_name, alert_name, flags_word, premise_word, fop_line, fop_end, farm_line, carriers_line, told_line}

fop_state_one : (state : FopState) → lacks 10 (fop_state_name state) ≡ true
fop_state_one fop_state.Active = refl
fop_state_one fop_state.RetransmitWithoutWait = refl
fop_state_one fop_state.RetransmitWithWait = refl
fop_state_one fop_state.InitialisingWithoutBc = refl
fop_state_one fop_state.InitialisingWithBc = refl
fop_state_one fop_state.Initial = refl

farm_state_one : (state : FarmState) → lacks 10 (farm_state_name state) ≡ true
farm_state_one farm_state.Open = refl
farm_state_one farm_state.Wait = refl
farm_state_one farm_state.Lockout = refl

alert_one : (given : AlertKind) → lacks 10 (alert_name given) ≡ true
alert_one kind.Limit = refl
alert_one kind.T1 = refl
alert_one kind.Lockout = refl
alert_one kind.Synch = refl
alert_one kind.NnR = refl
alert_one kind.Clcw = refl
alert_one kind.Term = refl

flag_one : (there : Bool) (letter : ℕ) → eqb letter 10 ≡ false → eqb (flag there letter) 10 ≡ false
flag_one true letter h = h
flag_one false letter h = refl

flags_one : (farm : FarmView) → lacks 10 (flags_word farm) ≡ true
flags_one farm = rw (flag_one farm.lockout 76 refl, flag_one farm.wait 87 refl, flag_one farm.retransmit 82 refl) refl

premise_one : (clean : Bool) → lacks 10 (premise_word clean) ≡ true
premise_one true = refl
premise_one false = refl

-- the lines
pub fop_end_one : (count timer k t1 limit : ℕ) → count < 256 → timer < 65536 → k < 256 → t1 < 65536 → limit < 256 → IsTrue (is_one_line (fop_end count timer k t1 limit))
fop_end_one count timer k t1 limit few short narrow long most =
    spaced_one (codes "count" ∷ decimal count ∷ codes "timer" ∷ decimal timer ∷ codes "k" ∷ decimal k ∷ codes "t1" ∷ decimal t1 ∷ codes "limit" ∷ decimal limit ∷ [])
    (rw (number_one count (omega arith), number_one timer (omega arith), number_one k (omega arith), number_one t1 (omega arith), number_one limit (omega arith)) refl)

pub fop_one : (v : FopView) → v.vs < 256 → v.nn < 256 → v.sent < 256 → v.waiting < 256 → IsTrue (is_one_line (fop_end v.count v.timer v.k v.t1 v.limit)) → IsTrue (is_one_line (fop_line v))
fop_one v vs nn sent waiting end =
    spaced_one
    (codes "fop" ∷ fop_state_name v.state ∷ codes "vs" ∷ decimal v.vs ∷ codes "nn" ∷ decimal v.nn ∷ codes "sent" ∷ decimal v.sent ∷ codes "wait" ∷ decimal v.waiting ∷ fop_end v.count v.timer v.k v.t1 v.limit ∷ [])
    (rw (fop_state_one v.state, number_one v.vs (omega arith), number_one v.nn (omega arith), number_one v.sent (omega arith), number_one v.waiting (omega arith), end) refl)

pub farm_one : (farm : FarmView) → farm.vr < 256 → farm.farm_b < 256 → farm.window < 256 → IsTrue (is_one_line (farm_line farm))
farm_one farm vr farm_b window =
    spaced_one (codes "farm" ∷ farm_state_name farm.state ∷ codes "vr" ∷ decimal farm.vr ∷ codes "b" ∷ decimal farm.farm_b ∷ codes "flags" ∷ flags_word farm ∷ codes "w" ∷ decimal farm.window ∷ [])
    (rw (farm_state_one farm.state, number_one farm.vr (omega arith), number_one farm.farm_b (omega arith), flags_one farm, number_one farm.window (omega arith)) refl)

pub carriers_one : (s : LinkStatus) → s.up < 2 ^ 64 → s.down < 2 ^ 64 → IsTrue (is_one_line (carriers_line s))
carriers_one s up down =
    spaced_one (codes "link" ∷ codes "up" ∷ decimal s.up ∷ codes "down" ∷ decimal s.down ∷ codes "premise" ∷ premise_word s.clean ∷ []) (rw (number_one s.up up, number_one s.down down, premise_one s.clean) refl)

-- what the link told, where it has a line
pub told_one : (told : LinkIndication) → IfSome (told_line told) (λ line. IsTrue (is_one_line line))
told_one (said.Fop (signal.Sent n)) = tt
told_one (said.Fop (signal.Confirmed n)) = tt
told_one (said.Fop (signal.GivenBack n)) = tt
told_one (said.Fop (signal.InDoubt n)) = tt
told_one (said.Fop (signal.Alert given)) = spaced_one (codes "alert" ∷ alert_name given ∷ []) (rw (alert_one given) refl)
told_one (said.Fop signal.Started) = refl
told_one (said.Farm verdict) = tt
told_one (said.Received item) = tt
told_one said.Lost = tt
told_one (said.Transmitted frame) = tt
