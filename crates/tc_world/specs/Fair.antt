-- What lets a session whose windows fit end by its timer, its limit or its end alone.
use Rattle.std.specs.Prelude.{◌≡◌, ◌≢◌, ℕ, ◌==◌, Bool, true, false, List, [], ◌∷◌}
use Rattle.tc_types.specs.declared.link.frames.Frame.{Frame}
use Rattle.tc_types.specs.declared.link.frames.Frame.TheVariants.{Ad, Unlock, SetVr}
use Rattle.tc_types.specs.declared.link.reports.Report.{Report}
use Rattle.tc_types.specs.declared.link.reports.Report.TheVariants.{Word, Telemetry}
use Rattle.tc_farm.specs.ControlWord.{field}
use Rattle.tc_farm.specs.declared.farms.FarmView.{FarmView}
use Rattle.tc_fop.specs.declared.signals.FopState.{FopState}
use Rattle.tc_fop.specs.declared.signals.Indication.TheVariants as signal
use Rattle.tc_fop.specs.Machine.{Machine}
use Rattle.tc_fop.specs.Calls.{is_taking}
use Rattle.tc_fop.specs.Standing.{is_starting}
use Rattle.tc_fop.specs.Fair.{is_checking, is_retransmitting, may_alert}
use Rattle.tc_world.specs.declared.events.LinkIndication.{LinkIndication}
use Rattle.tc_world.specs.declared.events.LinkIndication.TheVariants.{Fop, Farm, Received, Lost, Transmitted}
use Rattle.tc_world.specs.Abstraction.{Bare, report_value}
use Rattle.tc_world.specs.Kept.{Each, Pairs}

-- ---- what is claimed of one event

-- no alert is told but one that may come in this state
abbrev pub is_fair : Bool → FopState → LinkIndication → Bool
is_fair level state (Fop (signal.Sent n)) = true
is_fair level state (Fop (signal.Confirmed n)) = true
is_fair level state (Fop (signal.GivenBack n)) = true
is_fair level state (Fop (signal.InDoubt n)) = true
is_fair level state (Fop (signal.Alert kind)) = may_alert level state kind
is_fair level state (Fop signal.Started) = true
is_fair level state (Farm verdict) = true
is_fair level state (Received item) = true
is_fair level state Lost = true
is_fair level state (Transmitted frame) = true

-- ---- what stands between two events

-- the control words of the downlink
abbrev pub words_of : List Report → List ℕ
words_of [] = []
words_of (Word word ∷ items) = word ∷ words_of items
words_of (Telemetry telemetry ∷ items) = words_of items

-- the flags of the 32 bits of a control word
abbrev pub is_set : ℕ → ℕ → Bool
is_set bit word = field bit 1 word == 1

abbrev pub asks : ℕ → Bool  -- Retransmit
asks word = is_set 11 word

-- no word has Lockout, and Wait comes with Retransmit
abbrev pub AreOpen : List ℕ → Type 0
AreOpen = Each (λ (x : ℕ). (is_set 13 x ≡ false) × (is_set 12 x ≡ true → asks x ≡ true))

abbrev pub NoneAsks : List ℕ → Type 0
NoneAsks = Each (λ (x : ℕ). asks x ≡ false)

-- type-AD frames alone
abbrev pub NoControl : List Frame → Type 0
NoControl [] = Unit {0}
NoControl (Ad number request body ∷ frames) = NoControl frames
NoControl (Unlock ∷ frames) = ⊥
NoControl (SetVr v ∷ frames) = ⊥

-- control commands stand before each type-AD frame
abbrev pub ControlsFirst : List Frame → Type 0
ControlsFirst [] = Unit {0}
ControlsFirst (Ad number request body ∷ frames) = NoControl frames
ControlsFirst (Unlock ∷ frames) = ControlsFirst frames
ControlsFirst (SetVr v ∷ frames) = ControlsFirst frames

abbrev pub has_control : List Frame → Bool
has_control [] = false
has_control (Ad number request body ∷ frames) = has_control frames
has_control (Unlock ∷ frames) = true
has_control (SetVr v ∷ frames) = true

-- In S1 to S3, of the FOP, the FARM and what flies. A word that asks for a frame again does not report V(S); words behind
-- it with its report value ask too, and so does the FARM, which is as a last word. In S2 and S3 each word that reports
-- NN(R) asks. Control commands fly first, and while one flies nothing asks.
pub record IsMarked (m : Machine) (farm : FarmView) (up : List Frame) (words : List ℕ) : Type 0 where
  pub below : Each (λ (x : ℕ). asks x ≡ true → report_value x ≢ m.vs) words
  pub below_farm : farm.retransmit ≡ true → farm.vr ≢ m.vs
  pub on : Pairs (λ (x y : ℕ). asks x ≡ true → report_value x ≡ report_value y → asks y ≡ true) words
  pub on_farm : Each (λ (x : ℕ). asks x ≡ true → report_value x ≡ farm.vr → farm.retransmit ≡ true) words
  pub asked : is_retransmitting m.state ≡ true → Each (λ (x : ℕ). report_value x ≡ m.nn → asks x ≡ true) words
  pub asked_farm : is_retransmitting m.state ≡ true → farm.vr ≡ m.nn → farm.retransmit ≡ true
  pub first : ControlsFirst up
  pub quiet : has_control up ≡ true → NoneAsks words × (farm.retransmit ≡ false)

-- before the service begins: where a word does not ask, none behind it does, nor the FARM
pub record IsCalming (farm : FarmView) (words : List ℕ) : Type 0 where
  pub on : Pairs (λ (x y : ℕ). asks x ≡ false → asks y ≡ false) words
  pub on_farm : Each (λ (x : ℕ). asks x ≡ false → farm.retransmit ≡ false) words

-- a start with check that was level: nothing flies up, and each word reports V(S), with no flag
pub record IsLevel (m : Machine) (farm : FarmView) (up : List Frame) (words : List ℕ) : Type 0 where
  pub nothing_up : up ≡ []
  pub vr : farm.vr ≡ m.vs
  pub wait : farm.wait ≡ false
  pub retransmit : farm.retransmit ≡ false
  pub level_words : Each (λ (x : ℕ). (report_value x ≡ m.vs) × (is_set 12 x ≡ false) × (asks x ≡ false)) words

-- What stands between two events where K fitted at every moment so far, so that only those alerts come that may.
pub record IsFair (w : Bare) : Type 0 where
  pub open_words : AreOpen (words_of w.down)
  pub marked : is_taking w.fop.state ≡ true → IsMarked w.fop w.farm w.up (words_of w.down)
  pub calming : is_starting w.fop.state ≡ true → IsCalming w.farm (words_of w.down)
  pub level : is_checking w.fop.state ≡ true → w.level ≡ true → IsLevel w.fop w.farm w.up (words_of w.down)

-- the same, as a claim
abbrev pub IsFairOn : Bare → Type 0
IsFairOn w = w.clean ≡ true → w.fits ≡ true → IsFair w
