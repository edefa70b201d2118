-- What stands between two events, and carries the window's claims.
use Rattle.std.specs.Prelude.{◌≡◌, ◌⊎◌, ℕ, ◌+◌, ◌%◌, ◌<◌, ◌≤◌, true, false, Some, List, [], ◌∷◌, ◌++◌, length, take, drop, slice_get}
use Rattle.tc_types.specs.declared.link.frames.Frame.{Frame}
use Rattle.tc_types.specs.declared.link.frames.Frame.TheVariants.{Ad, Unlock, SetVr}
use Rattle.tc_types.specs.declared.link.reports.Report.{Report}
use Rattle.tc_types.specs.declared.link.reports.Report.TheVariants.{Word, Telemetry}
use Rattle.tc_farm.specs.declared.clcws.Clcw.{Clcw}
use Rattle.tc_farm.specs.ControlWord.{word_of}
use Rattle.tc_farm.specs.Farm.{IsFarm}
use Rattle.tc_fop.specs.declared.signals.FopState.{FopState}
use Rattle.tc_fop.specs.declared.signals.FopState.TheVariants.{Active, RetransmitWithoutWait, RetransmitWithWait, InitialisingWithoutBc, InitialisingWithBc, Initial}
use Rattle.tc_fop.specs.Machine.{Machine, option_list}
use Rattle.tc_fop.specs.Calls.{is_taking}
use Rattle.tc_fop.specs.Standing.{IsFop}
use Rattle.tc_fop.specs.Requests.{sent_requests, waiting_requests}
use Rattle.tc_world.specs.Session.{Session}
use Rattle.tc_world.specs.Abstraction.{Bare, session_with, report_value}
use Rattle.tc_world.specs.Window.{Distinct, ArePrefixed}
use Rattle.tc_world.specs.World.{all_sent}

-- each item has P
abbrev pub Each : (ℕ → Type 0) → List ℕ → Type 0
Each P [] = Unit {0}
Each P (x ∷ xs) = P x × Each P xs

-- each item and each one behind it have R
abbrev pub Pairs : (ℕ → ℕ → Type 0) → List ℕ → Type 0
Pairs R [] = Unit {0}
Pairs R (x ∷ xs) = Each (R x) xs × Pairs R xs

-- A session whose window is kept: with S, R and N the lengths of sent, accepted and confirmed, N <= R <= S <= N + bound;
-- the positions in flight lie within the bound of R, and each within the bound of those behind it; the reports in
-- flight lie from N to R and rise.
pub record IsInWindow (bound : ℕ) (s : Session) : Type 0 where
  pub small : bound ≤ 255
  pub accepted : s.accepted ≡ take (length s.accepted) s.sent
  pub confirmed : s.confirmed ≡ take (length s.confirmed) s.sent
  pub confirmed_few : length s.confirmed ≤ length s.accepted
  pub accepted_few : length s.accepted ≤ length s.sent
  pub sent_few : length s.sent ≤ length s.confirmed + bound
  pub up_low : Each (λ (n : ℕ). length s.accepted ≤ n + bound) s.up
  pub up_high : Each (λ (n : ℕ). n < length s.sent) s.up
  pub up_order : Pairs (λ (n m : ℕ). n + 1 ≤ m + bound) s.up
  pub down_low : Each (λ (r : ℕ). length s.confirmed ≤ r) s.down
  pub down_high : Each (λ (r : ℕ). r ≤ length s.accepted) s.down
  pub down_order : Pairs (λ (r q : ℕ). r ≤ q) s.down

-- These frames fly for these positions: each under its position's number, with the request that stands there. Control
-- commands fly for none.
abbrev pub AreFrames : ℕ → List ℕ → List Frame → List ℕ → Type 0
AreFrames base sent [] ns = ns ≡ []
AreFrames base sent (Ad number request body ∷ frames) ns =
    (n : ℕ) × (others : List ℕ) × (ns ≡ n ∷ others) × (number ≡ (base + n) % 256)
    × (slice_get sent n ≡ Some request) × AreFrames base sent frames others
AreFrames base sent (Unlock ∷ frames) ns = AreFrames base sent frames ns
AreFrames base sent (SetVr v ∷ frames) ns = AreFrames base sent frames ns

-- These control words fly for these reports; other reports fly for none.
abbrev pub AreWords : ℕ → List Report → List ℕ → Type 0
AreWords base [] rs = rs ≡ []
AreWords base (Word word ∷ items) rs =
    (r : ℕ) × (others : List ℕ) × (rs ≡ r ∷ others) × (report_value word ≡ (base + r) % 256) × AreWords base items others
AreWords base (Telemetry telemetry ∷ items) rs = AreWords base items rs

-- no Set V(R) among these
abbrev pub HasNoSetVr : List Frame → Type 0
HasNoSetVr [] = Unit {0}
HasNoSetVr (Ad number request body ∷ frames) = HasNoSetVr frames
HasNoSetVr (Unlock ∷ frames) = HasNoSetVr frames
HasNoSetVr (SetVr v ∷ frames) = ⊥

-- A Set V(R) that is left in flight from the start sets V(R) to the base once more: it is harmless since none flies
-- behind a type-AD frame, and while one flies nothing was accepted.
abbrev pub IsLeftover : ℕ → ℕ → List Frame → Type 0
IsLeftover base accepted [] = Unit {0}
IsLeftover base accepted (Ad number request body ∷ frames) = HasNoSetVr frames
IsLeftover base accepted (Unlock ∷ frames) = IsLeftover base accepted frames
IsLeftover base accepted (SetVr v ∷ frames) = (v ≡ base) × (accepted ≡ 0) × IsLeftover base accepted frames

-- control commands alone, each Set V(R) to the base
abbrev pub AreControls : ℕ → List Frame → Type 0
AreControls base [] = Unit {0}
AreControls base (Ad number request body ∷ frames) = ⊥
AreControls base (Unlock ∷ frames) = AreControls base frames
AreControls base (SetVr v ∷ frames) = (v ≡ base) × AreControls base frames

-- each control word reports the base
abbrev pub AllReport : ℕ → List Report → Type 0
AllReport base [] = Unit {0}
AllReport base (Word word ∷ items) = (report_value word ≡ base) × AllReport base items
AllReport base (Telemetry telemetry ∷ items) = AllReport base items

-- Before the service begins: once a control word in flight reports the base, all behind it do, and V(R) is the base.
abbrev pub Sticks : ℕ → ℕ → List Report → Type 0
Sticks base vr [] = Unit {0}
Sticks base vr (Word word ∷ items) = (report_value word ≡ base → AllReport base items × (vr ≡ base)) × Sticks base vr items
Sticks base vr (Telemetry telemetry ∷ items) = Sticks base vr items

-- each control word in flight is one that the FARM made, on this channel
abbrev pub AreOwnWords : ℕ → List Report → Type 0
AreOwnWords vc [] = Unit {0}
AreOwnWords vc (Word word ∷ items) =
    ((clcw : Clcw) × (word ≡ word_of clcw) × (clcw.vc ≡ vc) × (clcw.report < 256)) × AreOwnWords vc items
AreOwnWords vc (Telemetry telemetry ∷ items) = AreOwnWords vc items

-- a FOP that is starting has V(S) = NN(R) = the base, and its BC frame is a control command of this start
pub record IsStarting (base : ℕ) (m : Machine) : Type 0 where
  pub vs : m.vs ≡ base
  pub nn : m.nn ≡ base
  pub control : AreControls base (option_list m.control)

-- by its state: it is starting, or in S6, of which nothing is said; it has not begun
abbrev pub Starts : ℕ → FopState → Machine → Type 0
Starts base Active m = ⊥
Starts base RetransmitWithoutWait m = ⊥
Starts base RetransmitWithWait m = ⊥
Starts base InitialisingWithoutBc m = IsStarting base m
Starts base InitialisingWithBc m = IsStarting base m
Starts base Initial m = Unit {0}

-- A session that has not started: nothing was sent, only control commands of this start fly.
pub record IsUnstarted (w : Bare) : Type 0 where
  pub base : w.newest.base < 256
  pub sent : w.newest.sent ≡ []
  pub accepted : w.newest.accepted ≡ []
  pub confirmed : w.newest.confirmed ≡ []
  pub up : AreControls w.newest.base w.up
  pub down : Sticks w.newest.base w.farm.vr w.down
  pub fop : Starts w.newest.base w.fop.state w.fop

-- The FOP stands for the session: NN(R) counts the confirmed, V(S) the sent, and the Sent_Queue is what lies between.
pub record Stands (base : ℕ) (s : Session) (m : Machine) : Type 0 where
  pub nn : m.nn ≡ (base + length s.confirmed) % 256
  pub vs : m.vs ≡ (base + length s.sent) % 256
  pub sent : sent_requests m ≡ drop (length s.confirmed) s.sent

-- A session that has started, with these positions and reports in flight. Where the service has ended the FOP stands for
-- nothing, and frames may still arrive.
pub record IsStarted (bound : ℕ) (w : Bare) (ns rs : List ℕ) : Type 0 where
  pub base : w.newest.base < 256
  pub window : IsInWindow bound (session_with w.newest ns rs)
  pub frames : AreFrames w.newest.base w.newest.sent w.up ns
  pub leftover : IsLeftover w.newest.base (length w.newest.accepted) w.up
  pub words : AreWords w.newest.base w.down rs
  pub vr : w.farm.vr ≡ (w.newest.base + length w.newest.accepted) % 256
  pub fop : ((is_taking w.fop.state ≡ true) × Stands w.newest.base (session_with w.newest ns rs) w.fop) ⊎ (w.fop.state ≡ Initial)

abbrev pub IsSane : ℕ → Bare → Type 0
IsSane bound w =
    ((w.newest.started ≡ false) × IsUnstarted w)
    ⊎ ((ns : List ℕ) × (rs : List ℕ) × (w.newest.started ≡ true) × IsStarted bound w ns rs)

-- What stands between two events.
pub record IsKept (w : Bare) : Type 0 where
  pub fop : IsFop w.fop
  pub farm : IsFarm w.farm
  pub words : AreOwnWords w.vc w.down
  pub distinct : Distinct (all_sent w ++ waiting_requests w.fop)
  pub past : w.clean ≡ true → ArePrefixed w.past
  pub sane : w.clean ≡ true → IsSane 255 w
