-- FARM-1, the frame acceptance and reporting mechanism (CCSDS 232.1-B, section 6), as a table: a frame's case by its
-- distance from V(R), and for each case and state what is done. PW = NW = W / 2.
use Rattle.std.specs.Prelude.{◌≡◌, ℕ, ◌+◌, ◌-◌, ◌/◌, ◌%◌, ◌<◌, ◌≤◌, ◌==◌, nat_lt, nat_le, Bool, true, false, if◌then◌else◌}
use Rattle.tc_types.specs.declared.link.frames.Frame.{Frame}
use Rattle.tc_types.specs.declared.link.frames.Frame.TheVariants.{Ad, Unlock, SetVr}
use Rattle.tc_farm.specs.declared.farms.FarmState.{FarmState}
use Rattle.tc_farm.specs.declared.farms.FarmState.TheVariants.{Open, Wait, Lockout}
use Rattle.tc_farm.specs.declared.farms.FarmView.{FarmView}
use Rattle.tc_farm.specs.declared.farms.FrameVerdict.{FrameVerdict}
use Rattle.tc_farm.specs.declared.farms.FrameVerdict.TheVariants.{Accepted, Discarded, Control}

-- how far a number is ahead of another, modulo 256
abbrev pub distance : ℕ → ℕ → ℕ
distance ahead from = (ahead + 256 - from) % 256

-- a window width W: even, 2 to 254
abbrev pub IsWindowWidth : ℕ → Type 0
IsWindowWidth w = (w % 2 ≡ 0) × (2 ≤ w) × (w ≤ 254)

-- what a type-AD frame is, by its distance d from V(R)
pub data Case : Type 0 where
  ExpectedWithBuffer : Case  -- d = 0, a buffer is free
  ExpectedWithoutBuffer : Case  -- d = 0, no buffer
  AheadInWindow : Case  -- 1 <= d <= PW - 1
  BehindInWindow : Case  -- 256 - NW <= d <= 255
  OutsideWindow : Case  -- else

abbrev pub case_of : ℕ → ℕ → Bool → Case
case_of half d free_buffer =
    if d == 0 then (if free_buffer then ExpectedWithBuffer else ExpectedWithoutBuffer)
    else if nat_lt d half then AheadInWindow
    else if nat_le (256 - half) d then BehindInWindow
    else OutsideWindow

-- what is done with the frame
pub data Cell : Type 0 where
  Accept : Cell  -- accept, V(R) + 1, Retransmit 0
  Discard : Cell  -- discard
  AskAgain : Cell  -- discard, Retransmit 1
  StartWaiting : Cell  -- discard, Retransmit 1, Wait 1, to Wait
  LockOut : Cell  -- discard, Lockout 1, to Lockout

abbrev pub farm_cell : Case → FarmState → Cell
farm_cell ExpectedWithBuffer Open = Accept
farm_cell ExpectedWithBuffer Wait = Discard
farm_cell ExpectedWithBuffer Lockout = Discard
farm_cell ExpectedWithoutBuffer Open = StartWaiting
farm_cell ExpectedWithoutBuffer Wait = Discard
farm_cell ExpectedWithoutBuffer Lockout = Discard
farm_cell AheadInWindow Open = AskAgain
farm_cell AheadInWindow Wait = Discard
farm_cell AheadInWindow Lockout = Discard
farm_cell BehindInWindow Open = Discard
farm_cell BehindInWindow Wait = Discard
farm_cell BehindInWindow Lockout = Discard
farm_cell OutsideWindow Open = LockOut
farm_cell OutsideWindow Wait = LockOut
farm_cell OutsideWindow Lockout = Discard

abbrev pub is_accept : Cell → Bool
is_accept Accept = true
is_accept Discard = false
is_accept AskAgain = false
is_accept StartWaiting = false
is_accept LockOut = false

-- what each cell does to the variables; what it does not name stays
abbrev pub changed : Cell → FarmView → FarmView
changed Accept farm = record farm { vr = (farm.vr + 1) % 256; retransmit = false }
changed Discard farm = farm
changed AskAgain farm = record farm { retransmit = true }
changed StartWaiting farm = record farm { state = Wait; wait = true; retransmit = true }
changed LockOut farm = record farm { state = Lockout; lockout = true }

abbrev pub cell_of : FarmView → ℕ → Bool → Cell
cell_of farm ns free_buffer = farm_cell (case_of (farm.window / 2) (distance ns farm.vr) free_buffer) farm.state

-- Unlock: FARM-B + 1, all flags 0, to Open
abbrev pub unlocked : FarmView → FarmView
unlocked farm =
    record farm { state = Open; farm_b = (farm.farm_b + 1) % 4; lockout = false; wait = false; retransmit = false }

-- Set V(R) in Open and Wait: FARM-B + 1, Retransmit 0, Wait 0, V(R) = v, to Open; in Lockout FARM-B + 1 alone
abbrev pub with_vr : ℕ → FarmState → FarmView → FarmView
with_vr v Open farm = record farm { state = Open; farm_b = (farm.farm_b + 1) % 4; wait = false; retransmit = false; vr = v }
with_vr v Wait farm = record farm { state = Open; farm_b = (farm.farm_b + 1) % 4; wait = false; retransmit = false; vr = v }
with_vr v Lockout farm = record farm { farm_b = (farm.farm_b + 1) % 4 }

-- the FARM after a frame
abbrev pub farm_after : FarmView → Frame → Bool → FarmView
farm_after farm (Ad ns request body) free_buffer = changed (cell_of farm ns free_buffer) farm
farm_after farm Unlock free_buffer = unlocked farm
farm_after farm (SetVr v) free_buffer = with_vr v farm.state farm

-- what is answered to a frame
abbrev pub verdict_of : FarmView → Frame → Bool → FrameVerdict
verdict_of farm (Ad ns request body) free_buffer = if is_accept (cell_of farm ns free_buffer) then Accepted request body else Discarded
verdict_of farm Unlock free_buffer = Control
verdict_of farm (SetVr v) free_buffer = Control

-- a buffer became free: Wait 0, and Wait goes to Open; Lockout stays
abbrev pub state_released : FarmState → FarmState
state_released Open = Open
state_released Wait = Open
state_released Lockout = Lockout

abbrev pub released : FarmView → FarmView
released farm = record farm { state = state_released farm.state; wait = false }

-- the FARM at the start: Open, V(R) 0, no flag
abbrev pub new_farm : ℕ → FarmView
new_farm w =
    record { state = Open; vr = 0; farm_b = 0; lockout = false; wait = false; retransmit = false; window = w }

abbrev pub is_open : FarmState → Bool
is_open Open = true
is_open Wait = false
is_open Lockout = false

abbrev pub is_waiting : FarmState → Bool
is_waiting Open = false
is_waiting Wait = true
is_waiting Lockout = false

abbrev pub is_locked_out : FarmState → Bool
is_locked_out Open = false
is_locked_out Wait = false
is_locked_out Lockout = true

-- A FARM that a start and the calls can reach.
pub record IsFarm (farm : FarmView) : Type 0 where
  pub window : IsWindowWidth farm.window
  pub vr : farm.vr < 256
  pub farm_b : farm.farm_b < 4
  -- the Lockout flag is the state Lockout
  pub locked_out : farm.lockout ≡ is_locked_out farm.state
  -- Open has no Wait flag, so that an acceptance, which ends Retransmit, leaves no Wait without it
  pub open_does_not_wait : is_open farm.state ≡ true → farm.wait ≡ false
  -- the state Wait has the Wait flag, and Wait implies Retransmit
  pub waiting : is_waiting farm.state ≡ true → farm.wait ≡ true
  pub wait_implies_retransmit : farm.wait ≡ true → farm.retransmit ≡ true

-- the variables that were to come, which are those of a FARM that calls can reach
pub record Becomes (after new : FarmView) : Type 0 where
  pub variables : new ≡ after
  pub sound : IsFarm new
