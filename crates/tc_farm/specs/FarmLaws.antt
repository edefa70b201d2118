-- What holds of the FARM-1 table, in the words of its users.
use Rattle.std.specs.Prelude.{◌≡◌, ℕ, ◌+◌, ◌%◌, ◌<◌, Bool, true}
use Rattle.tc_types.specs.declared.link.telecommands.Payload.{Payload}
use Rattle.tc_types.specs.declared.link.frames.Frame.{Frame}
use Rattle.tc_types.specs.declared.link.frames.Frame.TheVariants.{Ad, Unlock, SetVr}
use Rattle.tc_farm.specs.declared.clcws.Clcw.{Clcw}
use Rattle.tc_farm.specs.declared.farms.FarmState.TheVariants.{Open}
use Rattle.tc_farm.specs.declared.farms.FarmView.{FarmView}
use Rattle.tc_farm.specs.declared.farms.FrameVerdict.{FrameVerdict}
use Rattle.tc_farm.specs.declared.farms.FrameVerdict.TheVariants.{Accepted, Discarded, Control}

-- A frame that is accepted: it has the number that is expected, the FARM is open and a buffer is free; the answer has
-- its own request and body, and the next number is expected.
pub record IsInOrder (before : FarmView) (frame : Frame) (free_buffer : Bool) (request : ℕ) (body : Payload) (after : FarmView) : Type 0 where
  pub expected : frame ≡ Ad before.vr request body
  pub open_state : before.state ≡ Open
  pub with_buffer : free_buffer ≡ true
  pub next_expected : after.vr ≡ (before.vr + 1) % 256

-- a type-AD frame whose number is below 256, or a control command
abbrev pub IsNumbered : Frame → Type 0
IsNumbered (Ad ns request body) = ns < 256
IsNumbered Unlock = Unit {0}
IsNumbered (SetVr v) = Unit {0}

-- a control command other than Set V(R) leaves V(R)
abbrev pub IsControl : FarmView → Frame → FarmView → Type 0
IsControl before (Ad ns request body) after = ⊥
IsControl before Unlock after = after.vr ≡ before.vr
IsControl before (SetVr v) after = Unit {0}

-- what each verdict says of the frame and of V(R): V(R) moves only by an acceptance or a Set V(R)
abbrev pub Says : FrameVerdict → FarmView → Frame → Bool → FarmView → Type 0
Says (Accepted request body) before frame free_buffer after = IsInOrder before frame free_buffer request body after
Says Discarded before frame free_buffer after = after.vr ≡ before.vr
Says Control before frame free_buffer after = IsControl before frame after

-- what a control word reports of the FARM; the channel is the caller's
pub record Reports (farm : FarmView) (word : Clcw) : Type 0 where
  pub channel : word.vc ≡ 0
  pub lockout : word.lockout ≡ farm.lockout
  pub wait : word.wait ≡ farm.wait
  pub retransmit : word.retransmit ≡ farm.retransmit
  pub farm_b : word.farm_b ≡ farm.farm_b
  pub report : word.report ≡ farm.vr
