-- Requests through all layers of the way up: a packet in a transfer frame in a CLTU.
use Rattle.std.specs.Prelude.{◌≡◌, ℕ, List, take, Result, Ok, Err}
use Rattle.tc_octets.specs.Cltus.{HasFrame, IsFrameIn, cltu_of, filled_of, told_length, turned_by}
use Rattle.tc_octets.specs.CltuRuns.{Brings}
use Rattle.tc_octets.specs.TcFrames.{IsFrameOf, ad, set_vr, tc_frame_of, unlock, Reads as ReadsFrame}
use Rattle.tc_octets.specs.declared.profiles.Profile.{Profile}
use Rattle.tc_packets.specs.Telecommands.{telecommand_of}
use Rattle.tc_packets.specs.TelecommandReaders.{IsTelecommand, Reads}
use Rattle.tc_packets.specs.declared.flights.Flight.{Flight}
use Rattle.tc_packets.specs.declared.uplinks.Upward.{Upward}
use Rattle.tc_packets.specs.declared.uplinks.Upward.TheVariants as ups
use Rattle.tc_packets.specs.declared.uplinks.UpwardFault.{UpwardFault}
use Rattle.tc_packets.specs.declared.uplinks.UpwardFault.TheVariants as faults

-- the type-AD frame of a request with this N(S)
abbrev pub request_frame_of : Profile → ℕ → Flight → List ℕ
request_frame_of profile ns flight = tc_frame_of profile (ad ns (telecommand_of profile flight))

-- its CLTU
abbrev pub request_cltu_of : Profile → ℕ → Flight → List ℕ
request_cltu_of profile ns flight = cltu_of profile.tc.randomizer (request_frame_of profile ns flight)

-- ---- what readers say

-- What a reader says of the packet of a type-AD frame with this N(S): the request, or why the packet is refused.
abbrev pub ReadsPacketOf : Profile → ℕ → List ℕ → Result Upward UpwardFault → Type 0
ReadsPacketOf profile ns packet (Ok (ups.Request number flight)) = (number ≡ ns) × IsTelecommand profile packet flight
ReadsPacketOf profile ns packet (Err (faults.Packet fault)) = Reads profile packet (Err fault)
ReadsPacketOf profile ns packet other = ⊥

-- What a reader says of the octets of a frame: the request with its N(S), or the control command; else the layer that refuses it, and why.
abbrev pub ReadsUpward : Profile → List ℕ → Result Upward UpwardFault → Type 0
ReadsUpward profile octets (Ok (ups.Request ns flight)) =
    (packet : List ℕ) × IsFrameOf profile octets (ad ns packet) × IsTelecommand profile packet flight
ReadsUpward profile octets (Ok ups.Unlock) = IsFrameOf profile octets unlock
ReadsUpward profile octets (Ok (ups.SetVr vr)) = IsFrameOf profile octets (set_vr vr)
ReadsUpward profile octets (Err faults.NoFrame) = ⊥
ReadsUpward profile octets (Err (faults.Frame fault)) = ReadsFrame profile octets (Err fault)
ReadsUpward profile octets (Err (faults.Packet fault)) =
    (ns : ℕ) × (packet : List ℕ) × IsFrameOf profile octets (ad ns packet) × Reads profile packet (Err fault)

-- the information of a CLTU with the randomizer undone, and the frame at its front
abbrev pub plain_in : Profile → List ℕ → List ℕ
plain_in profile information = turned_by profile.tc.randomizer information

abbrev pub front_in : Profile → List ℕ → List ℕ
front_in profile information = take (told_length (plain_in profile information)) (plain_in profile information)

-- What a reader says of the information of a CLTU: that no frame stands at its front, or what it says of that frame.
abbrev pub ReadsInformation : Profile → List ℕ → Result Upward UpwardFault → Type 0
ReadsInformation profile information (Err faults.NoFrame) = ¬ HasFrame (plain_in profile information)
ReadsInformation profile information answer = HasFrame (plain_in profile information) × ReadsUpward profile (front_in profile information) answer

-- ---- the law of all layers

-- These octets are a request on its way up. A receiver gives of them one information and nothing else, in whatever pieces they come, also after noise
-- and idle. The frame at the front of that is the request's, and whatever a reader says of it is the request with its N(S).
pub record ComesUp (profile : Profile) (ns : ℕ) (flight : Flight) (octets : List ℕ) : Type 0 where
  pub brings : Brings octets (filled_of profile.tc.randomizer (request_frame_of profile ns flight))
  pub frame : IsFrameIn (plain_in profile (filled_of profile.tc.randomizer (request_frame_of profile ns flight))) (request_frame_of profile ns flight)
  pub read : (answer : Result Upward UpwardFault)
      → ReadsInformation profile (filled_of profile.tc.randomizer (request_frame_of profile ns flight)) answer → answer ≡ Ok (ups.Request ns flight)
