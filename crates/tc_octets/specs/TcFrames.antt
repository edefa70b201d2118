-- Telecommand transfer frames (CCSDS 232.0-B, 4.1).
use Rattle.std.specs.Prelude.{◌≡◌, ◌≢◌, ◌⊎◌, ℕ, ◌+◌, ◌*◌, ◌/◌, ◌%◌, ◌^◌, ◌-◌, ◌<◌, ◌≤◌, if◌then◌else◌, Bool, true, List, [], ◌∷◌, ◌++◌, length, take}
use Rattle.std.specs.Prelude.{Option, Some, None, Result, Ok, Err, IsOkAnd, ⊤}
use Rattle.tc_octets.specs.Bits.{pair, pair_at}
use Rattle.tc_octets.specs.Crc.{crc_of}
use Rattle.tc_octets.specs.declared.profiles.Map.{Map}
use Rattle.tc_octets.specs.declared.profiles.TcChannel.{TcChannel}
use Rattle.tc_octets.specs.declared.profiles.Profile.{Profile}
use Rattle.tc_octets.specs.declared.tc_frames.TcFrame.{TcFrame}
use Rattle.tc_octets.specs.declared.tc_frames.TcFrame.TheVariants as frames
use Rattle.tc_octets.specs.declared.tc_frames.TcFault.{TcFault}
use Rattle.tc_octets.specs.declared.tc_frames.TcFault.TheVariants as faults

-- what a frame carries
pub data Carried : Type 0 where
  ad : (ns : ℕ) (packet : List ℕ) → Carried
  unlock : Carried
  set_vr : (vr : ℕ) → Carried

abbrev pub carried_of : TcFrame → Carried
carried_of (frames.Ad ns packet) = ad ns packet.now
carried_of frames.Unlock = unlock
carried_of (frames.SetVr vr) = set_vr vr

-- the octets of the frame error control field, where frames have one
abbrev pub check_length : Bool → ℕ
check_length fecf = if fecf then 2 else 0

-- the segment header of an unsegmented packet: sequence flags 11 and the MAP
abbrev pub segment_header : Option Map → List ℕ
segment_header None = []
segment_header (Some map) = (0xc0 + map.id) ∷ []

-- the transfer frame data field: a packet, Unlock or Set V(R)
abbrev pub data_field : TcChannel → Carried → List ℕ
data_field channel (ad ns packet) = segment_header channel.map ++ packet
data_field channel unlock = 0 ∷ []
data_field channel (set_vr vr) = 0x82 ∷ 0 ∷ vr ∷ []

-- the bypass flag and the control command flag
abbrev pub flags_of : Carried → ℕ
flags_of (ad ns packet) = 0
flags_of unlock = 3
flags_of (set_vr vr) = 3

-- the frame sequence number: N(S), and 0 in type B
abbrev pub number_of : Carried → ℕ
number_of (ad ns packet) = ns
number_of unlock = 0
number_of (set_vr vr) = 0

-- Version 00, the flags, spare 00 and the spacecraft; the virtual channel and the octets of the frame less 1; the frame sequence number.
abbrev pub header_of : Profile → Carried → List ℕ
header_of profile carried =
    pair (flags_of carried * 2 ^ 12 + profile.scid)
    ++ pair (profile.tc.vcid * 2 ^ 10 + (4 + length (data_field profile.tc carried) + check_length profile.tc.fecf))
    ++ number_of carried ∷ []

-- octets with their CRC-16 after them, where frames have it
abbrev pub closed : Bool → List ℕ → List ℕ
closed fecf octets = if fecf then octets ++ pair (crc_of octets) else octets

-- the octets of a frame
abbrev pub tc_frame_of : Profile → Carried → List ℕ
tc_frame_of profile carried = closed profile.tc.fecf (header_of profile carried ++ data_field profile.tc carried)

-- What a frame of this link may carry: a packet of at least one octet, such that the frame has at most 1,024.
abbrev pub IsCarried : TcChannel → Carried → Type 0
IsCarried channel (ad ns packet) = (ns < 2 ^ 8) × (1 ≤ length packet)
    × (5 + length (segment_header channel.map) + length packet + check_length channel.fecf ≤ 1024)
IsCarried channel unlock = ⊤
IsCarried channel (set_vr vr) = vr < 2 ^ 8

-- ---- what a reader looks at

-- at least one octet of data, 1,024 in all at most, and as many as the frame length field says
pub record IsLong (profile : Profile) (octets : List ℕ) : Type 0 where
  pub least : 6 + check_length profile.tc.fecf ≤ length octets
  pub most : length octets ≤ 1024
  pub told : pair_at octets 2 % 2 ^ 10 + 1 ≡ length octets

-- the frame error control field is the CRC-16 of what stands before it
abbrev pub IsChecked : Profile → List ℕ → Type 0
IsChecked profile octets = profile.tc.fecf ≡ true → pair_at octets (length octets - 2) ≡ crc_of (take (length octets - 2) octets)

abbrev pub version_in : List ℕ → ℕ
version_in octets = pair_at octets 0 / 2 ^ 14

abbrev pub spare_in : List ℕ → ℕ
spare_in octets = pair_at octets 0 / 2 ^ 10 % 2 ^ 2

abbrev pub flags_in : List ℕ → ℕ
flags_in octets = pair_at octets 0 / 2 ^ 12 % 2 ^ 2

abbrev pub scid_in : List ℕ → ℕ
scid_in octets = pair_at octets 0 % 2 ^ 10

abbrev pub vcid_in : List ℕ → ℕ
vcid_in octets = pair_at octets 2 / 2 ^ 10

-- the octets are this frame
abbrev pub IsFrameOf : Profile → List ℕ → Carried → Type 0
IsFrameOf profile octets carried = IsCarried profile.tc carried × (octets ≡ tc_frame_of profile carried)

-- a header that nothing is said against
pub record Passes (profile : Profile) (octets : List ℕ) : Type 0 where
  pub long : IsLong profile octets
  pub checked : IsChecked profile octets
  pub version : (version_in octets ≡ 0) × (spare_in octets ≡ 0)
  pub spacecraft : scid_in octets ≡ profile.scid
  pub channel : vcid_in octets ≡ profile.tc.vcid

-- What a header is refused for: the first that applies of length, check, version, spacecraft and channel.
abbrev pub HeaderSays : Profile → List ℕ → Option TcFault → Type 0
HeaderSays profile octets None = Passes profile octets
HeaderSays profile octets (Some faults.Length) = ¬ IsLong profile octets
HeaderSays profile octets (Some faults.Check) = IsLong profile octets × ¬ IsChecked profile octets
HeaderSays profile octets (Some faults.Version) = IsLong profile octets × IsChecked profile octets
    × ¬ ((version_in octets ≡ 0) × (spare_in octets ≡ 0))
HeaderSays profile octets (Some faults.Spacecraft) =
    IsLong profile octets × IsChecked profile octets × (version_in octets ≡ 0) × (spare_in octets ≡ 0) × (scid_in octets ≢ profile.scid)
HeaderSays profile octets (Some faults.Channel) =
    IsLong profile octets × IsChecked profile octets × (version_in octets ≡ 0) × (spare_in octets ≡ 0) × (scid_in octets ≡ profile.scid)
    × (vcid_in octets ≢ profile.tc.vcid)
HeaderSays profile octets (Some faults.Kind) = ⊥
HeaderSays profile octets (Some faults.Content) = ⊥

-- A packet has an octet at least.
abbrev pub HasPacket : Carried → Type 0
HasPacket (ad ns packet) = 1 ≤ length packet
HasPacket unlock = ⊤
HasPacket (set_vr vr) = ⊤

-- What the data field of a frame with these flags and this number is read as: what it carries, or nothing where no frame carries it.
abbrev pub ReadsField : TcChannel → ℕ → ℕ → List ℕ → Result TcFrame TcFault → Type 0
ReadsField channel flags ns field (Ok frame) =
    (flags_of (carried_of frame) ≡ flags) × (number_of (carried_of frame) ≡ ns) × (field ≡ data_field channel (carried_of frame))
    × HasPacket (carried_of frame)
ReadsField channel flags ns field (Err faults.Content) =
    (carried : Carried) → flags_of carried ≡ flags → number_of carried ≡ ns → HasPacket carried → ¬ (field ≡ data_field channel carried)
ReadsField channel flags ns field (Err fault) = ⊥

-- What a reader says of octets: what the frame carries, where they are just that frame; else the first fault that applies.
abbrev pub Reads : Profile → List ℕ → Result TcFrame TcFault → Type 0
Reads profile octets (Ok frame) = IsFrameOf profile octets (carried_of frame)
Reads profile octets (Err faults.Kind) = Passes profile octets × (flags_in octets ≢ 0) × (flags_in octets ≢ 3)
Reads profile octets (Err faults.Content) =
    Passes profile octets × ((flags_in octets ≡ 0) ⊎ (flags_in octets ≡ 3)) × ((carried : Carried) → ¬ IsFrameOf profile octets carried)
Reads profile octets (Err fault) = HeaderSays profile octets (Some fault)

-- What octets are read as, if they are a frame: what it carries. So different frames have different octets.
pub record ReadsBack (profile : Profile) (octets : List ℕ) (read : Result TcFrame TcFault) : Type 0 where
  pub back : (carried : Carried) → IsCarried profile.tc carried → octets ≡ tc_frame_of profile carried
      → IsOkAnd read (λ frame. carried_of frame ≡ carried)
