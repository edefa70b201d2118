-- Telemetry transfer frames (CCSDS 132.0-B, 4.1), and the control word in them.
use Rattle.std.specs.Prelude.{◌≡◌, ◌≢◌, ℕ, ◌+◌, ◌*◌, ◌/◌, ◌%◌, ◌^◌, ◌-◌, ◌<◌, ◌==◌, if◌then◌else◌, ◌&&◌, true, List, [], ◌∷◌, ◌++◌, length, take}
use Rattle.std.specs.Prelude.{slice_index, slice_range, Option, Some, None, IfSome, Result, Ok, Err, IsOkAnd}
use Rattle.tc_octets.specs.Bits.{pair, pair_at}
use Rattle.tc_octets.specs.Crc.{crc_of}
use Rattle.tc_octets.specs.TcFrames.{check_length, closed}
use Rattle.tc_octets.specs.declared.profiles.Profile.{Profile}
use Rattle.tc_octets.specs.declared.tm_frames.TmFrame.{TmFrame}
use Rattle.tc_octets.specs.declared.tm_frames.TmFault.{TmFault}
use Rattle.tc_octets.specs.declared.tm_frames.TmFault.TheVariants as faults

-- a number below 2 ^ 32 as four octets
abbrev pub four : ℕ → List ℕ
four number = pair (number / 2 ^ 16) ++ pair (number % 2 ^ 16)

-- the parts of a frame
pub record TmParts : Type 0 where
  pub vcid : ℕ
  pub master_count : ℕ
  pub channel_count : ℕ
  pub status : ℕ
  pub content : List ℕ
  pub word : Option ℕ

abbrev pub tm_parts : TmFrame → TmParts
tm_parts frame = record {
  vcid = frame.vcid;
  master_count = frame.master_count;
  channel_count = frame.channel_count;
  status = frame.status;
  content = frame.«data».now;
  word = frame.word;
}

-- the operational control field flag, and the field
abbrev pub word_flag : Option ℕ → ℕ
word_flag None = 0
word_flag (Some word) = 1

abbrev pub word_octets : Option ℕ → List ℕ
word_octets None = []
word_octets (Some word) = four word

-- Version 00, the spacecraft, the virtual channel and the operational control field flag; the two counts; the status.
abbrev pub tm_header_of : Profile → TmParts → List ℕ
tm_header_of profile frame =
    pair (profile.scid * 2 ^ 4 + frame.vcid * 2 + word_flag frame.word) ++ frame.master_count ∷ frame.channel_count ∷ pair frame.status

-- the header, the data field and the operational control field; then the CRC-16 of all that, where frames have it
abbrev pub tm_frame_of : Profile → TmParts → List ℕ
tm_frame_of profile frame = closed profile.tm.fecf (tm_header_of profile frame ++ frame.content ++ word_octets frame.word)

-- what a frame of this link may have: so much data that all frames are as long
pub record IsTmFrame (profile : Profile) (frame : TmParts) : Type 0 where
  pub vcid : frame.vcid < 2 ^ 3
  pub master_count : frame.master_count < 2 ^ 8
  pub channel_count : frame.channel_count < 2 ^ 8
  pub status : frame.status < 2 ^ 16
  pub word : IfSome frame.word (λ word. word < 2 ^ 32)
  pub long : 6 + length frame.content + length (word_octets frame.word) + check_length profile.tm.fecf ≡ profile.tm.length

-- ---- what a reader looks at

abbrev pub IsTmLong : Profile → List ℕ → Type 0
IsTmLong profile octets = length octets ≡ profile.tm.length

abbrev pub IsTmChecked : Profile → List ℕ → Type 0
IsTmChecked profile octets = profile.tm.fecf ≡ true → pair_at octets (length octets - 2) ≡ crc_of (take (length octets - 2) octets)

abbrev pub tm_version_in : List ℕ → ℕ
tm_version_in octets = pair_at octets 0 / 2 ^ 14

abbrev pub tm_scid_in : List ℕ → ℕ
tm_scid_in octets = pair_at octets 0 / 2 ^ 4 % 2 ^ 10

-- the operational control field at this place, where the flag says that there is one
abbrev pub word_at : List ℕ → ℕ → ℕ → Option ℕ
word_at octets flag at = if flag == 0 then None else Some (pair_at octets at * 2 ^ 16 + pair_at octets (at + 2))

-- where the data field ends
abbrev pub data_end : Profile → List ℕ → ℕ
data_end profile octets = length octets - check_length profile.tm.fecf - pair_at octets 0 % 2 * 4

-- where the parts of a frame stand in its octets
pub record TmPartsIn (profile : Profile) (octets : List ℕ) (parts : TmParts) : Type 0 where
  pub vcid : parts.vcid ≡ pair_at octets 0 / 2 % 2 ^ 3
  pub master_count : parts.master_count ≡ slice_index octets 2
  pub channel_count : parts.channel_count ≡ slice_index octets 3
  pub status : parts.status ≡ pair_at octets 4
  pub content : parts.content ≡ slice_range octets 6 (data_end profile octets)
  pub word : parts.word ≡ word_at octets (pair_at octets 0 % 2) (data_end profile octets)

-- What octets are refused for, or that they pass: the first that applies of length, check, version and spacecraft.
abbrev pub TmSays : Profile → List ℕ → Option TmFault → Type 0
TmSays profile octets None =
    IsTmLong profile octets × IsTmChecked profile octets × (tm_version_in octets ≡ 0) × (tm_scid_in octets ≡ profile.scid)
TmSays profile octets (Some faults.Length) = ¬ IsTmLong profile octets
TmSays profile octets (Some faults.Check) = IsTmLong profile octets × ¬ IsTmChecked profile octets
TmSays profile octets (Some faults.Version) = IsTmLong profile octets × IsTmChecked profile octets × (tm_version_in octets ≢ 0)
TmSays profile octets (Some faults.Spacecraft) =
    IsTmLong profile octets × IsTmChecked profile octets × (tm_version_in octets ≡ 0) × (tm_scid_in octets ≢ profile.scid)

-- What a reader says: the frame that the octets are, all of them; else the first fault that applies.
abbrev pub TmReads : Profile → List ℕ → Result TmFrame TmFault → Type 0
TmReads profile octets (Ok frame) = IsTmFrame profile (tm_parts frame) × (octets ≡ tm_frame_of profile (tm_parts frame))
TmReads profile octets (Err fault) = TmSays profile octets (Some fault)

-- The control word of our telecommand channel: one of type 0 that names its virtual channel (bits 8 to 13 of 32). Others are passed over.
abbrev pub our_word : Profile → Option ℕ → Option ℕ
our_word profile None = None
our_word profile (Some word) = if (word / 2 ^ 31 == 0) && (word / 2 ^ 18 % 2 ^ 6 == profile.tc.vcid) then Some word else None

-- What octets are read as, if they are a frame: that frame. So different frames have different octets.
pub record TmReadsBack (profile : Profile) (octets : List ℕ) (read : Result TmFrame TmFault) : Type 0 where
  pub back : (parts : TmParts) → IsTmFrame profile parts → octets ≡ tm_frame_of profile parts → IsOkAnd read (λ frame. tm_parts frame ≡ parts)
