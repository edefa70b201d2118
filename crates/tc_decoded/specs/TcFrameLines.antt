-- The lines of a telecommand transfer frame (CCSDS 232.0-B, 4.1).
use Rattle.std.specs.Prelude.{◌≡◌, ℕ, ◌+◌, ◌-◌, ◌==◌, ◌&&◌, ◌||◌, not, if◌then◌else◌, Bool, true, false, List, [], ◌∷◌, ◌++◌, length, slice_index, take, drop}
use Rattle.std.specs.Prelude.{Option, Some, None, Result, Ok, Err}
use Rattle.tc_octets.specs.TcFrames.{Reads, check_length, segment_header}
use Rattle.tc_octets.specs.declared.profiles.Map.{Map}
use Rattle.tc_octets.specs.declared.profiles.Profile.{Profile}
use Rattle.tc_octets.specs.declared.tc_frames.TcFrame.{TcFrame}
use Rattle.tc_octets.specs.declared.tc_frames.TcFault.{TcFault}
use Rattle.tc_octets.specs.declared.tc_frames.TcFault.TheVariants as faults
use Rattle.tc_decoded.specs.declared.lines.Line.{Line}
use Rattle.tc_decoded.specs.declared.names.Name.TheVariants as names
use Rattle.tc_decoded.specs.declared.places.Place.{Place}
use Rattle.tc_decoded.specs.declared.rows.Shown.TheVariants as shown
use Rattle.tc_decoded.specs.declared.rows.Fit.{Fit}
use Rattle.tc_decoded.specs.declared.rows.Fit.TheVariants as fit
use Rattle.tc_decoded.specs.declared.rows.Word.{Word}
use Rattle.tc_decoded.specs.declared.rows.Word.TheVariants as words
use Rattle.tc_decoded.specs.declared.rows.Row.{Row}
use Rattle.tc_decoded.specs.Added.{Encloses}
use Rattle.tc_decoded.specs.Places.{later}
use Rattle.tc_decoded.specs.Rows.{bits_in, counted, field, plain, told}
use Rattle.tc_decoded.specs.Tables.{frame_check, refused}
use Rattle.tc_decoded.specs.Telecommands.{TelecommandTold}

-- ---- the table

-- a bit of the first octet
abbrev pub flag_in : List ℕ → ℕ → ℕ
flag_in octets bit = bits_in octets 0 (record { bit = bit; bits = 1 })

-- the control command flag: the frame has a control command, and no packet
abbrev pub is_control : List ℕ → Bool
is_control octets = flag_in octets 3 == 1

-- a control command has no number
abbrev pub sequence_fit : List ℕ → Fit
sequence_fit octets = if is_control octets then fit.Is 0 else fit.Any

abbrev pub header_rows : Profile → List ℕ → List Row
header_rows profile octets =
    counted names.TransferFrame 0 (length octets) words.Length (fit.Between (6 + check_length profile.tc.fecf) 1024)
    ∷ field names.Version 0 0 2 shown.Number words.Version (fit.Is 0)
    ∷ plain names.BypassFlag 0 2 1 shown.Flag
    ∷ field names.ControlCommandFlag 0 3 1 shown.Flag words.Kind (fit.Is (flag_in octets 2))
    ∷ field names.Spare 0 4 2 shown.Number words.Version (fit.Is 0)
    ∷ field names.SpacecraftId 0 6 10 shown.Number words.Spacecraft (fit.Is profile.scid)
    ∷ field names.VirtualChannel 2 0 6 shown.Number words.Channel (fit.Is profile.tc.vcid)
    ∷ field names.FrameLength 2 6 10 shown.Number words.Length (fit.Given (length octets) (length octets - 1))
    ∷ field names.FrameSequenceNumber 4 0 8 shown.Number words.Content (sequence_fit octets)
    ∷ []

-- how many octets the data field has
abbrev pub field_length : Profile → List ℕ → ℕ
field_length profile octets = length octets - 5 - check_length profile.tc.fecf

-- Unlock is the octet 00, Set V(R) the octets 82 00 V
abbrev pub is_set_vr : Profile → List ℕ → Bool
is_set_vr profile octets = (slice_index octets 5 == 0x82) && (field_length profile octets == 3)

abbrev pub is_command : Profile → List ℕ → Bool
is_command profile octets =
    ((slice_index octets 5 == 0) && (field_length profile octets == 1)) || (is_set_vr profile octets && (slice_index octets 6 == 0))

abbrev pub control_rows : Profile → List ℕ → List Row
control_rows profile octets =
    field names.ControlCommand 5 0 8 shown.Command words.Content (fit.Command (is_command profile octets))
    ∷ (if is_set_vr profile octets then plain names.Vr 7 0 8 shown.Number ∷ [] else [])

-- the segment header of an unsegmented packet, if frames have one
abbrev pub segment_rows : Option Map → List Row
segment_rows None = []
segment_rows (Some map) =
    field names.SegmentSequenceFlags 5 0 2 shown.Sequence words.Content (fit.Is 3)
    ∷ field names.Map 5 2 6 shown.Number words.Content (fit.Is map.id)
    ∷ []

-- where the packet begins
abbrev pub packet_at : Profile → ℕ
packet_at profile = 5 + length (segment_header profile.tc.map)

abbrev pub packet_length : Profile → List ℕ → ℕ
packet_length profile octets = length octets - packet_at profile - check_length profile.tc.fecf

abbrev pub packet_in : Profile → List ℕ → List ℕ
packet_in profile octets = take (packet_length profile octets) (drop (packet_at profile) octets)

abbrev pub front_rows : Profile → List ℕ → List Row
front_rows profile octets =
    header_rows profile octets ++ (if is_control octets then control_rows profile octets else segment_rows profile.tc.map)

-- the packet of a frame that its reader refuses, as octets alone
abbrev pub packet_rows : Profile → List ℕ → List Row
packet_rows profile octets =
    if is_control octets
    then []
    else counted names.Packet (packet_at profile) (packet_length profile octets) words.Content (fit.Least 1) ∷ []

abbrev pub closing_rows : Profile → Option Word → List ℕ → List Row
closing_rows profile word octets = frame_check profile.tc.fecf octets ++ refused word names.TransferFrame 0 (length octets)

-- ---- the reader's answer

abbrev pub word_of : Result TcFrame TcFault → Option Word
word_of (Ok frame) = None
word_of (Err faults.Length) = Some words.Length
word_of (Err faults.Check) = Some words.Check
word_of (Err faults.Version) = Some words.Version
word_of (Err faults.Spacecraft) = Some words.Spacecraft
word_of (Err faults.Channel) = Some words.Channel
word_of (Err faults.Kind) = Some words.Kind
word_of (Err faults.Content) = Some words.Content

-- The word by which `read_tc_frame` refuses these octets, or none.
pub record Judged (profile : Profile) (octets : List ℕ) (word : Option Word) : Type 0 where
  pub read : Result TcFrame TcFault
  pub says : Reads profile octets read
  pub is : word ≡ word_of read

-- ---- lines

abbrev pub is_taken : Option Word → Bool
is_taken None = true
is_taken (Some word) = false

-- A frame that has a packet, and is taken, has the lines of its packet; any other has its own fields alone.
abbrev pub FieldsTold : Bool → Place → Option Word → Profile → List ℕ → List Line → Type 0
FieldsTold true place word profile octets lines =
    Encloses place word octets (front_rows profile octets) (TelecommandTold (later place (packet_at profile)) profile (packet_in profile octets))
    (closing_rows profile word octets) lines
FieldsTold false place word profile octets lines =
    lines ≡ told place word octets (front_rows profile octets ++ packet_rows profile octets ++ closing_rows profile word octets)

abbrev pub carries : Option Word → List ℕ → Bool
carries word octets = is_taken word && not (is_control octets)

-- What is told of a transfer frame: its fields, up to the one for which the reader refuses it, and those of its packet.
pub record TcFrameTold (place : Place) (profile : Profile) (octets : List ℕ) (lines : List Line) : Type 0 where
  pub word : Option Word
  pub judged : Judged profile octets word
  pub fields : FieldsTold (carries word octets) place word profile octets lines
