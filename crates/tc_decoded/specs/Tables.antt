-- Tables of fields that several layers have: the primary header of a packet, times, offsets and names, and error control.
use Rattle.std.specs.Prelude.{ℕ, ◌+◌, ◌-◌, if◌then◌else◌, Bool, List, [], ◌∷◌, length, take, Option, Some, None}
use Rattle.tc_octets.specs.Crc.{crc_of}
use Rattle.tc_octets.specs.declared.profiles.Profile.{Profile}
use Rattle.tc_packets.specs.Times.{first_on_board, last_on_board, seconds_since}
use Rattle.tc_decoded.specs.declared.names.Name.{Name}
use Rattle.tc_decoded.specs.declared.names.Name.TheVariants as names
use Rattle.tc_decoded.specs.declared.rows.Shown.TheVariants as shown
use Rattle.tc_decoded.specs.declared.rows.Fit.{Fit}
use Rattle.tc_decoded.specs.declared.rows.Fit.TheVariants as fit
use Rattle.tc_decoded.specs.declared.rows.Word.{Word}
use Rattle.tc_decoded.specs.declared.rows.Word.TheVariants as words
use Rattle.tc_decoded.specs.declared.rows.Row.{Row}
use Rattle.tc_decoded.specs.Rows.{counted, field, plain}

-- The primary header (CCSDS 133.0-B, 4.1.3), with what its reader looks at: the fewest octets, the word for another version, the type, and the APIDs.
abbrev pub primary_header : List ℕ → ℕ → Word → ℕ → Fit → List Row
primary_header octets fewest version kind apid =
    counted names.Packet 0 (length octets) words.Length (fit.Least fewest)
    ∷ field names.PacketVersion 0 0 3 shown.Number version (fit.Is 0)
    ∷ field names.PacketType 0 3 1 shown.Kind words.Header (fit.Is kind)
    ∷ field names.SecondaryHeaderFlag 0 4 1 shown.Flag words.Header (fit.Is 1)
    ∷ field names.Apid 0 5 11 shown.Number words.Header apid
    ∷ field names.SequenceFlags 2 0 2 shown.Sequence words.Header (fit.Is 3)
    ∷ plain names.SequenceCount 2 2 14 shown.Number
    ∷ field names.PacketDataLength 4 0 16 shown.Number words.Length (fit.Given (length octets) (length octets - 7))
    ∷ []

-- the fraction of a second, if times have one
abbrev pub fraction_rows : Bool → ℕ → List Row
fraction_rows fine at = if fine then plain names.Fraction at 0 16 shown.Hexadecimal ∷ [] else []

-- a release time: the seconds of the moments that the desk has
abbrev pub time_rows : Profile → ℕ → List Row
time_rows profile at =
    field names.ReleaseTime at 0 32 shown.Number words.Data
    (fit.Between (seconds_since profile.epoch (first_on_board profile.epoch)) (seconds_since profile.epoch (last_on_board profile.epoch)))
    ∷ fraction_rows profile.fine (at + 4)

abbrev pub offset_rows : Bool → ℕ → List Row
offset_rows fine at = plain names.TimeOffset at 0 32 shown.Offset ∷ fraction_rows fine (at + 4)

-- the name of an activity, of such a source
abbrev pub name_rows : Fit → ℕ → List Row
name_rows source at =
    field names.SourceId at 0 16 shown.Number words.Data source
    ∷ field names.Apid (at + 2) 0 16 shown.Number words.Data (fit.Between 0 2046)
    ∷ field names.SequenceCount (at + 4) 0 16 shown.Number words.Data (fit.Between 0 16383)
    ∷ []

-- a time on board, which may be any
abbrev pub board_time_rows : Bool → ℕ → List Row
board_time_rows fine at = plain names.Time at 0 32 shown.Number ∷ fraction_rows fine (at + 4)

-- the CRC-16 of the octets before the last two
abbrev pub check_of : List ℕ → ℕ
check_of octets = crc_of (take (length octets - 2) octets)

-- the error control of a packet
abbrev pub packet_check : List ℕ → Row
packet_check octets = field names.PacketErrorControl (length octets - 2) 0 16 shown.Hexadecimal words.Check (fit.Is (check_of octets))

-- the same of a frame, if frames have it
abbrev pub frame_check : Bool → List ℕ → List Row
frame_check fecf octets =
    if fecf
    then field names.FrameErrorControl (length octets - 2) 0 16 shown.Hexadecimal words.Check (fit.Is (check_of octets)) ∷ []
    else []

-- A layer that its reader refuses ends with this row, if no row before it is at fault.
abbrev pub refused : Option Word → Name → ℕ → ℕ → List Row
refused None name at octets = []
refused (Some word) name at octets = counted name at octets word fit.Refused ∷ []
