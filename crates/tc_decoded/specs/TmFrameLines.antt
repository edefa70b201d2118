-- The lines of a telemetry transfer frame (CCSDS 132.0-B, 4.1), with the packets and the control word in it.
use Rattle.std.specs.Prelude.{◌≡◌, ℕ, ◌+◌, ◌-◌, ◌==◌, ◌/◌, ◌%◌, ◌^◌, nat_le, nat_lt, ◌&&◌, ◌||◌, not, if◌then◌else◌, min, Bool, true, false, List, [], ◌∷◌, ◌++◌}
use Rattle.std.specs.Prelude.{length, take, drop, slice_index, Option, Some, None, Result, Ok, Err}
use Rattle.tc_octets.specs.TmFrames.{TmParts, TmReads, tm_parts}
use Rattle.tc_octets.specs.declared.profiles.Profile.{Profile}
use Rattle.tc_octets.specs.declared.tm_frames.TmFrame.{TmFrame}
use Rattle.tc_octets.specs.declared.tm_frames.TmFault.{TmFault}
use Rattle.tc_octets.specs.declared.tm_frames.TmFault.TheVariants as faults
use Rattle.tc_packets.specs.Receivers.{Given, fresh, packet, received}
use Rattle.tc_decoded.specs.declared.lines.Line.{Line}
use Rattle.tc_decoded.specs.declared.names.Name.TheVariants as names
use Rattle.tc_decoded.specs.declared.places.Place.{Place}
use Rattle.tc_decoded.specs.declared.rows.Shown.TheVariants as shown
use Rattle.tc_decoded.specs.declared.rows.Fit.TheVariants as fit
use Rattle.tc_decoded.specs.declared.rows.Word.{Word}
use Rattle.tc_decoded.specs.declared.rows.Word.TheVariants as words
use Rattle.tc_decoded.specs.declared.rows.Row.{Row}
use Rattle.tc_decoded.specs.Added.{Encloses}
use Rattle.tc_decoded.specs.Places.{later}
use Rattle.tc_decoded.specs.ReportLines.{PacketTold}
use Rattle.tc_decoded.specs.Rows.{counted, field, plain, told}
use Rattle.tc_decoded.specs.Tables.{frame_check, refused}

-- ---- the table

abbrev pub tm_header_rows : Profile → List ℕ → List Row
tm_header_rows profile octets =
    counted names.TransferFrame 0 (length octets) words.Length (fit.Is profile.tm.length)
    ∷ field names.Version 0 0 2 shown.Number words.Version (fit.Is 0)
    ∷ field names.SpacecraftId 0 2 10 shown.Number words.Spacecraft (fit.Is profile.scid)
    ∷ plain names.VirtualChannel 1 4 3 shown.Number
    ∷ plain names.ControlFieldFlag 1 7 1 shown.Flag
    ∷ plain names.MasterChannelFrameCount 2 0 8 shown.Number
    ∷ plain names.VirtualChannelFrameCount 3 0 8 shown.Number
    ∷ plain names.SecondaryHeaderFlag 4 0 1 shown.Flag
    ∷ plain names.SynchronizationFlag 4 1 1 shown.Flag
    ∷ plain names.PacketOrderFlag 4 2 1 shown.Flag
    ∷ plain names.SegmentLengthId 4 3 2 shown.Number
    ∷ plain names.FirstHeaderPointer 4 5 11 shown.Number
    ∷ []

-- the control word (CCSDS 232.0-B, 4.2)
abbrev pub control_word_rows : ℕ → List Row
control_word_rows at =
    plain names.ControlWordType at 0 1 shown.Number
    ∷ plain names.ControlWordVersion at 1 2 shown.Number
    ∷ plain names.StatusField at 3 3 shown.Number
    ∷ plain names.CopInEffect at 6 2 shown.Number
    ∷ plain names.VirtualChannel (at + 1) 0 6 shown.Number
    ∷ plain names.Spare (at + 1) 6 2 shown.Number
    ∷ plain names.NoRfAvailable (at + 2) 0 1 shown.Flag
    ∷ plain names.NoBitLock (at + 2) 1 1 shown.Flag
    ∷ plain names.Lockout (at + 2) 2 1 shown.Flag
    ∷ plain names.Wait (at + 2) 3 1 shown.Flag
    ∷ plain names.Retransmit (at + 2) 4 1 shown.Flag
    ∷ plain names.FarmBCounter (at + 2) 5 2 shown.Number
    ∷ plain names.Spare (at + 2) 7 1 shown.Number
    ∷ plain names.ReportValue (at + 3) 0 8 shown.Number
    ∷ []

abbrev pub word_rows : Option ℕ → ℕ → List Row
word_rows None at = []
word_rows (Some word) at = control_word_rows at

-- ---- the reader's answer

abbrev pub tm_word : TmFault → Word
tm_word faults.Length = words.Length
tm_word faults.Check = words.Check
tm_word faults.Version = words.Version
tm_word faults.Spacecraft = words.Spacecraft

-- ---- the data field

abbrev pub pointer_of : ℕ → ℕ
pointer_of status = status % 2 ^ 11

-- The receiver of packets skips a frame with another secondary header flag, synchronization flag, packet order flag or segment length identifier, and
-- one whose pointer lies past its data field of so many octets.
abbrev pub skips : ℕ → ℕ → Bool
skips status size = not (status / 2 ^ 11 == 3) || (nat_le size (pointer_of status) && nat_lt (pointer_of status) 2046)

-- whether packets are read from a frame: one of our channel that the receiver does not skip, with other data than idle ones
abbrev pub has_packets : Profile → TmParts → Bool
has_packets profile parts =
    (parts.vcid == profile.tm.vcid) && not (skips parts.status (length parts.content)) && not (pointer_of parts.status == 2046)

-- how many octets continue a packet of an earlier frame
abbrev pub continued_length : ℕ → List ℕ → ℕ
continued_length pointer content = min pointer (length content)

-- octets from one on, of which there may be none
abbrev pub from_row : Row → ℕ → List Row
from_row row number = if number == 0 then [] else row ∷ []

abbrev pub in_progress : ℕ → ℕ → List Row
in_progress at number = from_row (counted names.PacketInProgress at number words.Length fit.Any) number

-- what is left after the packets: less than a packet, or octets that begin none
abbrev pub left_rows : ℕ → List ℕ → List Row
left_rows at content =
    if nat_le (2 ^ 5) (slice_index content at)
    then from_row (counted names.BetweenPackets at (length content - at) words.Length fit.Any) (length content - at)
    else in_progress at (length content - at)

-- how many octets a packet that the receiver gives has; a mark has none
abbrev pub given_length : Given → ℕ
given_length (packet octets) = length octets
given_length other = 0

abbrev pub OneTold : Bool → Place → Profile → List ℕ → List Line → Type 0
OneTold true place profile octets lines = lines ≡ []
OneTold false place profile octets lines = PacketTold place profile octets lines

abbrev pub GivenTold : Place → Profile → List ℕ → ℕ → List Given → List Line → Type 0
GivenTold place profile content at [] lines = lines ≡ told place None content (left_rows at content)
GivenTold place profile content at (given ∷ more) lines =
    (first : List Line) × (others : List Line)
    × OneTold (given_length given == 0) (later place at) profile (take (given_length given) (drop at content)) first
    × GivenTold place profile content (min (at + given_length given) (length content)) more others × (lines ≡ first ++ others)

abbrev pub DataTold : Bool → Place → Profile → TmParts → List Line → Type 0
DataTold false place profile parts lines =
    lines ≡ told place None parts.content (counted names.DataField 0 (length parts.content) words.Length fit.Any ∷ [])
DataTold true place profile parts lines =
    (packets : List Line)
    × GivenTold place profile parts.content (continued_length (pointer_of parts.status) parts.content) (received fresh parts).given packets
    × (lines ≡ told place None parts.content (in_progress 0 (continued_length (pointer_of parts.status) parts.content)) ++ packets)

-- ---- lines

abbrev pub FieldsTold : Place → Profile → List ℕ → Result TmFrame TmFault → List Line → Type 0
FieldsTold place profile octets (Err fault) lines =
    lines ≡ told place (Some (tm_word fault)) octets
    (tm_header_rows profile octets ++ frame_check profile.tm.fecf octets ++ refused (Some (tm_word fault)) names.TransferFrame 0 (length octets))
FieldsTold place profile octets (Ok frame) lines =
    Encloses place None octets (tm_header_rows profile octets)
    (DataTold (has_packets profile (tm_parts frame)) (later place 6) profile (tm_parts frame))
    (word_rows frame.word (6 + length frame.«data».now) ++ frame_check profile.tm.fecf octets) lines

-- What is told of a telemetry frame: its fields, up to the one for which the reader refuses it, and those of its packets.
pub record TmFrameTold (place : Place) (profile : Profile) (octets : List ℕ) (lines : List Line) : Type 0 where
  pub read : Result TmFrame TmFault
  pub says : TmReads profile octets read
  pub fields : FieldsTold place profile octets read lines
