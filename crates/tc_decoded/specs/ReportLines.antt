-- The lines of a telemetry packet (CCSDS 133.0-B, 4.1; ECSS-E-ST-70-41C, 7.4.3, 8.1.2, 8.11.2), and of any packet.
use Rattle.std.specs.Prelude.{◌≡◌, ℕ, zero, suc, ◌+◌, ◌*◌, ◌-◌, ◌==◌, nat_le, ◌&&◌, ◌||◌, if◌then◌else◌, Bool, true, false, List, [], ◌∷◌, ◌++◌}
use Rattle.std.specs.Prelude.{length, slice_index, Option, Some, None, Result, Ok, Err}
use Rattle.tc_octets.specs.Bits.{pair_at}
use Rattle.tc_octets.specs.declared.profiles.Profile.{Profile}
use Rattle.tc_packets.specs.Times.{time_length}
use Rattle.tc_packets.specs.ReportReaders.{ReadsReport}
use Rattle.tc_packets.specs.declared.told.Heard.{Heard}
use Rattle.tc_packets.specs.declared.told.ReportFault.{ReportFault}
use Rattle.tc_packets.specs.declared.told.ReportFault.TheVariants as faults
use Rattle.tc_decoded.specs.declared.lines.Line.{Line}
use Rattle.tc_decoded.specs.declared.names.Name.TheVariants as names
use Rattle.tc_decoded.specs.declared.places.Place.{Place}
use Rattle.tc_decoded.specs.declared.rows.Shown.TheVariants as shown
use Rattle.tc_decoded.specs.declared.rows.Fit.{Fit}
use Rattle.tc_decoded.specs.declared.rows.Fit.TheVariants as fit
use Rattle.tc_decoded.specs.declared.rows.Word.{Word}
use Rattle.tc_decoded.specs.declared.rows.Word.TheVariants as words
use Rattle.tc_decoded.specs.declared.rows.Row.{Row}
use Rattle.tc_decoded.specs.Rows.{bits_in, counted, field, plain, told}
use Rattle.tc_decoded.specs.Tables.{board_time_rows, name_rows, packet_check, primary_header, refused, time_rows}
use Rattle.tc_decoded.specs.Telecommands.{TelecommandTold}

-- ---- the table

-- APID 2047 is the idle packet's
abbrev pub is_idle : List ℕ → Bool
is_idle octets = bits_in octets 0 (record { bit = 5; bits = 11 }) == 2047

-- where the source data begin
abbrev pub source_at : Profile → ℕ
source_at profile = 13 + time_length profile

abbrev pub source_length : Profile → List ℕ → ℕ
source_length profile octets = length octets - 15 - time_length profile

abbrev pub fewest_octets : Profile → List ℕ → ℕ
fewest_octets profile octets = if is_idle octets then 7 else 15 + time_length profile

abbrev pub primary_rows : Profile → List ℕ → List Row
primary_rows profile octets = primary_header octets (fewest_octets profile octets) words.Version 0 fit.Any

abbrev pub secondary_rows : Profile → List Row
secondary_rows profile =
    field names.PusVersion 6 0 4 shown.Number words.Header (fit.Is 2)
    ∷ plain names.TimeReferenceStatus 6 4 4 shown.Number
    ∷ plain names.ServiceType 7 0 8 shown.Number
    ∷ plain names.MessageSubtype 8 0 8 shown.Number
    ∷ plain names.MessageTypeCounter 9 0 16 shown.Number
    ∷ plain names.DestinationId 11 0 16 shown.Number
    ∷ board_time_rows profile.fine 13

abbrev pub source_row : Profile → List ℕ → Fit → Row
source_row profile octets expected = counted names.SourceData (source_at profile) (source_length profile octets) words.Data expected

-- a step, and a code, by the subtype of a verification report
abbrev pub has_step : ℕ → Bool
has_step subtype = (subtype == 5) || (subtype == 6)

abbrev pub has_code : ℕ → Bool
has_code subtype = (subtype == 2) || (subtype == 4) || (subtype == 6) || (subtype == 8)

abbrev pub step_length : ℕ → ℕ
step_length subtype = if has_step subtype then 1 else 0

-- Octets after the code of a failure are ignored.
abbrev pub verification_fit : ℕ → Fit
verification_fit subtype =
    if has_code subtype then fit.Least (5 + step_length subtype) else fit.Is (4 + step_length subtype)

-- the request id: the first four octets of the request's packet
abbrev pub request_id_rows : ℕ → List Row
request_id_rows at =
    field names.PacketVersion at 0 3 shown.Number words.Data (fit.Is 0)
    ∷ field names.PacketType at 3 1 shown.Kind words.Data (fit.Is 1)
    ∷ field names.SecondaryHeaderFlag at 4 1 shown.Flag words.Data (fit.Is 1)
    ∷ field names.Apid at 5 11 shown.Number words.Data (fit.Between 0 2046)
    ∷ field names.SequenceFlags (at + 2) 0 2 shown.Sequence words.Data (fit.Is 3)
    ∷ plain names.SequenceCount (at + 2) 2 14 shown.Number
    ∷ []

abbrev pub details_rows : ℕ → ℕ → List Row
details_rows subtype at =
    (if has_step subtype then plain names.Step at 0 8 shown.Number ∷ [] else [])
    ++ (if has_code subtype then plain names.FailureCode (at + step_length subtype) 0 8 shown.Number ∷ [] else [])

abbrev pub verification_rows : Profile → List ℕ → ℕ → List Row
verification_rows profile octets subtype =
    source_row profile octets (verification_fit subtype) ∷ request_id_rows (source_at profile) ++ details_rows subtype (source_at profile + 4)

-- an activity of a summary: its release time and its name, of any source
abbrev pub entry_length : Profile → ℕ
entry_length profile = time_length profile + 6

abbrev pub entry_rows : Profile → ℕ → List Row
entry_rows profile at = time_rows profile at ++ name_rows fit.Any (at + time_length profile)

-- so many of them, one after the other
abbrev pub entries_rows : Profile → ℕ → ℕ → List Row
entries_rows profile at zero = []
entries_rows profile at (suc number) = entries_rows profile at number ++ entry_rows profile (at + number * entry_length profile)

-- what a summary's source data have: the number, the activities, and the status, which may be missing
abbrev pub summary_length : Profile → ℕ → ℕ
summary_length profile number = 1 + number * entry_length profile

abbrev pub status_rows : Profile → List ℕ → ℕ → List Row
status_rows profile octets number =
    if source_length profile octets == summary_length profile number + 1
    then field names.ScheduleStatus (source_at profile + summary_length profile number) 0 8 shown.Status words.Data (fit.Between 0 1) ∷ []
    else []

abbrev pub summary_rows_of : Profile → List ℕ → ℕ → List Row
summary_rows_of profile octets number =
    source_row profile octets (fit.Between (summary_length profile number) (summary_length profile number + 1))
    ∷ field names.NumberOfActivities (source_at profile) 0 8 shown.Number words.Data (fit.Between 0 64)
    ∷ entries_rows profile (source_at profile + 1) number ++ status_rows profile octets number

abbrev pub summary_rows : Profile → List ℕ → List Row
summary_rows profile octets = summary_rows_of profile octets (slice_index octets (source_at profile))

-- a report for the desk: to its source, of a type that it reads
abbrev pub is_ours : Profile → List ℕ → Bool
is_ours profile octets = pair_at octets 11 == profile.source

abbrev pub is_verification : List ℕ → Bool
is_verification octets = (slice_index octets 7 == 1) && nat_le 1 (slice_index octets 8) && nat_le (slice_index octets 8) 8

abbrev pub is_summary : List ℕ → Bool
is_summary octets = (slice_index octets 7 == 11) && (slice_index octets 8 == 13)

abbrev pub source_rows : Profile → List ℕ → List Row
source_rows profile octets =
    if is_ours profile octets && is_verification octets then verification_rows profile octets (slice_index octets 8)
    else if is_ours profile octets && is_summary octets then summary_rows profile octets
    else source_row profile octets fit.Any ∷ []

abbrev pub report_rows : Profile → Option Word → List ℕ → List Row
report_rows profile word octets =
    secondary_rows profile ++ source_rows profile octets
    ++ packet_check octets ∷ refused word names.SourceData (source_at profile) (source_length profile octets)

abbrev pub idle_rows : Option Word → List ℕ → List Row
idle_rows word octets = counted names.IdleData 6 (length octets - 6) words.Length fit.Any ∷ refused word names.Packet 0 (length octets)

abbrev pub telemetry_rows : Profile → Option Word → List ℕ → List Row
telemetry_rows profile word octets =
    primary_rows profile octets ++ (if is_idle octets then idle_rows word octets else report_rows profile word octets)

-- ---- the reader's answer

abbrev pub word_of : Result Heard ReportFault → Option Word
word_of (Ok heard) = None
word_of (Err faults.Length) = Some words.Length
word_of (Err faults.Version) = Some words.Version
word_of (Err faults.Header) = Some words.Header
word_of (Err faults.Check) = Some words.Check
word_of (Err faults.Data) = Some words.Data

-- The word by which `read_report` refuses these octets, or none.
pub record Judged (profile : Profile) (octets : List ℕ) (word : Option Word) : Type 0 where
  pub read : Result Heard ReportFault
  pub says : ReadsReport profile octets read
  pub is : word ≡ word_of read

-- ---- lines

-- What is told of a telemetry packet: its fields, up to the one for which the reader refuses it.
pub record TelemetryTold (place : Place) (profile : Profile) (octets : List ℕ) (lines : List Line) : Type 0 where
  pub word : Option Word
  pub judged : Judged profile octets word
  pub fields : lines ≡ told place word octets (telemetry_rows profile word octets)

-- a packet of type 1
abbrev pub is_request : List ℕ → Bool
is_request octets = bits_in octets 0 (record { bit = 3; bits = 1 }) == 1

abbrev pub PacketToldAs : Bool → Place → Profile → List ℕ → List Line → Type 0
PacketToldAs true = TelecommandTold
PacketToldAs false = TelemetryTold

-- What is told of a packet: a telecommand by its type, or telemetry.
abbrev pub PacketTold : Place → Profile → List ℕ → List Line → Type 0
PacketTold place profile octets = PacketToldAs (is_request octets) place profile octets
