-- The lines of a telecommand packet (ECSS-E-ST-70-41C, 7.4.4, 8.11.2).
use Rattle.std.specs.Prelude.{◌≡◌, ℕ, zero, suc, ◌+◌, ◌-◌, ◌==◌, nat_le, nat_lt, ◌&&◌, ◌||◌, if◌then◌else◌, Bool, true, false, List, [], ◌∷◌, ◌++◌}
use Rattle.std.specs.Prelude.{length, take, drop, slice_index, Option, Some, None, Result, Ok, Err}
use Rattle.tc_octets.specs.declared.profiles.Profile.{Profile}
use Rattle.tc_packets.specs.SpacePackets.{whole_length_in}
use Rattle.tc_packets.specs.Times.{time_length}
use Rattle.tc_packets.specs.TelecommandReaders.{Reads, service_in, subtype_in}
use Rattle.tc_packets.specs.declared.flights.Flight.{Flight}
use Rattle.tc_packets.specs.declared.telecommand_readers.PacketFault.{PacketFault}
use Rattle.tc_packets.specs.declared.telecommand_readers.PacketFault.TheVariants as faults
use Rattle.tc_decoded.specs.declared.lines.Line.{Line}
use Rattle.tc_decoded.specs.declared.names.Name.TheVariants as names
use Rattle.tc_decoded.specs.declared.places.Place.{Place}
use Rattle.tc_decoded.specs.declared.rows.Shown.TheVariants as shown
use Rattle.tc_decoded.specs.declared.rows.Fit.{Fit}
use Rattle.tc_decoded.specs.declared.rows.Fit.TheVariants as fit
use Rattle.tc_decoded.specs.declared.rows.Word.{Word}
use Rattle.tc_decoded.specs.declared.rows.Word.TheVariants as words
use Rattle.tc_decoded.specs.declared.rows.Row.{Row}
use Rattle.tc_decoded.specs.Added.{Encloses}
use Rattle.tc_decoded.specs.Places.{later}
use Rattle.tc_decoded.specs.Rows.{counted, field, plain, told}
use Rattle.tc_decoded.specs.Tables.{name_rows, offset_rows, packet_check, primary_header, refused, time_rows}

-- ---- the table

-- a service of this link: any but 0; a subtype: any but 0, and of the schedule's service one that flies
abbrev pub subtype_fit : ℕ → Fit
subtype_fit service = if service == 11 then fit.Scheduled else fit.Between 1 255

abbrev pub secondary_header : Profile → List ℕ → List Row
secondary_header profile octets =
    field names.PusVersion 6 0 4 shown.Number words.Header (fit.Is 2)
    ∷ plain names.Completion 6 4 1 shown.Flag
    ∷ plain names.Progress 6 5 1 shown.Flag
    ∷ plain names.Start 6 6 1 shown.Flag
    ∷ plain names.Acceptance 6 7 1 shown.Flag
    ∷ field names.ServiceType 7 0 8 shown.Number words.Subtype (fit.Between 1 255)
    ∷ field names.MessageSubtype 8 0 8 shown.Number words.Subtype (subtype_fit (service_in octets))
    ∷ field names.SourceId 9 0 16 shown.Number words.Header (fit.Is profile.source)
    ∷ []

abbrev pub headers : Profile → List ℕ → List Row
headers profile octets = primary_header octets 13 words.Header 1 (fit.Between 0 2046) ++ secondary_header profile octets

-- how many octets of application data there are, and so many of them from octet 11 on
abbrev pub data_length : List ℕ → ℕ
data_length octets = length octets - 13

abbrev pub data_row : ℕ → Fit → Row
data_row number expected = counted names.ApplicationData 11 number words.Data expected

-- an outcome (this project's own): steps if it has some, and a code if something fails
abbrev pub outcome_rows : ℕ → ℕ → List Row
outcome_rows kind at =
    field names.Outcome at 0 8 shown.Outcome words.Data (fit.Between 0 5)
    ∷ field names.Steps (at + 1) 0 8 shown.Number words.Data (if (kind == 1) || (kind == 4) then fit.Between 1 9 else fit.Is 0)
    ∷ field names.FailureCode (at + 2) 0 8 shown.Number words.Data (if nat_le kind 1 then fit.Is 0 else fit.Between 16 255)
    ∷ []

-- the data of a request for a rehearsal spacecraft: its own, and the outcome, which stands last
abbrev pub rehearsal_rows : List ℕ → List Row
rehearsal_rows octets =
    if nat_lt (data_length octets) 3
    then counted names.Outcome 11 (data_length octets) words.Data (fit.Least 3) ∷ []
    else data_row (data_length octets - 3) (fit.Most 96) ∷ outcome_rows (slice_index octets (length octets - 5)) (length octets - 5)

abbrev pub plain_rows : Profile → List ℕ → List Row
plain_rows profile octets = if profile.rehearsal then rehearsal_rows octets else data_row (data_length octets) (fit.Most 96) ∷ []

-- one name: how many, and the name
abbrev pub target_rows : Profile → ℕ → List Row
target_rows profile at = field names.NumberOfNames at 0 8 shown.Number words.Data (fit.Is 1) ∷ name_rows (fit.Is profile.source) (at + 1)

-- an offset, and one name
abbrev pub shift_rows : Profile → List Row
shift_rows profile = offset_rows profile.fine 11 ++ target_rows profile (11 + time_length profile)

-- the data of the schedule's service, by its subtype: how many octets, and their fields
abbrev pub needed : Profile → ℕ → Fit
needed profile subtype =
    if subtype == 4 then fit.Least 1
    else if subtype == 5 then fit.Is 7
    else if subtype == 7 then fit.Is (time_length profile + 7)
    else if subtype == 15 then fit.Is (time_length profile)
    else fit.Is 0

abbrev pub schedule_fields : Profile → ℕ → List Row
schedule_fields profile subtype =
    if subtype == 4 then field names.NumberOfActivities 11 0 8 shown.Number words.Data (fit.Between 1 8) ∷ []
    else if subtype == 5 then target_rows profile 11
    else if subtype == 7 then shift_rows profile
    else if subtype == 15 then offset_rows profile.fine 11
    else []

abbrev pub schedule_rows : Profile → ℕ → ℕ → List Row
schedule_rows profile number subtype = data_row number (needed profile subtype) ∷ schedule_fields profile subtype

abbrev pub data_rows : Profile → List ℕ → List Row
data_rows profile octets =
    if service_in octets == 11 then schedule_rows profile (data_length octets) (subtype_in octets) else plain_rows profile octets

-- error control, and a last row if the reader refuses the packet
abbrev pub closing_rows : Option Word → List ℕ → List Row
closing_rows word octets = packet_check octets ∷ refused word names.ApplicationData 11 (data_length octets)

-- ---- the reader's answer

abbrev pub word_of : Result Flight PacketFault → Option Word
word_of (Ok flight) = None
word_of (Err faults.Length) = Some words.Length
word_of (Err faults.Check) = Some words.Check
word_of (Err faults.Header) = Some words.Header
word_of (Err faults.Subtype) = Some words.Subtype
word_of (Err faults.Data) = Some words.Data

-- The word by which `read_telecommand` refuses these octets, or none.
pub record Judged (profile : Profile) (octets : List ℕ) (word : Option Word) : Type 0 where
  pub read : Result Flight PacketFault
  pub says : Reads profile octets read
  pub is : word ≡ word_of read

-- ---- lines

-- A packet of an activity is one of a plain request.
abbrev pub activity_packet_lines : Place → Option Word → Profile → List ℕ → List Line
activity_packet_lines place word profile octets =
    told place word octets (headers profile octets ++ plain_rows profile octets ++ closing_rows word octets)

-- how many octets the first activity takes: its time, and its packet by its own length
abbrev pub activity_length : Profile → List ℕ → ℕ
activity_length profile octets = time_length profile + whole_length_in (drop (time_length profile) octets)

abbrev pub activity_packet : Profile → List ℕ → List ℕ
activity_packet profile octets = take (whole_length_in (drop (time_length profile) octets)) (drop (time_length profile) octets)

-- octets that are less than an activity
abbrev pub is_cut : Profile → List ℕ → Bool
is_cut profile octets = nat_lt (length octets) (activity_length profile octets)

abbrev pub cut_row : Profile → List ℕ → Row
cut_row profile octets = counted names.Activity 0 (length octets) words.Data (fit.Least (activity_length profile octets))

-- an activity that is whole: its time, and the lines of its packet
pub record ActivityLines (place : Place) (word : Option Word) (profile : Profile) (octets : List ℕ) (lines : List Line) : Type 0 where
  pub inner : Option Word
  pub judged : Judged profile (activity_packet profile octets) inner
  pub both : lines ≡ told place word octets (time_rows profile 0)
      ++ activity_packet_lines (later place (time_length profile)) inner profile (activity_packet profile octets)

-- An activity that is cut ends the list; others follow one that is whole.
abbrev pub ActivityTold : Bool → Place → Option Word → Profile → List ℕ → (List Line → Type 0) → List Line → Type 0
ActivityTold true place word profile octets Others lines = lines ≡ told place (Some words.Data) octets (cut_row profile octets ∷ [])
ActivityTold false place word profile octets Others lines =
    (first : List Line) × (others : List Line) × ActivityLines place word profile octets first × Others others × (lines ≡ first ++ others)

-- the lines of so many activities
abbrev pub ActivitiesTold : ℕ → Place → Option Word → Profile → List ℕ → List Line → Type 0
ActivitiesTold zero place word profile octets lines = lines ≡ []
ActivitiesTold (suc number) place word profile octets lines =
    ActivityTold (is_cut profile octets) place word profile octets
    (ActivitiesTold number (later place (activity_length profile octets)) word profile (drop (activity_length profile octets) octets))
    lines

-- whether a packet's lines have those of activities: an insert of 1 to 8, of which the reader refuses no header
abbrev pub may_insert : Option Word → Bool
may_insert None = true
may_insert (Some words.Data) = true
may_insert (Some other) = false

abbrev pub is_insert : Option Word → List ℕ → Bool
is_insert word octets =
    may_insert word && (service_in octets == 11) && (subtype_in octets == 4) && nat_le 1 (slice_index octets 11) && nat_le (slice_index octets 11) 8
    && nat_le 14 (length octets)

-- the octets of the activities
abbrev pub inserted : List ℕ → List ℕ
inserted octets = take (length octets - 14) (drop 12 octets)

abbrev pub FieldsTold : Bool → Place → Option Word → Profile → List ℕ → List Line → Type 0
FieldsTold false place word profile octets lines =
    lines ≡ told place word octets (headers profile octets ++ data_rows profile octets ++ closing_rows word octets)
FieldsTold true place word profile octets lines =
    Encloses place word octets (headers profile octets ++ data_rows profile octets)
    (ActivitiesTold (slice_index octets 11) (later place 12) word profile (inserted octets)) (closing_rows word octets) lines

-- What is told of a telecommand packet: its fields, up to the one for which the reader refuses it.
pub record TelecommandTold (place : Place) (profile : Profile) (octets : List ℕ) (lines : List Line) : Type 0 where
  pub word : Option Word
  pub judged : Judged profile octets word
  pub fields : FieldsTold (is_insert word octets) place word profile octets lines
