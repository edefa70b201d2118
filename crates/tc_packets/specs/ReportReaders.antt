-- What telemetry packets tell (ECSS-E-ST-70-41C, 7.4.3, 8.1.2, 8.11.2).
-- Time reference status, message type counter, time on board and fractions of a second are ignored.
use Rattle.std.specs.Prelude.{◌≡◌, ◌≢◌, ◌⊎◌, ℕ, ◌+◌, ◌/◌, ◌^◌, ◌-◌, ◌≤◌, ◌==◌, if◌then◌else◌, Bool, true, false, List, [], ◌∷◌, length, take}
use Rattle.std.specs.Prelude.{drop, slice_index, slice_range, Option, Some, None, Result, Ok, Err}
use Rattle.std.specs.List.{filter_map}
use Rattle.tc_types.specs.LinkLines.{verification_subtype}
use Rattle.tc_types.specs.Limits.{most_activities}
use Rattle.tc_types.specs.declared.requests.Identity.{Identity}
use Rattle.tc_types.specs.declared.link.reports.Verification.{Verification}
use Rattle.tc_types.specs.declared.link.reports.Verification.TheVariants as verification
use Rattle.tc_octets.specs.Bits.{pair_at}
use Rattle.tc_octets.specs.Crc.{crc_of}
use Rattle.tc_octets.specs.declared.profiles.Profile.{Profile}
use Rattle.tc_packets.specs.SpacePackets.{ReadsPacket}
use Rattle.tc_packets.specs.Times.{IsTime, time_length}
use Rattle.tc_packets.specs.Identities.{Flies, name_of, request_id_of}
use Rattle.tc_packets.specs.declared.identities.ActivityName.{ActivityName}
use Rattle.tc_packets.specs.declared.space_packets.PacketType.TheVariants as types
use Rattle.tc_packets.specs.declared.space_packets.SequenceFlags.TheVariants as sequences
use Rattle.tc_packets.specs.declared.space_packets.PacketHeader.{PacketHeader}
use Rattle.tc_packets.specs.declared.space_packets.SpacePacket.{SpacePacket}
use Rattle.tc_packets.specs.declared.space_packets.SpaceFault.{SpaceFault}
use Rattle.tc_packets.specs.declared.space_packets.SpaceFault.TheVariants as space
use Rattle.tc_packets.specs.declared.told.ScheduledActivity.{ScheduledActivity}
use Rattle.tc_packets.specs.declared.told.ScheduleSummary.{ScheduleSummary}
use Rattle.tc_packets.specs.declared.told.Told.{Told}
use Rattle.tc_packets.specs.declared.told.Told.TheVariants as told
use Rattle.tc_packets.specs.declared.told.HeardReport.{HeardReport}
use Rattle.tc_packets.specs.declared.told.Heard.{Heard}
use Rattle.tc_packets.specs.declared.told.Heard.TheVariants as heard
use Rattle.tc_packets.specs.declared.told.ReportFault.{ReportFault}
use Rattle.tc_packets.specs.declared.told.ReportFault.TheVariants as faults
use Rattle.tc_packets.specs.Reports.{details_of, service_of, status_of, subtype_of}

-- ---- what source data tell

abbrev pub is_failure : Verification → Bool
is_failure verification.Accepted = false
is_failure (verification.AcceptanceFailed code) = true
is_failure verification.Started = false
is_failure (verification.StartFailed code) = true
is_failure (verification.StepDone step) = false
is_failure (verification.StepFailed step code) = true
is_failure verification.Completed = false
is_failure (verification.CompletionFailed code) = true

-- Parameters may follow the code of a failure, and are ignored. A success report ends where it ends.
abbrev pub HasDetails : List ℕ → Verification → Type 0
HasDetails octets verification =
    (if is_failure verification then take (length (details_of verification)) octets else octets) ≡ details_of verification

-- what a reader says of octets after a request id, in a report of this subtype
abbrev pub ReadsDetails : ℕ → List ℕ → Option Verification → Type 0
ReadsDetails subtype octets (Some verification) = (verification_subtype verification ≡ subtype) × HasDetails octets verification
ReadsDetails subtype octets None = (verification : Verification) → verification_subtype verification ≡ subtype → ¬ HasDetails octets verification

-- octets are this verification's: the request id, and its details
pub record Verifies (octets : List ℕ) (verification : Verification) (request : Identity) : Type 0 where
  pub flies : Flies request
  pub request_id : take 4 octets ≡ request_id_of request
  pub details : HasDetails (drop 4 octets) verification

-- an activity as a summary lists it, of whatever source
pub record Entry : Type 0 where
  pub time : ℕ
  pub name : ActivityName

-- how many octets it has: those of a release time, and of a name
abbrev pub entry_length : Profile → ℕ
entry_length profile = time_length profile + 6

pub record IsEntry (profile : Profile) (octets : List ℕ) (entry : Entry) : Type 0 where
  pub time : IsTime profile (take (time_length profile) octets) entry.time
  pub flies : Flies entry.name.identity
  pub name : drop (time_length profile) octets ≡ name_of entry.name

-- octets are these entries, one after another, and then the rest
abbrev pub AreEntries : Profile → List ℕ → List Entry → List ℕ → Type 0
AreEntries profile octets [] rest = octets ≡ rest
AreEntries profile octets (entry ∷ entries) rest =
    IsEntry profile (take (entry_length profile) octets) entry × AreEntries profile (drop (entry_length profile) octets) entries rest

-- octets do not begin with so many entries
abbrev pub HasNoEntries : Profile → ℕ → List ℕ → Type 0
HasNoEntries profile number octets = (entries : List Entry) (rest : List ℕ) → length entries ≡ number → ¬ AreEntries profile octets entries rest

-- An activity is ours if its request has our source.
abbrev pub our_activity : ℕ → Entry → Option ScheduledActivity
our_activity source entry = if entry.name.source == source then Some (record { time = entry.time; identity = entry.name.identity }) else None

-- so many entries and then the rest: the activities of our source among them, and how many there are of others
pub record Lists (profile : Profile) (number : ℕ) (octets rest : List ℕ) (activities : List ScheduledActivity) (passed : ℕ) : Type 0 where
  pub entries : List Entry
  pub count : length entries ≡ number
  pub listed : AreEntries profile octets entries rest
  pub ours : activities ≡ filter_map (our_activity profile.source) entries
  pub others : length activities + passed ≡ number

-- the number of entries, the entries and the status: our activities are told, and the others are passed over and counted
abbrev pub Summarizes : Profile → List ℕ → ScheduleSummary → ℕ → Type 0
Summarizes profile [] summary passed = ⊥
Summarizes profile (number ∷ octets) summary passed =
    (number ≤ most_activities) × Lists profile number octets (status_of summary.enabled) summary.activities passed

-- source data tell this, with so many activities passed over
abbrev pub Tells : Profile → List ℕ → Told → ℕ → Type 0
Tells profile octets (told.Verification verification request) passed = Verifies octets verification request × (passed ≡ 0)
Tells profile octets (told.Summary summary) passed = Summarizes profile octets summary passed

-- what a reader says of source data of a report of this type, or that no report has them
abbrev pub ReadsSource : Profile → Identity → ℕ → ℕ → List ℕ → Option HeardReport → Type 0
ReadsSource profile origin service subtype octets (Some report) =
    (report.origin ≡ origin) × (service_of report.told ≡ service) × (subtype_of report.told ≡ subtype)
    × Tells profile octets report.told report.passed
ReadsSource profile origin service subtype octets None =
    (told : Told) (passed : ℕ) → service_of told ≡ service → subtype_of told ≡ subtype → ¬ Tells profile octets told passed

-- ---- what a reader looks at

-- APID 2047 is the idle packet's
abbrev pub IsIdle : PacketHeader → Type 0
IsIdle header = header.identity.apid ≡ 2047

-- a telemetry packet with a secondary header, unsegmented
pub record IsReportHeader (header : PacketHeader) : Type 0 where
  pub kind : header.kind ≡ types.Telemetry
  pub secondary : header.secondary ≡ true
  pub sequence : header.sequence ≡ sequences.Unsegmented

-- a secondary header and a CRC fit
abbrev pub HasRoom : Profile → List ℕ → Type 0
HasRoom profile field = 7 + time_length profile + 2 ≤ length field

abbrev pub pus_version_in : List ℕ → ℕ
pus_version_in field = slice_index field 0 / 2 ^ 4

abbrev pub service_in : List ℕ → ℕ
service_in field = slice_index field 1

abbrev pub subtype_in : List ℕ → ℕ
subtype_in field = slice_index field 2

abbrev pub destination_in : List ℕ → ℕ
destination_in field = pair_at field 5

-- what stands between the secondary header and the CRC
abbrev pub source_data_in : Profile → List ℕ → List ℕ
source_data_in profile field = slice_range field (7 + time_length profile) (length field - 2)

-- a report of request verification, or a summary of the schedule
abbrev pub IsKnown : ℕ → ℕ → Type 0
IsKnown service subtype = ((service ≡ 1) × (1 ≤ subtype) × (subtype ≤ 8)) ⊎ ((service ≡ 11) × (subtype ≡ 13))

-- a report that has the desk for its destination, of a type that it reads
pub record IsOurs (profile : Profile) (field : List ℕ) : Type 0 where
  pub destination : destination_in field ≡ profile.source
  pub known : IsKnown (service_in field) (subtype_in field)

-- a packet of no idle kind, with a good header, long enough
pub record IsLong (profile : Profile) (header : PacketHeader) (field : List ℕ) : Type 0 where
  pub busy : ¬ IsIdle header
  pub good : IsReportHeader header
  pub room : HasRoom profile field

-- such a packet whose CRC and PUS version are right
pub record IsSound (profile : Profile) (octets : List ℕ) (header : PacketHeader) (field : List ℕ) : Type 0 where
  pub long : IsLong profile header field
  pub checked : crc_of octets ≡ 0
  pub version : pus_version_in field ≡ 2

-- the report in a data field, or that there is none
abbrev pub ReadsField : Profile → Identity → List ℕ → Option HeardReport → Type 0
ReadsField profile origin field report = ReadsSource profile origin (service_in field) (subtype_in field) (source_data_in profile field) report

-- What a reader says of a space packet. The steps in their order: idle, header, length, check, PUS version, destination and type, source data.
abbrev pub Judges : Profile → List ℕ → PacketHeader → List ℕ → Result Heard ReportFault → Type 0
Judges profile octets header field (Ok heard.Idle) = IsIdle header
Judges profile octets header field (Ok (heard.Other service subtype)) =
    IsSound profile octets header field × ¬ IsOurs profile field × (service ≡ service_in field) × (subtype ≡ subtype_in field)
Judges profile octets header field (Ok (heard.Report report)) =
    IsSound profile octets header field × IsOurs profile field × ReadsField profile header.identity field (Some report)
Judges profile octets header field (Err faults.Length) = ¬ IsIdle header × IsReportHeader header × ¬ HasRoom profile field
Judges profile octets header field (Err faults.Version) = ⊥
Judges profile octets header field (Err faults.Header) =
    (¬ IsIdle header × ¬ IsReportHeader header) ⊎ (IsLong profile header field × (crc_of octets ≡ 0) × (pus_version_in field ≢ 2))
Judges profile octets header field (Err faults.Check) = IsLong profile header field × (crc_of octets ≢ 0)
Judges profile octets header field (Err faults.Data) =
    IsSound profile octets header field × IsOurs profile field × ReadsField profile header.identity field None

-- A reader hands on why octets are no space packet, and judges the packet that they are.
abbrev pub HandsOn : Profile → List ℕ → Result SpacePacket SpaceFault → Result Heard ReportFault → Type 0
HandsOn profile octets (Ok packet) result = Judges profile octets packet.header packet.field.now result
HandsOn profile octets (Err space.Length) result = result ≡ Err faults.Length
HandsOn profile octets (Err space.Version) result = result ≡ Err faults.Version

-- What a reader says of octets: what they tell, that they are idle or not for the desk, or the first fault that applies.
pub record ReadsReport (profile : Profile) (octets : List ℕ) (result : Result Heard ReportFault) : Type 0 where
  pub packet : Result SpacePacket SpaceFault
  pub reads : ReadsPacket octets packet
  pub judges : HandsOn profile octets packet result
