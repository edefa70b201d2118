-- Telemetry reports as they are written (ECSS-E-ST-70-41C, 7.4.3): request verification (8.1.2), and the summary of the schedule on board (8.11.2).
use Rattle.std.specs.Prelude.{ℕ, ◌+◌, ◌≤◌, if◌then◌else◌, Bool, true, List, [], ◌∷◌, ◌++◌, length, All, Option, Some, None}
use Rattle.std.specs.List.{flat_map}
use Rattle.tc_types.specs.LinkLines.{verification_subtype}
use Rattle.tc_types.specs.Limits.{most_activities}
use Rattle.tc_types.specs.declared.link.reports.Verification.{Verification}
use Rattle.tc_types.specs.declared.link.reports.Verification.TheVariants as verification
use Rattle.tc_octets.specs.Bits.{pair}
use Rattle.tc_octets.specs.TcFrames.{closed}
use Rattle.tc_octets.specs.declared.profiles.Profile.{Profile}
use Rattle.tc_packets.specs.SpacePackets.{header_of}
use Rattle.tc_packets.specs.Times.{HasTime, time_of}
use Rattle.tc_packets.specs.Identities.{Flies, name_of, request_id_of}
use Rattle.tc_packets.specs.declared.space_packets.PacketType.TheVariants as types
use Rattle.tc_packets.specs.declared.space_packets.SequenceFlags.TheVariants as sequences
use Rattle.tc_packets.specs.declared.space_packets.PacketHeader.{PacketHeader}
use Rattle.tc_packets.specs.declared.told.ScheduledActivity.{ScheduledActivity}
use Rattle.tc_packets.specs.declared.told.ScheduleSummary.{ScheduleSummary}
use Rattle.tc_packets.specs.declared.told.Told.{Told}
use Rattle.tc_packets.specs.declared.told.Told.TheVariants as told

-- the service and the subtype of a report
abbrev pub service_of : Told → ℕ
service_of (told.Verification verification request) = 1
service_of (told.Summary summary) = 11

abbrev pub subtype_of : Told → ℕ
subtype_of (told.Verification verification request) = verification_subtype verification
subtype_of (told.Summary summary) = 13

-- what follows the request id: the step of a progress report, and the code of a failure
abbrev pub details_of : Verification → List ℕ
details_of verification.Accepted = []
details_of (verification.AcceptanceFailed code) = code ∷ []
details_of verification.Started = []
details_of (verification.StartFailed code) = code ∷ []
details_of (verification.StepDone step) = step ∷ []
details_of (verification.StepFailed step code) = step ∷ code ∷ []
details_of verification.Completed = []
details_of (verification.CompletionFailed code) = code ∷ []

-- an activity of our source in a summary: its release time and its name
abbrev pub activity_octets : Profile → ScheduledActivity → List ℕ
activity_octets profile activity = time_of profile activity.time ++ name_of (record { source = profile.source; identity = activity.identity })

-- the status of the schedule, if it is told
abbrev pub status_of : Option Bool → List ℕ
status_of None = []
status_of (Some enabled) = (if enabled then 1 else 0) ∷ []

-- the source data of a summary: the number of activities, each of them, and the status
abbrev pub summary_data : Profile → ScheduleSummary → List ℕ
summary_data profile summary = length summary.activities ∷ flat_map (activity_octets profile) summary.activities ++ status_of summary.enabled

-- the source data of a report
abbrev pub source_data : Profile → Told → List ℕ
source_data profile (told.Verification verification request) = request_id_of request ++ details_of verification
source_data profile (told.Summary summary) = summary_data profile summary

-- Secondary header: PUS version 2 and time reference status 0, service, subtype, message type counter 0, destination, time on board.
abbrev pub secondary_header : Profile → ℕ → Told → List ℕ
secondary_header profile now told = 0x20 ∷ service_of told ∷ subtype_of told ∷ pair 0 ++ pair profile.source ++ time_of profile now

abbrev pub report_header : Profile → ℕ → PacketHeader
report_header profile count =
    record { kind = types.Telemetry; secondary = true; identity = record { apid = profile.apid; count = count }; sequence = sequences.Unsegmented }

abbrev pub report_field : Profile → ℕ → Told → List ℕ
report_field profile now told = secondary_header profile now told ++ source_data profile told

-- the octets of a report: its headers and source data, and the CRC-16 of all that
abbrev pub report_of : Profile → ℕ → ℕ → Told → List ℕ
report_of profile count now told =
    closed true (header_of (report_header profile count) (length (report_field profile now told) + 2) ++ report_field profile now told)

-- an activity that a summary can list
pub record IsListed (profile : Profile) (activity : ScheduledActivity) : Type 0 where
  pub time : HasTime profile.epoch activity.time
  pub identity : Flies activity.identity

-- What a report can tell: of a request that flies, or of at most 64 such activities.
abbrev pub IsReportable : Profile → Told → Type 0
IsReportable profile (told.Verification verification request) = Flies request
IsReportable profile (told.Summary summary) = All (IsListed profile) summary.activities × (length summary.activities ≤ most_activities)
