-- What telecommand packets say (ECSS-E-ST-70-41C, 7.4.4, 8.11.2). Fractions of a second are ignored.
use Rattle.std.specs.Prelude.{◌≡◌, ◌≢◌, ℕ, ◌+◌, ◌/◌, ◌%◌, ◌^◌, ◌-◌, ◌≤◌, Option, Some, None, Result, Ok, Err, List, [], ◌∷◌, ◌++◌, length, take, drop}
use Rattle.std.specs.Prelude.{slice_index, ◌==◌, Bool, IsTrue}
use Rattle.std.specs.List.{AllByRecursion, list_any}
use Rattle.tc_types.specs.declared.requests.Ack.{Ack}
use Rattle.tc_types.specs.declared.requests.Identity.{Identity}
use Rattle.tc_types.specs.declared.requests.Outcome.{Outcome}
use Rattle.tc_octets.specs.Bits.{pair_at}
use Rattle.tc_octets.specs.Crc.{crc_of}
use Rattle.tc_octets.specs.declared.profiles.Profile.{Profile}
use Rattle.tc_packets.specs.SpacePackets.{whole_length_in}
use Rattle.tc_packets.specs.Identities.{Flies, request_id_of}
use Rattle.tc_packets.specs.Times.{HasSeconds, complement, seconds_since, time_length}
use Rattle.tc_packets.specs.Flights.{Fits, FitsActivity, FitsOutcome, FitsTask, FitsPlain}
use Rattle.tc_packets.specs.ApplicationData.{most_data}
use Rattle.tc_packets.specs.Telecommands.{activity_packet_of, outcome_part, packet_of, plain_data_of, schedule, service_of, subtype_of, target_of}
use Rattle.tc_packets.specs.declared.flights.Plain.{Plain}
use Rattle.tc_packets.specs.declared.flights.FlightActivity.{FlightActivity}
use Rattle.tc_packets.specs.declared.flights.FlightTask.{FlightTask}
use Rattle.tc_packets.specs.declared.flights.FlightTask.TheVariants as tasks
use Rattle.tc_packets.specs.declared.flights.Flight.{Flight}
use Rattle.tc_packets.specs.declared.telecommand_readers.PacketFault.{PacketFault}
use Rattle.tc_packets.specs.declared.telecommand_readers.PacketFault.TheVariants as faults

-- ---- octets that are a request's packet

-- octets begin with this activity: its release time with any fraction, and its packet
pub record BeginsWith (profile : Profile) (octets : List ℕ) (activity : FlightActivity) : Type 0 where
  pub timed : HasSeconds profile (take (time_length profile) octets) (seconds_since profile.epoch activity.time)
  pub packet : take (length (activity_packet_of profile activity)) (drop (time_length profile) octets) ≡ activity_packet_of profile activity

-- how many octets it takes
abbrev pub activity_length : Profile → FlightActivity → ℕ
activity_length profile activity = time_length profile + length (activity_packet_of profile activity)

-- octets begin with these activities, one after the other, and these are left
abbrev pub HasActivities : Profile → List ℕ → List FlightActivity → List ℕ → Type 0
HasActivities profile octets [] left = left ≡ octets
HasActivities profile octets (activity ∷ others) left =
    BeginsWith profile octets activity × HasActivities profile (drop (activity_length profile activity) octets) others left

-- octets are the application data of what a request asks for, with any fractions
abbrev pub HasData : Profile → List ℕ → FlightTask → Type 0
HasData profile octets (tasks.Plain plain) = octets ≡ plain_data_of plain
HasData profile octets (tasks.InsertActivities activities) =
    (take 1 octets ≡ length activities ∷ []) × HasActivities profile (drop 1 octets) activities []
HasData profile octets (tasks.DeleteActivity target) = octets ≡ target_of profile target
HasData profile octets (tasks.ShiftActivity target offset) =
    HasSeconds profile (take (time_length profile) octets) (complement offset) × (drop (time_length profile) octets ≡ target_of profile target)
HasData profile octets (tasks.ShiftAll offset) = HasSeconds profile octets (complement offset)
HasData profile octets other = octets ≡ []

-- the application data in a packet: between the 11 octets of its headers and the 2 of its check
abbrev pub data_in : List ℕ → List ℕ
data_in octets = take (length octets - 13) (drop 11 octets)

-- The octets are this request's packet, with any fractions.
pub record IsTelecommand (profile : Profile) (octets : List ℕ) (flight : Flight) : Type 0 where
  pub fit : Fits profile flight
  pub application : HasData profile (data_in octets) flight.task
  pub whole : octets ≡ packet_of profile flight.identity flight.ack (service_of flight.task) (subtype_of flight.task) (data_in octets)

-- ---- what a reader looks at

-- at least 13 octets, and as many as the packet data length says
pub record IsLong (octets : List ℕ) : Type 0 where
  pub least : 13 ≤ length octets
  pub told : whole_length_in octets ≡ length octets

-- the last two octets are the CRC-16 of those before them
abbrev pub IsChecked : List ℕ → Type 0
IsChecked octets = pair_at octets (length octets - 2) ≡ crc_of (take (length octets - 2) octets)

-- version 000, type 1 and a secondary header, an APID below 2047, sequence flags 11; PUS version 2, and our source
pub record HasHeader (profile : Profile) (octets : List ℕ) : Type 0 where
  pub request : pair_at octets 0 / 2 ^ 11 ≡ 3
  pub apid : pair_at octets 0 % 2 ^ 11 ≢ 2047
  pub unsegmented : pair_at octets 2 / 2 ^ 14 ≡ 3
  pub pus : slice_index octets 6 / 2 ^ 4 ≡ 2
  pub source : pair_at octets 9 ≡ profile.source

abbrev pub service_in : List ℕ → ℕ
service_in octets = slice_index octets 7

abbrev pub subtype_in : List ℕ → ℕ
subtype_in octets = slice_index octets 8

-- the subtypes of the schedule's service that fly
abbrev pub is_schedule_subtype : ℕ → Bool
is_schedule_subtype subtype = list_any (λ known. known == subtype) (1 ∷ 2 ∷ 3 ∷ 4 ∷ 5 ∷ 7 ∷ 15 ∷ 17 ∷ [])

-- a service and a subtype of this link
pub record HasType (octets : List ℕ) : Type 0 where
  pub service : service_in octets ≢ 0
  pub subtype : subtype_in octets ≢ 0
  pub scheduled : service_in octets ≡ schedule → IsTrue (is_schedule_subtype (subtype_in octets))

-- headers that nothing is said against
pub record Passes (profile : Profile) (octets : List ℕ) : Type 0 where
  pub long : IsLong octets
  pub right : IsChecked octets
  pub header : HasHeader profile octets
  pub kind : HasType octets

-- What the headers are refused for: the first that applies of length, check, header and subtype.
abbrev pub HeadersSay : Profile → List ℕ → Option PacketFault → Type 0
HeadersSay profile octets None = Passes profile octets
HeadersSay profile octets (Some faults.Length) = ¬ IsLong octets
HeadersSay profile octets (Some faults.Check) = IsLong octets × ¬ IsChecked octets
HeadersSay profile octets (Some faults.Header) = IsLong octets × IsChecked octets × ¬ HasHeader profile octets
HeadersSay profile octets (Some faults.Subtype) = IsLong octets × IsChecked octets × HasHeader profile octets × ¬ HasType octets
HeadersSay profile octets (Some faults.Data) = ⊥

-- What the application data of this service and subtype are read as: what a request asks for, or that there is nothing of the kind.
abbrev pub ReadsTask : Profile → ℕ → ℕ → List ℕ → Option FlightTask → Type 0
ReadsTask profile service subtype octets (Some task) =
    FitsTask profile task × (service_of task ≡ service) × (subtype_of task ≡ subtype) × HasData profile octets task
ReadsTask profile service subtype octets None =
    (task : FlightTask) → FitsTask profile task → service_of task ≡ service → subtype_of task ≡ subtype → ¬ HasData profile octets task

-- What a reader says of octets: the request, where they are just its packet; else the first fault that applies.
abbrev pub Reads : Profile → List ℕ → Result Flight PacketFault → Type 0
Reads profile octets (Ok flight) = IsTelecommand profile octets flight
Reads profile octets (Err faults.Data) = Passes profile octets × ((flight : Flight) → ¬ IsTelecommand profile octets flight)
Reads profile octets (Err fault) = HeadersSay profile octets (Some fault)

-- ---- parts of application data

abbrev pub ReadsTarget : Profile → List ℕ → Option Identity → Type 0
ReadsTarget profile octets (Some target) = Flies target × (octets ≡ target_of profile target)
ReadsTarget profile octets None = (target : Identity) → Flies target → ¬ (octets ≡ target_of profile target)

-- the data of a plain request, and its outcome
abbrev pub ReadsParts : Bool → List ℕ → Option (List ℕ × Option Outcome) → Type 0
ReadsParts rehearsal octets (Some (application, outcome)) =
    (length application ≤ most_data) × FitsOutcome rehearsal outcome × (octets ≡ application ++ outcome_part outcome)
ReadsParts rehearsal octets None =
    (application : List ℕ) (outcome : Option Outcome) → length application ≤ most_data → FitsOutcome rehearsal outcome
    → ¬ (octets ≡ application ++ outcome_part outcome)

abbrev pub ReadsPlain : Profile → ℕ → ℕ → List ℕ → Option Plain → Type 0
ReadsPlain profile service subtype octets (Some plain) =
    FitsPlain profile plain × (plain.service ≡ service) × (plain.subtype ≡ subtype) × (octets ≡ plain_data_of plain)
ReadsPlain profile service subtype octets None =
    (plain : Plain) → FitsPlain profile plain → plain.service ≡ service → plain.subtype ≡ subtype → ¬ (octets ≡ plain_data_of plain)

-- the plain request whose packet octets are
abbrev pub ReadsRequest : Profile → List ℕ → Option (Identity × Ack × Plain) → Type 0
ReadsRequest profile octets (Some (identity, ack, plain)) =
    Flies identity × FitsPlain profile plain × (octets ≡ packet_of profile identity ack plain.service plain.subtype (plain_data_of plain))
ReadsRequest profile octets None =
    (identity : Identity) (ack : Ack) (plain : Plain) → Flies identity → FitsPlain profile plain
    → ¬ (octets ≡ packet_of profile identity ack plain.service plain.subtype (plain_data_of plain))

-- the packet after a time at the front of octets, by its own length
pub record BeginsWithPacket (profile : Profile) (octets packet : List ℕ) : Type 0 where
  pub there : packet ≡ take (whole_length_in (drop (time_length profile) octets)) (drop (time_length profile) octets)
  pub inside : time_length profile + whole_length_in (drop (time_length profile) octets) ≤ length octets

-- no time and packet of an activity
abbrev pub BeginsWithNone : Profile → List ℕ → Type 0
BeginsWithNone profile octets = (activity : FlightActivity) → ¬ BeginsWith profile octets activity

-- the activity that octets begin with, and how many it takes
pub record FoundActivity (profile : Profile) (octets : List ℕ) (activity : FlightActivity) (taken : ℕ) : Type 0 where
  pub fit : FitsActivity profile activity
  pub there : BeginsWith profile octets activity
  pub size : taken ≡ activity_length profile activity
  pub inside : taken ≤ length octets

-- Less than a whole activity stands at the front, or something else does.
abbrev pub ReadsActivity : Profile → List ℕ → Option (FlightActivity × ℕ) → Type 0
ReadsActivity profile octets (Some (activity, taken)) = FoundActivity profile octets activity taken
ReadsActivity profile octets None = (activity : FlightActivity) → FitsActivity profile activity → ¬ BeginsWith profile octets activity

abbrev pub ReadsActivities : Profile → ℕ → List ℕ → Option (List FlightActivity) → Type 0
ReadsActivities profile number octets (Some activities) =
    AllByRecursion (FitsActivity profile) activities × (length activities ≡ number) × HasActivities profile octets activities []
ReadsActivities profile number octets None =
    (activities : List FlightActivity) → AllByRecursion (FitsActivity profile) activities → length activities ≡ number
    → ¬ HasActivities profile octets activities []

-- neither of the subtypes that have application data
abbrev pub IsBare : ℕ → Type 0
IsBare subtype = (subtype ≢ 4) × (subtype ≢ 5) × (subtype ≢ 7) × (subtype ≢ 15)

-- ---- refused packets

-- the code of a fault in the report of a rehearsal spacecraft
abbrev pub rejection_code : PacketFault → ℕ
rejection_code faults.Length = 8
rejection_code faults.Check = 9
rejection_code faults.Header = 10
rejection_code faults.Subtype = 11
rejection_code faults.Data = 12

-- The request that a rehearsal spacecraft reports on, which refused these octets: the one whose request id they begin with.
abbrev pub Names : List ℕ → Option Identity → Type 0
Names octets (Some identity) = Flies identity × (take 4 octets ≡ request_id_of identity)
Names octets None = (identity : Identity) → Flies identity → ¬ (take 4 octets ≡ request_id_of identity)

abbrev pub Rejects : List ℕ → PacketFault → Option (Identity × ℕ) → Type 0
Rejects octets fault (Some (identity, code)) = Names octets (Some identity) × (code ≡ rejection_code fault)
Rejects octets fault None = Names octets None
