-- What is written for a request is read as that request.
use Rattle.std.proofs.Common.{◌≡◌, ℕ, ◌+◌, ◌≤◌, false, List, [], ◌∷◌, ◌++◌, take, drop, length, Ok, Err, refl, sym, ap, ◌∙◌, subst, arith}
use Rattle.std.specs.Prelude.{◌≢◌, IfOk, IsErr, IsTrue, Result, flat_map}
use Rattle.std.proofs.lemmas.List.{take_at, take_all, drop_at, drop-drop, take-append-drop, length-append, append_assoc}
use Rattle.tc_octets.specs.CrcLaws.{IsDamaged}
use Rattle.tc_octets.specs.declared.profiles.Profile.{Profile}
use Rattle.tc_octets.proofs.CrcWholeLemmas.{damage_shows}
use Rattle.tc_packets.specs.OctetFields.{quad}
use Rattle.tc_packets.specs.Times.{HasSeconds, complement, fraction, fraction_length, offset_of, seconds_since, time_length, time_of}
use Rattle.tc_packets.specs.Flights.{Fits, FitsTask}
use Rattle.tc_packets.specs.Telecommands.{activity_of, activity_packet_of, data_of, packet_of, schedule, service_of, subtype_of, target_of}
use Rattle.tc_packets.specs.Identities.{request_header}
use Rattle.tc_packets.specs.SpacePackets.{header_of}
use Rattle.tc_packets.specs.Telecommands.{secondary_header_of, telecommand_of}
use Rattle.tc_packets.specs.TelecommandReaders.{BeginsWith, HasActivities, HasData, IsTelecommand, Passes, Reads, activity_length, data_in}
use Rattle.tc_packets.specs.TelecommandReaders.{is_schedule_subtype}
use Rattle.tc_packets.specs.TelecommandLaws.{ReadsBack}
use Rattle.tc_packets.specs.declared.flights.FlightActivity.{FlightActivity}
use Rattle.tc_packets.specs.declared.flights.FlightTask.{FlightTask}
use Rattle.tc_packets.specs.declared.flights.FlightTask.TheVariants as tasks
use Rattle.tc_packets.specs.declared.flights.Flight.{Flight}
use Rattle.tc_packets.specs.declared.telecommand_readers.PacketFault.{PacketFault}
use Rattle.tc_packets.specs.declared.telecommand_readers.PacketFault.TheVariants as faults
use Rattle.tc_packets.proofs.PacketLemmas.{parts_there, passes_there}
use Rattle.tc_packets.proofs.SizeLemmas.{fraction_is}
use Rattle.tc_packets.proofs.SameLemmas.{flight_parts, flight_same}

-- ---- what is written stands there

time_size : (profile : Profile) (n : ℕ) → length (quad n ++ fraction profile.fine) ≡ time_length profile
time_size profile n = omega (arith, length-append (quad n) (fraction profile.fine), fraction_is profile.fine)

seconds_there : (profile : Profile) (n : ℕ) → HasSeconds profile (quad n ++ fraction profile.fine) n
seconds_there profile n = record { size = time_size profile n; whole = refl }

-- seconds before others
seconds_first : (profile : Profile) (n : ℕ) (others : List ℕ)
    → HasSeconds profile (take (time_length profile) ((quad n ++ fraction profile.fine) ++ others)) n
seconds_first profile n others =
    subst (λ (l : List ℕ). HasSeconds profile l n) (sym
    (take_at (quad n ++ fraction profile.fine) others (time_length profile) (time_size profile n)))
    (seconds_there profile n)

begins_there : (profile : Profile) (activity : FlightActivity) (others : List ℕ)
    → BeginsWith profile (activity_of profile activity ++ others) activity
begins_there profile activity others =
    let parted : activity_of profile activity ++ others ≡ time_of profile activity.time ++ (activity_packet_of profile activity ++ others) =
    append_assoc (time_of profile activity.time) (activity_packet_of profile activity) others in
    record {
      timed =
          subst (λ (l : List ℕ). HasSeconds profile (take (time_length profile) l) (seconds_since profile.epoch activity.time)) (sym parted)
          (seconds_first profile (seconds_since profile.epoch activity.time) (activity_packet_of profile activity ++ others));
      packet =
          ap (λ l. take (length (activity_packet_of profile activity)) (drop (time_length profile) l)) parted
          ∙ ap (λ l. take (length (activity_packet_of profile activity)) l)
          (drop_at (time_of profile activity.time) (activity_packet_of profile activity ++ others) (time_length profile)
          (time_size profile (seconds_since profile.epoch activity.time)))
          ∙ take_at (activity_packet_of profile activity) others (length (activity_packet_of profile activity)) refl;
    }

activity_size : (profile : Profile) (activity : FlightActivity) → length (activity_of profile activity) ≡ activity_length profile activity
activity_size profile activity =
    length-append (time_of profile activity.time) (activity_packet_of profile activity)
    ∙ ap (λ n. n + length (activity_packet_of profile activity)) (time_size profile (seconds_since profile.epoch activity.time))

activities_there : (profile : Profile) (activities : List FlightActivity)
    → HasActivities profile (flat_map (activity_of profile) activities) activities []
activities_there profile [] = refl
activities_there profile (activity ∷ others) = (
  begins_there profile activity (flat_map (activity_of profile) others),
  subst (λ (l : List ℕ). HasActivities profile l others [])
      (sym (drop_at (activity_of profile activity) (flat_map (activity_of profile) others) (activity_length profile activity)
      (activity_size profile activity)))
      (activities_there profile others),
)

data_there : (profile : Profile) (task : FlightTask) → HasData profile (data_of profile task) task
data_there profile (tasks.Plain plain) = refl
data_there profile tasks.EnableSchedule = refl
data_there profile tasks.DisableSchedule = refl
data_there profile tasks.ResetSchedule = refl
data_there profile (tasks.InsertActivities activities) = (refl, activities_there profile activities)
data_there profile (tasks.DeleteActivity target) = refl
data_there profile (tasks.ShiftActivity target offset) = (
  seconds_first profile (complement offset) (target_of profile target),
  drop_at (offset_of profile offset) (target_of profile target) (time_length profile) (time_size profile (complement offset)),
)
data_there profile (tasks.ShiftAll offset) = seconds_there profile (complement offset)
data_there profile tasks.SummarizeAll = refl

pub telecommand_there : (profile : Profile) (flight : Flight) → Fits profile flight → IsTelecommand profile (telecommand_of profile flight) flight
telecommand_there profile flight fit =
    let parts = parts_there profile flight.identity flight.ack (service_of flight.task) (subtype_of flight.task) (data_of profile flight.task) in
    record {
      fit = fit;
      application = subst (λ (l : List ℕ). HasData profile l flight.task) (sym parts.carries) (data_there profile flight.task);
      whole = ap (packet_of profile flight.identity flight.ack (service_of flight.task) (subtype_of flight.task)) (sym parts.carries);
    }

-- ---- a reader says nothing against it

-- a service and a subtype of the link
record IsKnown (service subtype : ℕ) : Type 0 where
  pub service_some : service ≢ 0
  pub subtype_some : subtype ≢ 0
  pub scheduled : service ≡ schedule → IsTrue (is_schedule_subtype subtype)

of_schedule : (subtype : ℕ) → subtype ≢ 0 → IsTrue (is_schedule_subtype subtype) → IsKnown schedule subtype
of_schedule subtype some known = record { service_some = λ e. absurd (omega (arith, e)); subtype_some = some; scheduled = λ e. known }

some_is : (n : ℕ) → 1 ≤ n → n ≢ 0
some_is n h e = absurd (omega arith)

task_known : (profile : Profile) (task : FlightTask) → FitsTask profile task → IsKnown (service_of task) (subtype_of task)
task_known profile (tasks.Plain plain) fit = record {
  service_some = some_is plain.service fit.service_known.0;
  subtype_some = some_is plain.subtype fit.subtype_known.0;
  scheduled = λ e. absurd (fit.service_known.2 e);
}
task_known profile tasks.EnableSchedule fit = of_schedule 1 (some_is 1 (omega arith)) refl
task_known profile tasks.DisableSchedule fit = of_schedule 2 (some_is 2 (omega arith)) refl
task_known profile tasks.ResetSchedule fit = of_schedule 3 (some_is 3 (omega arith)) refl
task_known profile (tasks.InsertActivities activities) fit = of_schedule 4 (some_is 4 (omega arith)) refl
task_known profile (tasks.DeleteActivity target) fit = of_schedule 5 (some_is 5 (omega arith)) refl
task_known profile (tasks.ShiftActivity target offset) fit = of_schedule 7 (some_is 7 (omega arith)) refl
task_known profile (tasks.ShiftAll offset) fit = of_schedule 15 (some_is 15 (omega arith)) refl
task_known profile tasks.SummarizeAll fit = of_schedule 17 (some_is 17 (omega arith)) refl

pub flight_passes : (profile : Profile) (octets : List ℕ) (flight : Flight) → IsTelecommand profile octets flight → Passes profile octets
flight_passes profile octets flight is =
    let known = task_known profile flight.task is.fit.asked in
    passes_there profile octets flight.identity flight.ack (service_of flight.task) (subtype_of flight.task) (data_in octets)
    (flight_parts profile octets flight is) is.fit.flying known.service_some known.subtype_some known.scheduled

-- what a reader says of the octets of a request's packet is that request
one_read : (profile : Profile) (octets : List ℕ) (flight : Flight) (read : Result Flight PacketFault) → IsTelecommand profile octets flight
    → Reads profile octets read → read ≡ Ok flight
one_read profile octets flight (Ok other) is says = ap Ok (flight_same profile octets other flight says is)
one_read profile octets flight (Err faults.Length) is says =
    let passes = flight_passes profile octets flight is in absurd (says passes.long)
one_read profile octets flight (Err faults.Check) is says =
    let passes = flight_passes profile octets flight is in absurd (says.1 passes.right)
one_read profile octets flight (Err faults.Header) is says =
    let passes = flight_passes profile octets flight is in absurd (says.2 passes.header)
one_read profile octets flight (Err faults.Subtype) is says =
    let passes = flight_passes profile octets flight is in absurd (says.3 passes.kind)
one_read profile octets flight (Err faults.Data) is says = absurd (says.1 flight is)

pub telecommands_come_back : (profile : Profile) (flight : Flight) (read : Result Flight PacketFault) → Fits profile flight
    → Reads profile (telecommand_of profile flight) read → read ≡ Ok flight
telecommands_come_back profile flight read fit says =
    one_read profile (telecommand_of profile flight) flight read (telecommand_there profile flight fit) says

pub reads_back : (profile : Profile) (octets : List ℕ) (read : Result Flight PacketFault) → Reads profile octets read
    → ReadsBack profile octets read
reads_back profile octets read says = record {
  only = λ flight is. one_read profile octets flight read is says;
  back =
      λ flight fit e. telecommands_come_back profile flight read fit (subst (λ (l : List ℕ). Reads profile l read) e says);
}

-- ---- where times have no fraction, nothing else is read

seconds_written : (profile : Profile) (octets : List ℕ) (n : ℕ) → profile.fine ≡ false → HasSeconds profile octets n
    → octets ≡ quad n ++ fraction profile.fine
seconds_written profile octets n coarse has =
    let size : length octets ≡ 4 = has.size ∙ ap (λ f. 4 + fraction_length f) coarse in
    sym (take_all 4 octets (omega arith)) ∙ has.whole ∙ ap (λ f. quad n ++ fraction f) (sym coarse)

activities_written : (profile : Profile) (octets : List ℕ) (activities : List FlightActivity) → profile.fine ≡ false
    → HasActivities profile octets activities [] → octets ≡ flat_map (activity_of profile) activities
activities_written profile octets [] coarse has = sym has
activities_written profile octets (activity ∷ others) coarse has =
    let time = seconds_written profile (take (time_length profile) octets) (seconds_since profile.epoch activity.time) coarse has.0.timed in
    let behind =
    ap (λ l. l ++ drop (length (activity_packet_of profile activity)) (drop (time_length profile) octets)) has.0.packet
    ∙ ap (λ l. activity_packet_of profile activity ++ l)
    (drop-drop (length (activity_packet_of profile activity)) (time_length profile) octets
    ∙ activities_written profile (drop (activity_length profile activity) octets) others coarse has.1) in
    sym (take-append-drop (time_length profile) octets)
    ∙ ap (λ l. l ++ drop (time_length profile) octets) time
    ∙ ap (λ l. time_of profile activity.time ++ l) (sym
    (take-append-drop (length (activity_packet_of profile activity)) (drop (time_length profile) octets)) ∙ behind)
    ∙ sym (append_assoc (time_of profile activity.time) (activity_packet_of profile activity) (flat_map (activity_of profile) others))

data_written : (profile : Profile) (octets : List ℕ) (task : FlightTask) → profile.fine ≡ false → HasData profile octets task
    → octets ≡ data_of profile task
data_written profile octets (tasks.Plain plain) coarse has = has
data_written profile octets tasks.EnableSchedule coarse has = has
data_written profile octets tasks.DisableSchedule coarse has = has
data_written profile octets tasks.ResetSchedule coarse has = has
data_written profile octets (tasks.InsertActivities activities) coarse has =
    sym (take-append-drop 1 octets) ∙ ap (λ l. l ++ drop 1 octets) has.0
    ∙ ap (λ l. length activities ∷ l) (activities_written profile (drop 1 octets) activities coarse has.1)
data_written profile octets (tasks.DeleteActivity target) coarse has = has
data_written profile octets (tasks.ShiftActivity target offset) coarse has =
    sym (take-append-drop (time_length profile) octets)
    ∙ ap (λ l. l ++ drop (time_length profile) octets) (seconds_written profile (take (time_length profile) octets) (complement offset) coarse has.0)
    ∙ ap (λ l. offset_of profile offset ++ l) has.1
data_written profile octets (tasks.ShiftAll offset) coarse has = seconds_written profile octets (complement offset) coarse has
data_written profile octets tasks.SummarizeAll coarse has = has

nothing_else : (profile : Profile) (octets : List ℕ) (flight : Flight) → profile.fine ≡ false → IsTelecommand profile octets flight
    → octets ≡ telecommand_of profile flight
nothing_else profile octets flight coarse is =
    is.whole
    ∙ ap (packet_of profile flight.identity flight.ack (service_of flight.task) (subtype_of flight.task))
    (data_written profile (data_in octets) flight.task coarse is.application)

pub exactly_read : (profile : Profile) (octets : List ℕ) (read : Result Flight PacketFault) → Reads profile octets read → profile.fine ≡ false
    → IfOk read (λ flight. octets ≡ telecommand_of profile flight)
exactly_read profile octets (Ok flight) says coarse = nothing_else profile octets flight coarse says
exactly_read profile octets (Err fault) says coarse = tt

-- ---- damaged packets are refused

pub damaged_refused : (profile : Profile) (octets : List ℕ) (read : Result Flight PacketFault) → Reads profile octets read → IsDamaged octets
    → IsErr read
damaged_refused profile octets (Ok flight) says bad =
    absurd
    (damage_shows octets
    (header_of (request_header flight.identity) (7 + length (data_in octets))
    ++ secondary_header_of profile flight.ack (service_of flight.task) (subtype_of flight.task)
    ++ data_in octets) bad says.whole)
damaged_refused profile octets (Err fault) says bad = refl
