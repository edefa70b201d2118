-- How many octets the packets of requests have.
use Rattle.std.proofs.Common.{◌≡◌, ℕ, ◌*◌, ◌≤◌, Bool, true, false, List, [], ◌∷◌, ◌++◌, length, Some, None, refl, ap, arith}
use Rattle.std.specs.Prelude.{Option, flat_map}
use Rattle.std.specs.List.{AllByRecursion}
use Rattle.std.proofs.lemmas.List.{length-append}
use Rattle.tc_types.specs.declared.requests.Outcome.{Outcome}
use Rattle.tc_types.specs.declared.requests.Outcome.TheVariants as outcomes
use Rattle.tc_octets.specs.declared.profiles.Profile.{Profile}
use Rattle.tc_packets.specs.OctetFields.{quad}
use Rattle.tc_packets.specs.Times.{complement, fraction, fraction_length, offset_of, seconds_since, time_of}
use Rattle.tc_packets.specs.Outcomes.{outcome_octets_of}
use Rattle.tc_packets.specs.Flights.{Fits, FitsActivity, FitsPlain, FitsTask}
use Rattle.tc_packets.specs.Telecommands.{activity_of, activity_packet_of, data_of, outcome_part, plain_data_of, service_of, subtype_of, target_of}
use Rattle.tc_packets.specs.Telecommands.{telecommand_of}
use Rattle.tc_packets.specs.declared.flights.Flight.{Flight}
use Rattle.tc_packets.specs.declared.flights.Plain.{Plain}
use Rattle.tc_packets.specs.declared.flights.FlightActivity.{FlightActivity}
use Rattle.tc_packets.specs.declared.flights.FlightTask.{FlightTask}
use Rattle.tc_packets.specs.declared.flights.FlightTask.TheVariants as tasks
use Rattle.tc_packets.proofs.PacketLemmas.{packet_length}

pub outcome_three : (outcome : Outcome) → length (outcome_octets_of outcome) ≡ 3
outcome_three outcomes.Completes = refl
outcome_three (outcomes.CompletesInSteps steps) = refl
outcome_three (outcomes.Refuses code) = refl
outcome_three (outcomes.StartFails code) = refl
outcome_three (outcomes.Halts steps code) = refl
outcome_three (outcomes.Fails code) = refl

outcome_small : (outcome : Option Outcome) → length (outcome_part outcome) ≤ 3
outcome_small None = omega arith
outcome_small (Some outcome) = omega (arith, outcome_three outcome)

pub fraction_is : (fine : Bool) → length (fraction fine) ≡ fraction_length fine
fraction_is true = refl
fraction_is false = refl

fraction_small : (fine : Bool) → length (fraction fine) ≤ 2
fraction_small true = omega arith
fraction_small false = omega arith

-- a plain request has 99 octets of application data at most, with its outcome
pub plain_small : (profile : Profile) (plain : Plain) → FitsPlain profile plain → length (plain_data_of plain) ≤ 99
plain_small profile plain h =
    let few = h.few in
    omega (arith, length-append plain.application (outcome_part plain.outcome), outcome_small plain.outcome)

quad_small : (fine : Bool) (n : ℕ) → length (quad n ++ fraction fine) ≤ 6
quad_small fine n = omega (arith, length-append (quad n) (fraction fine), fraction_small fine)

activity_small : (profile : Profile) (activity : FlightActivity) → FitsActivity profile activity → length (activity_of profile activity) ≤ 118
activity_small profile activity h =
    omega (
      arith,
      length-append (time_of profile activity.time) (activity_packet_of profile activity),
      quad_small profile.fine (seconds_since profile.epoch activity.time),
      packet_length profile activity.identity activity.ack activity.plain.service activity.plain.subtype (plain_data_of activity.plain),
      plain_small profile activity.plain h.asked,
    )

activities_small : (profile : Profile) (activities : List FlightActivity) → AllByRecursion (FitsActivity profile) activities
    → length (flat_map (activity_of profile) activities) ≤ 118 * length activities
activities_small profile [] h = omega arith
activities_small profile (activity ∷ others) h =
    omega (
      arith,
      length-append (activity_of profile activity) (flat_map (activity_of profile) others),
      activity_small profile activity h.0,
      activities_small profile others h.1,
    )

pub data_small : (profile : Profile) (task : FlightTask) → FitsTask profile task → length (data_of profile task) ≤ 945
data_small profile (tasks.Plain plain) h = omega (arith, plain_small profile plain h)
data_small profile tasks.EnableSchedule h = omega arith
data_small profile tasks.DisableSchedule h = omega arith
data_small profile tasks.ResetSchedule h = omega arith
data_small profile (tasks.InsertActivities activities) h =
    let few : length activities ≤ 8 = h.0.few in
    omega (arith, activities_small profile activities h.1)
data_small profile (tasks.DeleteActivity target) h = omega arith
data_small profile (tasks.ShiftActivity target offset) h =
    omega (arith, length-append (offset_of profile offset) (target_of profile target), quad_small profile.fine (complement offset))
data_small profile (tasks.ShiftAll offset) h = omega (arith, quad_small profile.fine (complement offset))
data_small profile tasks.SummarizeAll h = omega arith

pub telecommands_short : (profile : Profile) (flight : Flight) → Fits profile flight → length (telecommand_of profile flight) ≤ 958
telecommands_short profile flight h =
    omega (
      arith,
      packet_length profile flight.identity flight.ack (service_of flight.task) (subtype_of flight.task) (data_of profile flight.task),
      data_small profile flight.task h.asked,
    )

pub telecommand_short : (profile : Profile) (flight : Flight) (octets : List ℕ) → Fits profile flight → octets ≡ telecommand_of profile flight
    → length octets ≤ 958
telecommand_short profile flight octets h e = omega (arith, ap (λ (l : List ℕ). length l) e, telecommands_short profile flight h)
