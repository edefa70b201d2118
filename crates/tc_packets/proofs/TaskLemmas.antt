-- What the application data of a telecommand are read as.
use Rattle.std.proofs.Common.{◌≡◌, ℕ, ◌-◌, ◌/◌, ◌%◌, ◌<◌, ◌≤◌, Bool, true, false, List, [], ◌∷◌, ◌++◌, take, drop, length, get_or, Some, None, Err}
use Rattle.std.proofs.Common.{sym, ap, ◌∙◌, subst, arith}
use Rattle.std.specs.Prelude.{◌≢◌, Option}
use Rattle.std.specs.List.{AllByRecursion}
use Rattle.std.proofs.lemmas.List.{take_at, drop_at, take-append-drop, length-append, length-take}
use Rattle.tc_types.specs.Inserts.{IsInsert}
use Rattle.tc_types.specs.Numbers.{IsService, IsSubtype}
use Rattle.tc_types.specs.Grammar.{IsOutcome}
use Rattle.tc_types.specs.declared.requests.Ack.{Ack}
use Rattle.tc_types.specs.declared.requests.Identity.{Identity}
use Rattle.tc_types.specs.declared.requests.Outcome.{Outcome}
use Rattle.tc_octets.specs.declared.profiles.Profile.{Profile}
use Rattle.tc_octets.proofs.TcFrameLemmas.{AreOctets}
use Rattle.tc_packets.specs.Identities.{Flies, ReadsName, name_of}
use Rattle.tc_packets.specs.declared.identities.ActivityName.{ActivityName}
use Rattle.tc_packets.specs.Times.{time_length}
use Rattle.tc_packets.specs.Outcomes.{outcome_octets_of}
use Rattle.tc_packets.specs.ApplicationData.{most_data}
use Rattle.tc_packets.specs.Flights.{FitsActivity}
use Rattle.tc_packets.specs.Telecommands.{packet_of, service_of, target_of}
use Rattle.tc_packets.specs.TelecommandReaders.{HasActivities, HeadersSay, IsBare, IsTelecommand, Passes, Reads, ReadsParts, ReadsPlain, ReadsTarget}
use Rattle.tc_packets.specs.TelecommandReaders.{ReadsTask, data_in, service_in, subtype_in}
use Rattle.tc_packets.specs.declared.flights.FlightActivity.{FlightActivity}
use Rattle.tc_packets.specs.declared.flights.FlightTask.{FlightTask}
use Rattle.tc_packets.specs.declared.flights.FlightTask.TheVariants as tasks
use Rattle.tc_packets.specs.declared.telecommand_readers.PacketFault.{PacketFault}
use Rattle.tc_packets.specs.declared.telecommand_readers.PacketFault.TheVariants as faults
use Rattle.tc_packets.proofs.PacketLemmas.{Heads, packet_again}
use Rattle.tc_packets.proofs.SizeLemmas.{outcome_three}
use Rattle.tc_packets.proofs.SameLemmas.{flight_parts}

-- ---- whole packets

pub header_err : (profile : Profile) (octets : List ℕ) (fault : PacketFault) → HeadersSay profile octets (Some fault)
    → Reads profile octets (Err fault)
header_err profile octets faults.Length h = h
header_err profile octets faults.Check h = h
header_err profile octets faults.Header h = h
header_err profile octets faults.Subtype h = h
header_err profile octets faults.Data h = absurd h

pub heads_fly : (profile : Profile) (octets : List ℕ) (identity : Identity) (ack : Ack) → Passes profile octets → Heads octets identity ack
    → Flies identity
heads_fly profile octets identity ack passes heads =
    let apid = heads.apid in
    let count = heads.count in
    let not_idle = passes.header.apid in
    record { apid = omega arith; count = omega arith }

pub read_ok : (profile : Profile) (octets : List ℕ) (identity : Identity) (ack : Ack) (task : FlightTask) → AreOctets octets → Passes profile octets
    → Heads octets identity ack → ReadsTask profile (service_in octets) (subtype_in octets) (data_in octets) (Some task)
    → IsTelecommand profile octets (record { identity = identity; ack = ack; task = task })
read_ok profile octets identity ack task small passes heads says = record {
  fit = record { flying = heads_fly profile octets identity ack passes heads; asked = says.0 };
  application = says.3;
  whole =
      packet_again profile octets identity ack small passes heads
      ∙ ap (λ n. packet_of profile identity ack n (subtype_in octets) (data_in octets)) (sym says.1)
      ∙ ap (λ n. packet_of profile identity ack (service_of task) n (data_in octets)) (sym says.2);
}

pub read_err : (profile : Profile) (octets : List ℕ) → Passes profile octets
    → ReadsTask profile (service_in octets) (subtype_in octets) (data_in octets) None
    → Reads profile octets (Err faults.Data)
read_err profile octets passes none = (
  passes,
  λ flight is.
      let parts = flight_parts profile octets flight is in
      none flight.task is.fit.asked (sym parts.serves) (sym parts.kind) is.application,
)

-- ---- plain requests

pub no_service : (profile : Profile) (service subtype : ℕ) (octets : List ℕ) → ¬ IsService service → ReadsPlain profile service subtype octets None
no_service profile service subtype octets none plain fit s t e = none (subst IsService s fit.service_known)

pub no_subtype : (profile : Profile) (service subtype : ℕ) (octets : List ℕ) → ¬ IsSubtype subtype → ReadsPlain profile service subtype octets None
no_subtype profile service subtype octets none plain fit s t e = none (subst IsSubtype t fit.subtype_known)

pub no_parts : (profile : Profile) (service subtype : ℕ) (octets : List ℕ) → ReadsParts profile.rehearsal octets None
    → ReadsPlain profile service subtype octets None
no_parts profile service subtype octets none plain fit s t e = none plain.application plain.outcome fit.few fit.rehearsed e

-- data for a real spacecraft are all of the octets
pub real_none : (octets : List ℕ) → ¬ (length octets ≤ most_data) → ReadsParts false octets None
real_none octets many application None few fits e = many (omega (arith, length-append application [], ap length e))
real_none octets many application (Some outcome) few fits e = absurd fits

-- the octets before an outcome, and those of the outcome
three_last : (octets application three : List ℕ) → length three ≡ 3 → octets ≡ application ++ three
    → (take (length octets - 3) octets ≡ application) × (drop (length octets - 3) octets ≡ three)
three_last octets application three size e =
    let end : length application ≡ length octets - 3 = omega (arith, length-append application three, ap length e) in (
      ap (take (length octets - 3)) e ∙ take_at application three (length octets - 3) end,
      ap (drop (length octets - 3)) e ∙ drop_at application three (length octets - 3) end,
    )

pub rehearsal_short : (octets : List ℕ) → length octets < 3 → ReadsParts true octets None
rehearsal_short octets short application None few fits e = absurd fits
rehearsal_short octets short application (Some outcome) few fits e =
    absurd (omega (arith, length-append application (outcome_octets_of outcome), outcome_three outcome, ap length e))

pub rehearsal_long : (octets : List ℕ) → ¬ (length (take (length octets - 3) octets) ≤ most_data) → ReadsParts true octets None
rehearsal_long octets many application None few fits e = absurd fits
rehearsal_long octets many application (Some outcome) few fits e =
    let last = three_last octets application (outcome_octets_of outcome) (outcome_three outcome) e in
    many (subst (λ (l : List ℕ). length l ≤ most_data) (sym last.0) few)

pub rehearsal_none : (octets : List ℕ) → ((outcome : Outcome) → IsOutcome outcome → ¬ (drop (length octets - 3) octets ≡ outcome_octets_of outcome))
    → ReadsParts true octets None
rehearsal_none octets none application None few fits e = absurd fits
rehearsal_none octets none application (Some outcome) few fits e =
    let last = three_last octets application (outcome_octets_of outcome) (outcome_three outcome) e in
    none outcome fits last.1

pub rehearsal_some : (octets : List ℕ) (outcome : Outcome) → drop (length octets - 3) octets ≡ outcome_octets_of outcome
    → octets ≡ take (length octets - 3) octets ++ outcome_octets_of outcome
rehearsal_some octets outcome e = sym (take-append-drop (length octets - 3) octets) ∙ ap (λ l. take (length octets - 3) octets ++ l) e

pub parts_chosen : (rehearsal chosen : Bool) (octets : List ℕ) (read : Option (List ℕ × Option Outcome)) → rehearsal ≡ chosen
    → ReadsParts chosen octets read → ReadsParts rehearsal octets read
parts_chosen rehearsal chosen octets read e says = subst (λ (b : Bool). ReadsParts b octets read) (sym e) says

-- ---- commands of the schedule

pub plain_none : (profile : Profile) (service subtype : ℕ) (octets : List ℕ) → service ≢ 11 → ReadsPlain profile service subtype octets None
    → ReadsTask profile service subtype octets None
plain_none profile service subtype octets other none (tasks.Plain plain) fit s t has = none plain fit s t has
plain_none profile service subtype octets other none task fit s t has = absurd (other (sym s))

pub insert_none : (profile : Profile) (octets : List ℕ)
    → ((activities : List FlightActivity) → IsInsert activities → AllByRecursion (FitsActivity profile) activities
    → take 1 octets ≡ length activities ∷ [] → HasActivities profile (drop 1 octets) activities [] → ⊥)
    → ReadsTask profile 11 4 octets None
insert_none profile octets none (tasks.InsertActivities activities) fit s t has = none activities fit.0 fit.1 has.0 has.1
insert_none profile octets none (tasks.Plain plain) fit s t has = absurd (fit.service_known.2 s)
insert_none profile octets none other fit s t has = absurd (omega (arith, t))

pub delete_none : (profile : Profile) (octets : List ℕ) → ((target : Identity) → Flies target → ¬ (octets ≡ target_of profile target))
    → ReadsTask profile 11 5 octets None
delete_none profile octets none (tasks.DeleteActivity target) fit s t has = none target fit has
delete_none profile octets none (tasks.Plain plain) fit s t has = absurd (fit.service_known.2 s)
delete_none profile octets none other fit s t has = absurd (omega (arith, t))

-- no name stands after the count
pub target_unnamed : (profile : Profile) (octets : List ℕ) → ReadsName (drop 1 octets) None → ReadsTarget profile octets None
target_unnamed profile octets none target flies e = none (record { source = profile.source; identity = target }) flies (ap (drop 1) e)

-- the name of another source
pub target_other : (profile : Profile) (octets : List ℕ) (name : ActivityName) → drop 1 octets ≡ name_of name → name.source ≢ profile.source
    → ReadsTarget profile octets None
target_other profile octets name is other target flies e =
    let same : name_of name ≡ name_of (record { source = profile.source; identity = target }) = sym is ∙ ap (drop 1) e in
    let high : name.source / 256 ≡ profile.source / 256 = ap (λ (l : List ℕ). get_or l 0 0) same in
    let low : name.source % 256 ≡ profile.source % 256 = ap (λ (l : List ℕ). get_or l 1 0) same in
    other (omega arith)

pub shift_none : (profile : Profile) (octets : List ℕ)
    → ((target : Identity) → Flies target → ¬ (drop (time_length profile) octets ≡ target_of profile target)) → ReadsTask profile 11 7 octets None
shift_none profile octets none (tasks.ShiftActivity target offset) fit s t has = none target fit.0 has.1
shift_none profile octets none (tasks.Plain plain) fit s t has = absurd (fit.service_known.2 s)
shift_none profile octets none other fit s t has = absurd (omega (arith, t))

pub shift_short : (profile : Profile) (octets : List ℕ) → length octets < time_length profile → ReadsTask profile 11 7 octets None
shift_short profile octets short (tasks.ShiftActivity target offset) fit s t has =
    let size = has.0.size in absurd (omega (arith, length-take (time_length profile) octets))
shift_short profile octets short (tasks.Plain plain) fit s t has = absurd (fit.service_known.2 s)
shift_short profile octets short other fit s t has = absurd (omega (arith, t))

pub shift_all_none : (profile : Profile) (octets : List ℕ) → length octets ≢ time_length profile → ReadsTask profile 11 15 octets None
shift_all_none profile octets other_size (tasks.ShiftAll offset) fit s t has = other_size has.size
shift_all_none profile octets other_size (tasks.Plain plain) fit s t has = absurd (fit.service_known.2 s)
shift_all_none profile octets other_size other fit s t has = absurd (omega (arith, t))

pub bare_more : (profile : Profile) (subtype : ℕ) (octets : List ℕ) → IsBare subtype → octets ≢ [] → ReadsTask profile 11 subtype octets None
bare_more profile subtype octets bare more (tasks.Plain plain) fit s t has = absurd (fit.service_known.2 s)
bare_more profile subtype octets bare more (tasks.InsertActivities activities) fit s t has = absurd (bare.0 (sym t))
bare_more profile subtype octets bare more (tasks.DeleteActivity target) fit s t has = absurd (bare.1 (sym t))
bare_more profile subtype octets bare more (tasks.ShiftActivity target offset) fit s t has = absurd (bare.2 (sym t))
bare_more profile subtype octets bare more (tasks.ShiftAll offset) fit s t has = absurd (bare.3 (sym t))
bare_more profile subtype octets bare more other fit s t has = more has

pub bare_other : (profile : Profile) (subtype : ℕ) (octets : List ℕ) → IsBare subtype → subtype ≢ 1 → subtype ≢ 2 → subtype ≢ 3 → subtype ≢ 17
    → ReadsTask profile 11 subtype octets None
bare_other profile subtype octets bare h k m n (tasks.Plain plain) fit s t has = absurd (fit.service_known.2 s)
bare_other profile subtype octets bare h k m n tasks.EnableSchedule fit s t has = h (sym t)
bare_other profile subtype octets bare h k m n tasks.DisableSchedule fit s t has = k (sym t)
bare_other profile subtype octets bare h k m n tasks.ResetSchedule fit s t has = m (sym t)
bare_other profile subtype octets bare h k m n (tasks.InsertActivities activities) fit s t has = bare.0 (sym t)
bare_other profile subtype octets bare h k m n (tasks.DeleteActivity target) fit s t has = bare.1 (sym t)
bare_other profile subtype octets bare h k m n (tasks.ShiftActivity target offset) fit s t has = bare.2 (sym t)
bare_other profile subtype octets bare h k m n (tasks.ShiftAll offset) fit s t has = bare.3 (sym t)
bare_other profile subtype octets bare h k m n tasks.SummarizeAll fit s t has = n (sym t)
