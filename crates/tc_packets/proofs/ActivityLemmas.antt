-- Activities that octets begin with.
use Rattle.std.proofs.Common.{◌≡◌, ℕ, ◌+◌, ◌<◌, ◌≤◌, List, [], ◌∷◌, ◌++◌, take, drop, set, replicate, length, Some, None, refl, sym, ap, ◌∙◌, subst}
use Rattle.std.proofs.Common.{arith}
use Rattle.std.specs.Prelude.{◌≢◌, ◌↔◌, Option, IsSome, IfSome}
use Rattle.std.specs.List.{AllByRecursion}
use Rattle.std.proofs.lemmas.List.{length-set, length-take, length-drop}
use Rattle.std.proofs.lemmas.Grind.{take-set_at}
use Rattle.tc_types.specs.Inserts.{IsInsert}
use Rattle.tc_types.specs.declared.requests.Ack.{Ack}
use Rattle.tc_types.specs.declared.requests.Identity.{Identity}
use Rattle.tc_octets.specs.declared.profiles.Profile.{Profile}
use Rattle.tc_octets.proofs.TcFrameLemmas.{AreOctets}
use Rattle.tc_packets.specs.SpacePackets.{whole_length_in}
use Rattle.tc_packets.specs.Identities.{Flies}
use Rattle.tc_packets.specs.Times.{IsTime, time_length}
use Rattle.tc_packets.specs.Flights.{FitsActivity, FitsPlain}
use Rattle.tc_packets.specs.Telecommands.{activity_packet_of, packet_of, plain_data_of}
use Rattle.tc_packets.specs.TelecommandReaders.{BeginsWith, BeginsWithNone, BeginsWithPacket, FoundActivity, HasActivities, HeadersSay, Passes}
use Rattle.tc_packets.specs.TelecommandReaders.{ReadsActivities, ReadsActivity, ReadsPlain, ReadsRequest, activity_length, data_in, service_in}
use Rattle.tc_packets.specs.TelecommandReaders.{subtype_in}
use Rattle.tc_packets.specs.declared.flights.Plain.{Plain}
use Rattle.tc_packets.specs.declared.flights.FlightActivity.{FlightActivity}
use Rattle.tc_packets.specs.declared.telecommand_readers.PacketFault.{PacketFault}
use Rattle.tc_packets.specs.declared.telecommand_readers.PacketFault.TheVariants as faults
use Rattle.tc_packets.proofs.PacketLemmas.{Heads, packet_again, packet_length, parts_of_packet, passes_there}
use Rattle.tc_packets.proofs.SameLemmas.{activities_same, activity_same, activity_told}
use Rattle.tc_packets.proofs.TaskLemmas.{heads_fly}

-- ---- the packet of a plain request

heads_against : (profile : Profile) (octets : List ℕ) (fault : PacketFault) → Passes profile octets → HeadersSay profile octets (Some fault) → ⊥
heads_against profile octets faults.Length passes says = says passes.long
heads_against profile octets faults.Check passes says = says.1 passes.right
heads_against profile octets faults.Header passes says = says.2 passes.header
heads_against profile octets faults.Subtype passes says = says.3 passes.kind
heads_against profile octets faults.Data passes says = says

some_is : (n : ℕ) → 1 ≤ n → n ≢ 0
some_is n h e = absurd (omega arith)

request_passes : (profile : Profile) (octets : List ℕ) (identity : Identity) (ack : Ack) (plain : Plain) → Flies identity → FitsPlain profile plain
    → octets ≡ packet_of profile identity ack plain.service plain.subtype (plain_data_of plain) → Passes profile octets
request_passes profile octets identity ack plain flies fit e =
    passes_there profile octets identity ack plain.service plain.subtype (plain_data_of plain)
    (parts_of_packet profile octets identity ack plain.service plain.subtype (plain_data_of plain) e) flies
    (some_is plain.service fit.service_known.0) (some_is plain.subtype fit.subtype_known.0) (λ is. absurd (fit.service_known.2 is))

pub request_headless : (profile : Profile) (octets : List ℕ) (fault : PacketFault) → HeadersSay profile octets (Some fault)
    → ReadsRequest profile octets None
request_headless profile octets fault says identity ack plain flies fit e =
    heads_against profile octets fault (request_passes profile octets identity ack plain flies fit e) says

pub request_none : (profile : Profile) (octets : List ℕ) → ReadsPlain profile (service_in octets) (subtype_in octets) (data_in octets) None
    → ReadsRequest profile octets None
request_none profile octets none identity ack plain flies fit e =
    let parts = parts_of_packet profile octets identity ack plain.service plain.subtype (plain_data_of plain) e in
    none plain fit (sym parts.serves) (sym parts.kind) parts.carries

pub request_some : (profile : Profile) (octets : List ℕ) (identity : Identity) (ack : Ack) (plain : Plain) → AreOctets octets → Passes profile octets
    → Heads octets identity ack → ReadsPlain profile (service_in octets) (subtype_in octets) (data_in octets) (Some plain)
    → ReadsRequest profile octets (Some (identity, ack, plain))
request_some profile octets identity ack plain small passes heads says = (
  heads_fly profile octets identity ack passes heads,
  says.0,
  packet_again profile octets identity ack small passes heads
      ∙ ap (λ n. packet_of profile identity ack n (subtype_in octets) (data_in octets)) (sym says.1)
      ∙ ap (λ n. packet_of profile identity ack plain.service n (data_in octets)) (sym says.2)
      ∙ ap (packet_of profile identity ack plain.service plain.subtype) says.3,
)

-- ---- the packet after a time

-- octets that begin with an activity have room for it
begins_inside : (profile : Profile) (octets : List ℕ) (activity : FlightActivity) → BeginsWith profile octets activity
    → (13 ≤ length (activity_packet_of profile activity)) × (activity_length profile activity ≤ length octets)
begins_inside profile octets activity begins =
    let size = packet_length profile activity.identity activity.ack activity.plain.service activity.plain.subtype (plain_data_of activity.plain) in
    let cut : length (take (length (activity_packet_of profile activity)) (drop (time_length profile) octets))
    ≡ length (activity_packet_of profile activity) =
    ap length begins.packet in (
      omega arith,
      omega (
        arith,
        length-take (length (activity_packet_of profile activity)) (drop (time_length profile) octets),
        length-drop (time_length profile) octets,
      ),
    )

pub begins_short : (profile : Profile) (octets : List ℕ) → length octets < time_length profile + 6 → BeginsWithNone profile octets
begins_short profile octets short activity begins =
    let inside = begins_inside profile octets activity begins in
    let least = inside.0 in
    let most = inside.1 in
    absurd (omega arith)

pub begins_cut : (profile : Profile) (octets : List ℕ)
    → length (drop (time_length profile) octets) < whole_length_in (drop (time_length profile) octets)
    → BeginsWithNone profile octets
begins_cut profile octets short activity begins =
    let inside = begins_inside profile octets activity begins in
    let least = inside.0 in
    let most = inside.1 in
    let told = activity_told profile octets activity begins in
    absurd (omega (arith, length-drop (time_length profile) octets))

-- ---- an activity

pub activity_no_packet : (profile : Profile) (octets : List ℕ) → BeginsWithNone profile octets → ReadsActivity profile octets None
activity_no_packet profile octets none activity fit begins = none activity begins

pub activity_no_time : (profile : Profile) (octets : List ℕ) → ((moment : ℕ) → ¬ IsTime profile (take (time_length profile) octets) moment)
    → ReadsActivity profile octets None
activity_no_time profile octets none activity fit begins = none activity.time (fit.timed, begins.timed)

pub activity_no_request : (profile : Profile) (octets packet : List ℕ) → BeginsWithPacket profile octets packet → ReadsRequest profile packet None
    → ReadsActivity profile octets None
activity_no_request profile octets packet has none activity fit begins =
    none activity.identity activity.ack activity.plain fit.flying fit.asked
    (has.there ∙ ap (λ n. take n (drop (time_length profile) octets)) (activity_told profile octets activity begins) ∙ begins.packet)

pub activity_some : (profile : Profile) (octets packet : List ℕ) (activity : FlightActivity) → BeginsWithPacket profile octets packet
    → IsTime profile (take (time_length profile) octets) activity.time
    → ReadsRequest profile packet (Some (activity.identity, activity.ack, activity.plain))
    → FoundActivity profile octets activity (time_length profile + length packet)
activity_some profile octets packet activity has timed says =
    let whole : packet ≡ activity_packet_of profile activity = says.2 in
    let inside = has.inside in
    let cut : length packet ≡ whole_length_in (drop (time_length profile) octets) =
    omega (
      arith,
      ap length has.there,
      length-take (whole_length_in (drop (time_length profile) octets)) (drop (time_length profile) octets),
      length-drop (time_length profile) octets,
    ) in
    record {
      fit = record { timed = timed.0; flying = says.0; asked = says.1 };
      there = record {
        timed = timed.1;
        packet = ap (λ n. take n (drop (time_length profile) octets)) (sym (ap length whole) ∙ cut) ∙ sym has.there ∙ whole;
      };
      size = ap (λ l. time_length profile + length l) whole;
      inside = omega arith;
    }

-- ---- activities one after the other

-- an activity after others
activities_then : (profile : Profile) (octets : List ℕ) (activities : List FlightActivity) (left : List ℕ) (activity : FlightActivity)
    → HasActivities profile octets activities left → BeginsWith profile left activity
    → HasActivities profile octets (activities ++ activity ∷ []) (drop (activity_length profile activity) left)
activities_then profile octets [] left activity has begins =
    (subst (λ (l : List ℕ). BeginsWith profile l activity) has begins, ap (drop (activity_length profile activity)) has)
activities_then profile octets (first ∷ others) left activity has begins =
    (has.0, activities_then profile (drop (activity_length profile first) octets) others left activity has.1 begins)

fit_then : (profile : Profile) (activities : List FlightActivity) (activity : FlightActivity) → AllByRecursion (FitsActivity profile) activities
    → FitsActivity profile activity → AllByRecursion (FitsActivity profile) (activities ++ activity ∷ [])
fit_then profile [] activity all one = (one, tt)
fit_then profile (first ∷ others) activity all one = (all.0, fit_then profile others activity all.1 one)

-- Where no activity follows those that were read, octets are no longer list of them.
none_after : (profile : Profile) (octets : List ℕ) (activities more : List FlightActivity) (left : List ℕ)
    → AllByRecursion (FitsActivity profile) activities → AllByRecursion (FitsActivity profile) more → length activities < length more
    → HasActivities profile octets activities left → HasActivities profile octets more [] → ReadsActivity profile left None → ⊥
none_after profile octets [] [] left fa fm size has all none = absurd (omega arith)
none_after profile octets [] (b ∷ bs) left fa fm size has all none = none b fm.0 (subst (λ (l : List ℕ). BeginsWith profile l b) (sym has) all.0)
none_after profile octets (first ∷ others) [] left fa fm size has all none = absurd (omega arith)
none_after profile octets (first ∷ others) (b ∷ bs) left fa fm size has all none =
    let one = activity_same profile octets first b fa.0 fm.0 has.0 all.0 in
    none_after profile (drop (activity_length profile first) octets) others bs left fa.1 fm.1 (omega arith) has.1
    (subst (λ (it : FlightActivity). HasActivities profile (drop (activity_length profile it) octets) bs []) (sym one) all.1) none

-- So many activities were read into eight places, and these octets are left.
pub record HasRead (profile : Profile) (octets left : List ℕ) (count : ℕ) (places : List FlightActivity) : Type 0 where
  pub eight : length places ≡ 8
  pub fit : AllByRecursion (FitsActivity profile) (take count places)
  pub there : HasActivities profile octets (take count places) left

pub read_first : (profile : Profile) (octets : List ℕ) (first : FlightActivity) (taken : ℕ) → FoundActivity profile octets first taken
    → HasRead profile octets (drop taken octets) 1 (replicate 8 first)
read_first profile octets first taken found = record {
  eight = refl;
  fit = (found.fit, tt);
  there =
      (found.there, ap (λ n. drop n octets) found.size);
}

pub read_next : (profile : Profile) (octets left : List ℕ) (count : ℕ) (places : List FlightActivity) (activity : FlightActivity) (taken : ℕ)
    → HasRead profile octets left count places → count < 8 → FoundActivity profile left activity taken
    → HasRead profile octets (drop taken left) (count + 1) (set places count activity)
read_next profile octets left count places activity taken has room found =
    let eight = has.eight in
    let front : take (count + 1) (set places count activity) ≡ take count places ++ activity ∷ [] =
    take-set_at places count (count + 1) activity refl (omega arith) in
    record {
      eight = length-set places count activity ∙ eight;
      fit = subst (AllByRecursion (FitsActivity profile)) (sym front) (fit_then profile (take count places) activity has.fit found.fit);
      there =
          subst (λ (l : List FlightActivity). HasActivities profile octets l (drop taken left)) (sym front)
          (subst (λ (n : ℕ). HasActivities profile octets (take count places ++ activity ∷ []) (drop n left)) (sym found.size)
          (activities_then profile octets (take count places) left activity has.there found.there));
    }

pub first_none : (profile : Profile) (octets : List ℕ) (number : ℕ) → 1 ≤ number → ReadsActivity profile octets None
    → ReadsActivities profile number octets None
first_none profile octets number some none more fit size all = none_after profile octets [] more octets tt fit (omega arith) refl all none

front_size : (places : List FlightActivity) (count : ℕ) → length places ≡ 8 → count ≤ 8 → length (take count places) ≡ count
front_size places count eight few = omega (arith, length-take count places)

pub next_none : (profile : Profile) (octets left : List ℕ) (count number : ℕ) (places : List FlightActivity)
    → HasRead profile octets left count places
    → count < number → number ≤ 8 → ReadsActivity profile left None → ReadsActivities profile number octets None
next_none profile octets left count number places has below few none more fit size all =
    let front = front_size places count has.eight (omega arith) in
    none_after profile octets (take count places) more left has.fit fit (omega arith) has.there all none

pub left_none : (profile : Profile) (octets left : List ℕ) (number : ℕ) (places : List FlightActivity) → HasRead profile octets left number places
    → number ≤ 8 → left ≢ [] → ReadsActivities profile number octets None
left_none profile octets left number places has few more_left more fit size all =
    let front = front_size places number has.eight few in
    let same = activities_same profile octets (take number places) more left [] has.fit fit (omega arith) has.there all in
    more_left same.left

no_items : (xs : List ℕ) → length xs ≡ 0 → xs ≡ []
no_items [] e = refl
no_items (x ∷ xs) e = absurd (omega arith)

pub all_read : (profile : Profile) (octets left : List ℕ) (number : ℕ) (places : List FlightActivity) (read : Option (List FlightActivity))
    → HasRead profile octets left number places → 1 ≤ number → number ≤ 8 → length left ≡ 0
    → (IsSome read ↔ IsInsert (take number places)) → IfSome read (λ a. a ≡ take number places) → ReadsActivities profile number octets read
all_read profile octets left number places (Some read) has some few none_left found value =
    let front = front_size places number has.eight few in (
      subst (AllByRecursion (FitsActivity profile)) (sym value) has.fit,
      ap length value ∙ front,
      subst (λ (l : List FlightActivity). HasActivities profile octets l []) (sym value)
          (subst (λ (l : List ℕ). HasActivities profile octets (take number places) l) (no_items left none_left) has.there),
    )
all_read profile octets left number places None has some few none_left found value =
    let front = front_size places number has.eight few in
    let is_there : IsSome {T = List FlightActivity} None = found.1 (record { some = omega arith; few = omega arith }) in
    absurd (cc)
