-- Octets are the packet of one request at most.
use Rattle.std.proofs.Common.{◌≡◌, ℕ, ◌+◌, ◌*◌, ◌/◌, ◌%◌, ◌^◌, ◌≤◌, Bool, true, false, List, [], ◌∷◌, ◌++◌, take, drop, length, get_or, Some, None}
use Rattle.std.proofs.Common.{refl, sym, ap, ◌∙◌, subst, arith}
use Rattle.std.specs.Prelude.{ℤ, pos, negsuc, Option}
use Rattle.std.specs.List.{AllByRecursion}
use Rattle.std.proofs.lemmas.List.{take_at, drop_at, length-append, append-nil, get_or-take}
use Rattle.std.proofs.lemmas.Int.{ints}
use Rattle.tc_types.specs.declared.requests.Ack.{Ack}
use Rattle.tc_types.specs.declared.requests.Identity.{Identity}
use Rattle.tc_types.specs.declared.requests.Outcome.{Outcome}
use Rattle.tc_types.specs.declared.requests.Outcome.TheVariants as outcomes
use Rattle.tc_octets.specs.Bits.{pair_at}
use Rattle.tc_octets.specs.declared.profiles.Profile.{Profile}
use Rattle.tc_packets.specs.OctetFields.{quad}
use Rattle.tc_packets.specs.SpacePackets.{flag_bit}
use Rattle.tc_packets.specs.Times.{FitsOffset, HasSeconds, HasTime, complement, seconds_since, time_length}
use Rattle.tc_packets.specs.Outcomes.{outcome_octets_of}
use Rattle.tc_packets.specs.Flights.{FitsActivity, FitsOutcome, FitsPlain, FitsTask}
use Rattle.tc_packets.specs.Telecommands.{ack_bits, activity_packet_of, outcome_part, plain_data_of, service_of, subtype_of, target_of}
use Rattle.tc_packets.specs.TelecommandReaders.{BeginsWith, HasActivities, HasData, IsTelecommand, activity_length, data_in}
use Rattle.tc_packets.specs.declared.flights.Plain.{Plain}
use Rattle.tc_packets.specs.declared.flights.FlightActivity.{FlightActivity}
use Rattle.tc_packets.specs.declared.flights.FlightTask.{FlightTask}
use Rattle.tc_packets.specs.declared.flights.FlightTask.TheVariants as tasks
use Rattle.tc_packets.specs.declared.flights.Flight.{Flight}
use Rattle.tc_packets.proofs.PacketLemmas.{Parts, parts_there, parts_of_packet}
use Rattle.tc_packets.proofs.SizeLemmas.{outcome_three}

-- ---- numbers

quad_same : (a b : ℕ) → quad a ≡ quad b → a ≡ b
quad_same a b e =
    let first : a / 2 ^ 16 / 256 ≡ b / 2 ^ 16 / 256 = ap (λ (l : List ℕ). get_or l 0 0) e in
    let second : a / 2 ^ 16 % 256 ≡ b / 2 ^ 16 % 256 = ap (λ (l : List ℕ). get_or l 1 0) e in
    let third : a % 2 ^ 16 / 256 ≡ b % 2 ^ 16 / 256 = ap (λ (l : List ℕ). get_or l 2 0) e in
    let fourth : a % 2 ^ 16 % 256 ≡ b % 2 ^ 16 % 256 = ap (λ (l : List ℕ). get_or l 3 0) e in
    omega arith

pub seconds_same : (profile : Profile) (octets : List ℕ) (a b : ℕ) → HasSeconds profile octets a → HasSeconds profile octets b → a ≡ b
seconds_same profile octets a b x y = quad_same a b (sym x.whole ∙ y.whole)

moment_same : (epoch : ℤ) (a b : ℕ) → HasTime epoch a → HasTime epoch b → seconds_since epoch a ≡ seconds_since epoch b → a ≡ b
moment_same (pos epoch) a b x y e =
    let first = x.begun in
    let second = y.begun in
    omega (arith, ints)
moment_same (negsuc before) a b x y e = omega arith

offset_same : (a b : ℤ) → FitsOffset a → FitsOffset b → complement a ≡ complement b → a ≡ b
offset_same (pos m) (pos n) x y e = ap pos e
offset_same (pos m) (negsuc n) x y e =
    let most = x.most in
    let least = y.least in
    absurd (omega (arith, ints))
offset_same (negsuc m) (pos n) x y e =
    let least = x.least in
    let most = y.most in
    absurd (omega (arith, ints))
offset_same (negsuc m) (negsuc n) x y e =
    let first = x.least in
    let second = y.least in
    ap negsuc (omega (arith, ints))

-- ---- identities and acknowledgement flags

identity_is : (i j : Identity) → i.apid ≡ j.apid → i.count ≡ j.count → i ≡ j
identity_is i j apid count = ap (λ n. let made : Identity = record { apid = n; count = i.count } in made) apid
    ∙ ap (λ n. let made : Identity = record { apid = j.apid; count = n } in made) count

flag_same : (a b : Bool) → flag_bit a ≡ flag_bit b → a ≡ b
flag_same true true e = refl
flag_same true false e = absurd (omega arith)
flag_same false true e = absurd (omega arith)
flag_same false false e = refl

flag_small : (flag : Bool) → flag_bit flag ≤ 1
flag_small true = omega arith
flag_small false = omega arith

four_same : (a b c d e f g h : ℕ) → a ≤ 1 → b ≤ 1 → c ≤ 1 → d ≤ 1 → e ≤ 1 → f ≤ 1 → g ≤ 1 → h ≤ 1
    → a * 8 + b * 4 + c * 2 + d ≡ e * 8 + f * 4 + g * 2 + h → (a ≡ e) × (b ≡ f) × (c ≡ g) × (d ≡ h)
four_same a b c d e f g h ka kb kc kd ke kf kg kh same = (omega arith, omega arith, omega arith, omega arith)

ack_is : (a b : Ack) → a.acceptance ≡ b.acceptance → a.start ≡ b.start → a.progress ≡ b.progress → a.completion ≡ b.completion → a ≡ b
ack_is a b acceptance start progress completion =
    ap (λ f. let made : Ack = record { acceptance = f; start = a.start; progress = a.progress; completion = a.completion } in made) acceptance
    ∙ ap (λ f. let made : Ack = record { acceptance = b.acceptance; start = f; progress = a.progress; completion = a.completion } in made) start
    ∙ ap (λ f. let made : Ack = record { acceptance = b.acceptance; start = b.start; progress = f; completion = a.completion } in made) progress
    ∙ ap (λ f. let made : Ack = record { acceptance = b.acceptance; start = b.start; progress = b.progress; completion = f } in made) completion

ack_same : (a b : Ack) → ack_bits a ≡ ack_bits b → a ≡ b
ack_same a b e =
    let four =
    four_same (flag_bit a.completion) (flag_bit a.progress) (flag_bit a.start) (flag_bit a.acceptance)
    (flag_bit b.completion) (flag_bit b.progress) (flag_bit b.start) (flag_bit b.acceptance)
    (flag_small a.completion) (flag_small a.progress) (flag_small a.start) (flag_small a.acceptance)
    (flag_small b.completion) (flag_small b.progress) (flag_small b.start) (flag_small b.acceptance) e in
    ack_is a b (flag_same a.acceptance b.acceptance four.3) (flag_same a.start b.start four.2) (flag_same a.progress b.progress four.1)
    (flag_same a.completion b.completion four.0)

-- octets that are two packets: they are of one identity and ask for the same reports
pub record Same (i j : Identity) (a b : Ack) (s t s1 t1 : ℕ) (d e : List ℕ) : Type 0 where
  pub identity : i ≡ j
  pub ack : a ≡ b
  pub service : s ≡ s1
  pub subtype : t ≡ t1
  pub application : d ≡ e

plus_same : (n a b c : ℕ) → n ≡ c + a → n ≡ c + b → a ≡ b
plus_same n a b c x y = omega arith

pub parts_same : (profile : Profile) (octets : List ℕ) (i j : Identity) (a b : Ack) (s t s1 t1 : ℕ) (d e : List ℕ)
    → Parts profile octets i a s t d → Parts profile octets j b s1 t1 e → Same i j a b s t s1 t1 d e
parts_same profile octets i j a b s t s1 t1 d e x y = record {
  identity =
      identity_is i j (plus_same (pair_at octets 0) i.apid j.apid 0x1800 x.first y.first)
      (plus_same (pair_at octets 2) i.count j.count 0xc000 x.second y.second);
  ack = ack_same a b (plus_same (get_or octets 6 0) (ack_bits a) (ack_bits b) 0x20 x.acks y.acks);
  service = sym x.serves ∙ y.serves;
  subtype = sym x.kind ∙ y.kind;
  application = sym x.carries ∙ y.carries;
}

-- ---- outcomes and plain requests

first_same : (a b : ℕ) (p q : List ℕ) → a ∷ p ≡ b ∷ q → a ≡ b
first_same a b p q e = ap (λ (l : List ℕ). get_or l 0 0) e

outcome_same : (a b : Outcome) → outcome_octets_of a ≡ outcome_octets_of b → a ≡ b
outcome_same outcomes.Completes outcomes.Completes e = refl
outcome_same outcomes.Completes other e = absurd (omega (arith, ap (λ (l : List ℕ). get_or l 0 0) e))
outcome_same (outcomes.CompletesInSteps m) (outcomes.CompletesInSteps n) e = ap outcomes.CompletesInSteps (ap (λ (l : List ℕ). get_or l 1 0) e)
outcome_same (outcomes.CompletesInSteps m) other e = absurd (omega (arith, ap (λ (l : List ℕ). get_or l 0 0) e))
outcome_same (outcomes.Refuses m) (outcomes.Refuses n) e = ap outcomes.Refuses (ap (λ (l : List ℕ). get_or l 2 0) e)
outcome_same (outcomes.Refuses m) other e = absurd (omega (arith, ap (λ (l : List ℕ). get_or l 0 0) e))
outcome_same (outcomes.StartFails m) (outcomes.StartFails n) e = ap outcomes.StartFails (ap (λ (l : List ℕ). get_or l 2 0) e)
outcome_same (outcomes.StartFails m) other e = absurd (omega (arith, ap (λ (l : List ℕ). get_or l 0 0) e))
outcome_same (outcomes.Halts k m) (outcomes.Halts l n) e =
    ap (λ i. outcomes.Halts i m) (ap (λ (o : List ℕ). get_or o 1 0) e) ∙ ap (λ i. outcomes.Halts l i) (ap (λ (o : List ℕ). get_or o 2 0) e)
outcome_same (outcomes.Halts k m) other e = absurd (omega (arith, ap (λ (l : List ℕ). get_or l 0 0) e))
outcome_same (outcomes.Fails m) (outcomes.Fails n) e = ap outcomes.Fails (ap (λ (l : List ℕ). get_or l 2 0) e)
outcome_same (outcomes.Fails m) other e = absurd (omega (arith, ap (λ (l : List ℕ). get_or l 0 0) e))

-- two lists before ends of one length
ends_same : (d e p q : List ℕ) → length p ≡ length q → d ++ p ≡ e ++ q → (d ≡ e) × (p ≡ q)
ends_same d e p q h same =
    let fronts : length d ≡ length e = omega (arith, length-append d p, length-append e q, ap length same) in (
      sym (take_at d p (length d) refl) ∙ ap (take (length d)) same ∙ take_at e q (length d) (sym fronts),
      sym (drop_at d p (length d) refl) ∙ ap (drop (length d)) same ∙ drop_at e q (length d) (sym fronts),
    )

-- an outcome ends the data, if it flies
data_same : (rehearsal : Bool) (d e : List ℕ) (x y : Option Outcome) → FitsOutcome rehearsal x → FitsOutcome rehearsal y
    → d ++ outcome_part x ≡ e ++ outcome_part y → (d ≡ e) × (x ≡ y)
data_same true d e (Some x) (Some y) hx hy same =
    let both = ends_same d e (outcome_octets_of x) (outcome_octets_of y) (outcome_three x ∙ sym (outcome_three y)) same in
    (both.0, ap Some (outcome_same x y both.1))
data_same true d e (Some x) None hx hy same = absurd hy
data_same true d e None y hx hy same = absurd hx
data_same false d e None None hx hy same = (sym (append-nil d) ∙ same ∙ append-nil e, refl)
data_same false d e None (Some y) hx hy same = absurd hy
data_same false d e (Some x) y hx hy same = absurd hx

plain_is : (p q : Plain) → p.service ≡ q.service → p.subtype ≡ q.subtype → p.application ≡ q.application → p.outcome ≡ q.outcome → p ≡ q
plain_is p q service subtype octets outcome =
    ap (λ n. let made : Plain = record { service = n; subtype = p.subtype; application = p.application; outcome = p.outcome } in made) service
    ∙ ap (λ n. let made : Plain = record { service = q.service; subtype = n; application = p.application; outcome = p.outcome } in made) subtype
    ∙ ap (λ l. let made : Plain = record { service = q.service; subtype = q.subtype; application = l; outcome = p.outcome } in made) octets
    ∙ ap (λ o. let made : Plain = record { service = q.service; subtype = q.subtype; application = q.application; outcome = o } in made) outcome

pub plain_same : (profile : Profile) (p q : Plain) → FitsPlain profile p → FitsPlain profile q → p.service ≡ q.service → p.subtype ≡ q.subtype
    → plain_data_of p ≡ plain_data_of q → p ≡ q
plain_same profile p q x y service subtype same =
    let both = data_same profile.rehearsal p.application q.application p.outcome q.outcome x.rehearsed y.rehearsed same in
    plain_is p q service subtype both.0 both.1

-- ---- activities

-- where octets begin with a packet, its length stands in them
front_told : (octets packet : List ℕ) → 13 ≤ length packet → take (length packet) octets ≡ packet → pair_at octets 4 ≡ pair_at packet 4
front_told octets packet h e =
    let fifth : get_or octets 4 0 ≡ get_or packet 4 0 =
    sym (get_or-take (length packet) octets 4 0 (omega arith)) ∙ ap (λ (l : List ℕ). get_or l 4 0) e in
    let sixth : get_or octets 5 0 ≡ get_or packet 5 0 =
    sym (get_or-take (length packet) octets 5 0 (omega arith)) ∙ ap (λ (l : List ℕ). get_or l 5 0) e in
    omega arith

-- the parts of an activity's packet
abbrev pub PartsOfActivity : Profile → List ℕ → FlightActivity → Type 0
PartsOfActivity profile octets activity =
    Parts profile octets activity.identity activity.ack activity.plain.service activity.plain.subtype (plain_data_of activity.plain)

pub activity_parts : (profile : Profile) (activity : FlightActivity) → PartsOfActivity profile (activity_packet_of profile activity) activity
activity_parts profile activity =
    parts_there profile activity.identity activity.ack activity.plain.service activity.plain.subtype (plain_data_of activity.plain)

-- octets that begin with an activity tell how long its packet is
pub activity_told : (profile : Profile) (octets : List ℕ) (activity : FlightActivity) → BeginsWith profile octets activity
    → pair_at (drop (time_length profile) octets) 4 + 7 ≡ length (activity_packet_of profile activity)
activity_told profile octets activity begins =
    let parts = activity_parts profile activity in
    let size = parts.size in
    let told = parts.told in
    omega (arith, front_told (drop (time_length profile) octets) (activity_packet_of profile activity) (omega arith) begins.packet)

activity_is : (a b : FlightActivity) → a.time ≡ b.time → a.identity ≡ b.identity → a.ack ≡ b.ack → a.plain ≡ b.plain → a ≡ b
activity_is a b time identity ack plain =
    ap (λ n. let made : FlightActivity = record { time = n; identity = a.identity; ack = a.ack; plain = a.plain } in made) time
    ∙ ap (λ n. let made : FlightActivity = record { time = b.time; identity = n; ack = a.ack; plain = a.plain } in made) identity
    ∙ ap (λ n. let made : FlightActivity = record { time = b.time; identity = b.identity; ack = n; plain = a.plain } in made) ack
    ∙ ap (λ n. let made : FlightActivity = record { time = b.time; identity = b.identity; ack = b.ack; plain = n } in made) plain

-- octets begin with one activity at most
pub activity_same : (profile : Profile) (octets : List ℕ) (a b : FlightActivity) → FitsActivity profile a → FitsActivity profile b
    → BeginsWith profile octets a → BeginsWith profile octets b → a ≡ b
activity_same profile octets a b fa fb x y =
    let long : length (activity_packet_of profile a) ≡ length (activity_packet_of profile b) =
    sym (activity_told profile octets a x) ∙ activity_told profile octets b y in
    let packets : activity_packet_of profile a ≡ activity_packet_of profile b =
    sym x.packet ∙ ap (λ n. take n (drop (time_length profile) octets)) long ∙ y.packet in
    let other : PartsOfActivity profile (activity_packet_of profile a) b =
    parts_of_packet profile (activity_packet_of profile a) b.identity b.ack b.plain.service b.plain.subtype (plain_data_of b.plain) packets in
    let same =
    parts_same profile (activity_packet_of profile a) a.identity b.identity a.ack b.ack a.plain.service a.plain.subtype b.plain.service
    b.plain.subtype
    (plain_data_of a.plain) (plain_data_of b.plain) (activity_parts profile a) other in
    let time =
    moment_same profile.epoch a.time b.time fa.timed fb.timed
    (seconds_same profile (take (time_length profile) octets) (seconds_since profile.epoch a.time) (seconds_since profile.epoch b.time) x.timed
    y.timed) in
    activity_is a b time same.identity same.ack (plain_same profile a.plain b.plain fa.asked fb.asked same.service same.subtype same.application)

-- octets begin with one list of so many activities, after which the same is left
pub record SameActivities (a b : List FlightActivity) (x y : List ℕ) : Type 0 where
  pub activities : a ≡ b
  pub left : x ≡ y

pub activities_same : (profile : Profile) (octets : List ℕ) (a b : List FlightActivity) (x y : List ℕ)
    → AllByRecursion (FitsActivity profile) a → AllByRecursion (FitsActivity profile) b → length a ≡ length b
    → HasActivities profile octets a x → HasActivities profile octets b y → SameActivities a b x y
activities_same profile octets [] [] x y fa fb size p q = record { activities = refl; left = p ∙ sym q }
activities_same profile octets [] (b ∷ bs) x y fa fb size p q = absurd (omega arith)
activities_same profile octets (a ∷ as1) [] x y fa fb size p q = absurd (omega arith)
activities_same profile octets (a ∷ as1) (b ∷ bs) x y fa fb size p q =
    let one = activity_same profile octets a b fa.0 fb.0 p.0 q.0 in
    let q1 : HasActivities profile (drop (activity_length profile a) octets) bs y =
    subst (λ (it : FlightActivity). HasActivities profile (drop (activity_length profile it) octets) bs y) (sym one) q.1 in
    let others = activities_same profile (drop (activity_length profile a) octets) as1 bs x y fa.1 fb.1 (omega arith) p.1 q1 in
    record { activities = ap (λ it. it ∷ as1) one ∙ ap (λ l. b ∷ l) others.activities; left = others.left }

-- ---- what a request asks for

target_same : (profile : Profile) (a b : Identity) → target_of profile a ≡ target_of profile b → a ≡ b
target_same profile a b e =
    let high : a.apid / 256 ≡ b.apid / 256 = ap (λ (l : List ℕ). get_or l 3 0) e in
    let low : a.apid % 256 ≡ b.apid % 256 = ap (λ (l : List ℕ). get_or l 4 0) e in
    let higher : a.count / 256 ≡ b.count / 256 = ap (λ (l : List ℕ). get_or l 5 0) e in
    let lower : a.count % 256 ≡ b.count % 256 = ap (λ (l : List ℕ). get_or l 6 0) e in
    identity_is a b (omega arith) (omega arith)

head_is : (octets : List ℕ) (m n : ℕ) → take 1 octets ≡ m ∷ [] → take 1 octets ≡ n ∷ [] → m ≡ n
head_is octets m n x y = first_same m n [] [] (sym x ∙ y)

pub task_same : (profile : Profile) (octets : List ℕ) (t u : FlightTask) → FitsTask profile t → FitsTask profile u
    → service_of t ≡ service_of u → subtype_of t ≡ subtype_of u → HasData profile octets t → HasData profile octets u → t ≡ u
task_same profile octets (tasks.Plain p) (tasks.Plain q) f g s k x y = ap tasks.Plain (plain_same profile p q f g s k (sym x ∙ y))
task_same profile octets (tasks.Plain p) other f g s k x y = absurd (f.service_known.2 s)
task_same profile octets tasks.EnableSchedule tasks.EnableSchedule f g s k x y = refl
task_same profile octets tasks.EnableSchedule (tasks.Plain q) f g s k x y = absurd (g.service_known.2 (sym s))
task_same profile octets tasks.EnableSchedule other f g s k x y = absurd (omega (arith, k))
task_same profile octets tasks.DisableSchedule tasks.DisableSchedule f g s k x y = refl
task_same profile octets tasks.DisableSchedule (tasks.Plain q) f g s k x y = absurd (g.service_known.2 (sym s))
task_same profile octets tasks.DisableSchedule other f g s k x y = absurd (omega (arith, k))
task_same profile octets tasks.ResetSchedule tasks.ResetSchedule f g s k x y = refl
task_same profile octets tasks.ResetSchedule (tasks.Plain q) f g s k x y = absurd (g.service_known.2 (sym s))
task_same profile octets tasks.ResetSchedule other f g s k x y = absurd (omega (arith, k))
task_same profile octets (tasks.InsertActivities a) (tasks.InsertActivities b) f g s k x y =
    let same = activities_same profile (drop 1 octets) a b [] [] f.1 g.1 (head_is octets (length a) (length b) x.0 y.0) x.1 y.1 in
    ap tasks.InsertActivities same.activities
task_same profile octets (tasks.InsertActivities a) (tasks.Plain q) f g s k x y = absurd (g.service_known.2 (sym s))
task_same profile octets (tasks.InsertActivities a) other f g s k x y = absurd (omega (arith, k))
task_same profile octets (tasks.DeleteActivity a) (tasks.DeleteActivity b) f g s k x y =
    ap (λ it. tasks.DeleteActivity it) (target_same profile a b (sym x ∙ y))
task_same profile octets (tasks.DeleteActivity a) (tasks.Plain q) f g s k x y = absurd (g.service_known.2 (sym s))
task_same profile octets (tasks.DeleteActivity a) other f g s k x y = absurd (omega (arith, k))
task_same profile octets (tasks.ShiftActivity a m) (tasks.ShiftActivity b n) f g s k x y =
    ap (λ it. tasks.ShiftActivity it m) (target_same profile a b (sym x.1 ∙ y.1))
    ∙ ap (λ it. tasks.ShiftActivity b it)
    (offset_same m n f.1 g.1 (seconds_same profile (take (time_length profile) octets) (complement m) (complement n) x.0 y.0))
task_same profile octets (tasks.ShiftActivity a m) (tasks.Plain q) f g s k x y = absurd (g.service_known.2 (sym s))
task_same profile octets (tasks.ShiftActivity a m) other f g s k x y = absurd (omega (arith, k))
task_same profile octets (tasks.ShiftAll m) (tasks.ShiftAll n) f g s k x y =
    ap (λ it. tasks.ShiftAll it) (offset_same m n f g (seconds_same profile octets (complement m) (complement n) x y))
task_same profile octets (tasks.ShiftAll m) (tasks.Plain q) f g s k x y = absurd (g.service_known.2 (sym s))
task_same profile octets (tasks.ShiftAll m) other f g s k x y = absurd (omega (arith, k))
task_same profile octets tasks.SummarizeAll tasks.SummarizeAll f g s k x y = refl
task_same profile octets tasks.SummarizeAll (tasks.Plain q) f g s k x y = absurd (g.service_known.2 (sym s))
task_same profile octets tasks.SummarizeAll other f g s k x y = absurd (omega (arith, k))

flight_is : (a b : Flight) → a.identity ≡ b.identity → a.ack ≡ b.ack → a.task ≡ b.task → a ≡ b
flight_is a b identity ack task =
    ap (λ n. let made : Flight = record { identity = n; ack = a.ack; task = a.task } in made) identity
    ∙ ap (λ n. let made : Flight = record { identity = b.identity; ack = n; task = a.task } in made) ack
    ∙ ap (λ n. let made : Flight = record { identity = b.identity; ack = b.ack; task = n } in made) task

pub flight_parts : (profile : Profile) (octets : List ℕ) (flight : Flight) → IsTelecommand profile octets flight
    → Parts profile octets flight.identity flight.ack (service_of flight.task) (subtype_of flight.task) (data_in octets)
flight_parts profile octets flight is =
    parts_of_packet profile octets flight.identity flight.ack (service_of flight.task) (subtype_of flight.task) (data_in octets) is.whole

pub flight_same : (profile : Profile) (octets : List ℕ) (a b : Flight) → IsTelecommand profile octets a → IsTelecommand profile octets b → a ≡ b
flight_same profile octets a b x y =
    let same =
    parts_same profile octets a.identity b.identity a.ack b.ack (service_of a.task) (subtype_of a.task) (service_of b.task) (subtype_of b.task)
    (data_in octets) (data_in octets) (flight_parts profile octets a x) (flight_parts profile octets b y) in
    flight_is a b same.identity same.ack
    (task_same profile (data_in octets) a.task b.task x.fit.asked y.fit.asked same.service same.subtype x.application y.application)
