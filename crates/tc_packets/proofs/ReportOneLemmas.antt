-- Octets are read as one thing.
use Rattle.std.proofs.Common.{◌≡◌, ℕ, zero, suc, ◌+◌, ◌<◌, ◌≤◌, Bool, true, false, List, drop, length, Option, Some, None, Result, Ok, Err, refl, sym}
use Rattle.std.proofs.Common.{ap, ◌∙◌, subst, inl, inr, arith}
use borrow.Author.Count.{below_more, below_none}
use Rattle.std.specs.Prelude.{◌≢◌}
use Rattle.std.proofs.lemmas.Bool.{cases_lt}
use Rattle.tc_types.specs.declared.requests.Identity.{Identity}
use Rattle.tc_octets.specs.Bits.{pair_at}
use Rattle.tc_octets.specs.Crc.{crc_of}
use Rattle.tc_octets.specs.CrcLaws.{IsDamaged}
use Rattle.tc_octets.proofs.CrcWholeLemmas.{damage_found}
use Rattle.tc_octets.specs.declared.profiles.Profile.{Profile}
use Rattle.tc_packets.specs.SpacePackets.{IsWhole, ReadsPacket, flag_bit, identification, sequence_bits, sequence_control, space_packet_of, type_bit}
use Rattle.tc_packets.specs.SpacePackets.{version_in}
use Rattle.tc_packets.specs.ReportReaders.{HandsOn, HasRoom, IsIdle, IsLong, IsOurs, IsReportHeader, IsSound, Judges, ReadsField}
use Rattle.tc_packets.specs.ReportReaders.{ReadsReport}
use Rattle.tc_packets.specs.SpacePackets.{IsHeader}
use Rattle.tc_packets.specs.ReportReaders.{pus_version_in, service_in, source_data_in, subtype_in}
use Rattle.tc_packets.specs.ReportLaws.{IsNoReport, ReportReadsBack}
use Rattle.tc_packets.specs.declared.space_packets.PacketType.{PacketType}
use Rattle.tc_packets.specs.declared.space_packets.PacketType.TheVariants as types
use Rattle.tc_packets.specs.declared.space_packets.SequenceFlags.{SequenceFlags}
use Rattle.tc_packets.specs.declared.space_packets.SequenceFlags.TheVariants as sequences
use Rattle.tc_packets.specs.declared.space_packets.PacketHeader.{PacketHeader}
use Rattle.tc_packets.specs.declared.space_packets.SpacePacket.{SpacePacket}
use Rattle.tc_packets.specs.declared.space_packets.SpaceFault.{SpaceFault}
use Rattle.tc_packets.specs.declared.space_packets.SpaceFault.TheVariants as space
use Rattle.tc_packets.specs.declared.told.HeardReport.{HeardReport}
use Rattle.tc_packets.specs.declared.told.Heard.{Heard}
use Rattle.tc_packets.specs.declared.told.Heard.TheVariants as heard
use Rattle.tc_packets.specs.declared.told.ReportFault.{ReportFault}
use Rattle.tc_packets.specs.declared.told.ReportFault.TheVariants as faults
use Rattle.tc_packets.proofs.ReportBackLemmas.{identity_same, tells_one}
use Rattle.tc_packets.proofs.ReportLawLemmas.{PartsAre, heard_same, parts_there, reports_come_back, reports_differ}

-- ---- one space packet

type_same : (a b : PacketType) → type_bit a ≡ type_bit b → a ≡ b
type_same types.Telemetry types.Telemetry e = refl
type_same types.Telemetry types.Telecommand e = absurd (omega arith)
type_same types.Telecommand types.Telemetry e = absurd (omega arith)
type_same types.Telecommand types.Telecommand e = refl

flag_same : (a b : Bool) → flag_bit a ≡ flag_bit b → a ≡ b
flag_same false false e = refl
flag_same false true e = absurd (omega arith)
flag_same true false e = absurd (omega arith)
flag_same true true e = refl

sequence_same : (a b : SequenceFlags) → sequence_bits a ≡ sequence_bits b → a ≡ b
sequence_same sequences.Continuation sequences.Continuation e = refl
sequence_same sequences.Continuation b e = absurd (omega arith)
sequence_same sequences.First sequences.First e = refl
sequence_same sequences.First b e = absurd (omega arith)
sequence_same sequences.Last sequences.Last e = refl
sequence_same sequences.Last b e = absurd (omega arith)
sequence_same sequences.Unsegmented sequences.Unsegmented e = refl
sequence_same sequences.Unsegmented b e = absurd (omega arith)

type_small : (a : PacketType) → type_bit a ≤ 1
type_small types.Telemetry = omega arith
type_small types.Telecommand = omega arith

flag_small : (a : Bool) → flag_bit a ≤ 1
flag_small false = omega arith
flag_small true = omega arith

header_same : (a b : PacketHeader) → IsHeader a → IsHeader b → identification a ≡ identification b → sequence_control a ≡ sequence_control b → a ≡ b
header_same a b a_in b_in first second =
    let a_type = type_small a.kind in
    let b_type = type_small b.kind in
    let a_flag = flag_small a.secondary in
    let b_flag = flag_small b.secondary in
    let a_apid = a_in.apid in
    let b_apid = b_in.apid in
    let a_count = a_in.count in
    let b_count = b_in.count in
    let kind = type_same a.kind b.kind (omega arith) in
    let secondary = flag_same a.secondary b.secondary (omega arith) in
    let sequence = sequence_same a.sequence b.sequence (omega arith) in
    let identity = identity_same a.identity b.identity (omega arith) (omega arith) in
    ap (λ (x : PacketType). let h : PacketHeader = record { kind = x; secondary = a.secondary; identity = a.identity; sequence = a.sequence } in h)
    kind
    ∙ ap (λ (x : Bool). let h : PacketHeader = record { kind = b.kind; secondary = x; identity = a.identity; sequence = a.sequence } in h) secondary
    ∙ ap (λ (x : Identity). let h : PacketHeader = record { kind = b.kind; secondary = b.secondary; identity = x; sequence = a.sequence } in h)
    identity
    ∙ ap (λ (x : SequenceFlags). let h : PacketHeader = record { kind = b.kind; secondary = b.secondary; identity = b.identity; sequence = x } in h)
    sequence

-- octets that are a packet are whole, and of version 000
packet_whole : (octets : List ℕ) (header : PacketHeader) (field : List ℕ) → 1 ≤ length field → octets ≡ space_packet_of header field → IsWhole octets
packet_whole octets header field some e =
    let parts : PartsAre octets header field = subst (λ (l : List ℕ). PartsAre l header field) (sym e) (parts_there header field) in
    let third = parts.third in
    let size = parts.size in
    record { least = omega arith; told = omega arith }

packet_version : (octets : List ℕ) (header : PacketHeader) (field : List ℕ) → IsHeader header → octets ≡ space_packet_of header field
    → version_in octets ≡ 0
packet_version octets header field ranged e =
    let parts : PartsAre octets header field = subst (λ (l : List ℕ). PartsAre l header field) (sym e) (parts_there header field) in
    let first = parts.first in
    let kind = type_small header.kind in
    let flag = flag_small header.secondary in
    let apid = ranged.apid in
    omega arith

-- ---- one judgement

-- the steps of a judgement, by number, and what ends it there
abbrev Ends : Profile → List ℕ → PacketHeader → List ℕ → ℕ → Type 0
Ends profile octets header field zero = IsIdle header
Ends profile octets header field (suc zero) = ¬ IsReportHeader header
Ends profile octets header field (suc (suc zero)) = ¬ HasRoom profile field
Ends profile octets header field (suc (suc (suc zero))) = crc_of octets ≢ 0
Ends profile octets header field (suc (suc (suc (suc zero)))) = pus_version_in field ≢ 2
Ends profile octets header field (suc (suc (suc (suc (suc zero))))) = ¬ IsOurs profile field
Ends profile octets header field (suc (suc (suc (suc (suc (suc n)))))) = ⊥

-- what is told of a report for the desk
abbrev told_of : Option HeardReport → Result Heard ReportFault
told_of None = Err faults.Data
told_of (Some report) = Ok (heard.Report report)

record ReadsAs (profile : Profile) (header : PacketHeader) (field : List ℕ) (a : Result Heard ReportFault) : Type 0 where
  pub report : Option HeardReport
  pub reads : ReadsField profile header.identity field report
  pub is : a ≡ told_of report

-- what is told at a step
abbrev Answers : Profile → PacketHeader → List ℕ → Result Heard ReportFault → ℕ → Type 0
Answers profile header field a zero = a ≡ Ok heard.Idle
Answers profile header field a (suc zero) = a ≡ Err faults.Header
Answers profile header field a (suc (suc zero)) = a ≡ Err faults.Length
Answers profile header field a (suc (suc (suc zero))) = a ≡ Err faults.Check
Answers profile header field a (suc (suc (suc (suc zero)))) = a ≡ Err faults.Header
Answers profile header field a (suc (suc (suc (suc (suc zero))))) = a ≡ Ok (heard.Other (service_in field) (subtype_in field))
Answers profile header field a (suc (suc (suc (suc (suc (suc n)))))) = ReadsAs profile header field a

-- the step at which a judgement ends
record EndsAt (profile : Profile) (octets : List ℕ) (header : PacketHeader) (field : List ℕ) (a : Result Heard ReportFault) : Type 0 where
  pub step : ℕ
  pub few : step ≤ 6
  pub before : (k : ℕ) → k < step → ¬ Ends profile octets header field k
  pub here : step < 6 → Ends profile octets header field step
  pub answers : Answers profile header field a step

-- no step before this one ends the judgement
abbrev Goes : Profile → List ℕ → PacketHeader → List ℕ → ℕ → Type 0
Goes profile octets header field n = (k : ℕ) → k < n → ¬ Ends profile octets header field k

on : (profile : Profile) (octets : List ℕ) (header : PacketHeader) (field : List ℕ) (n : ℕ) → Goes profile octets header field n
    → ¬ Ends profile octets header field n
    → Goes profile octets header field (n + 1)
on profile octets header field n before here = below_more (λ (k : ℕ). ¬ Ends profile octets header field k) n before here

to_1 : (profile : Profile) (octets : List ℕ) (header : PacketHeader) (field : List ℕ) → ¬ IsIdle header → Goes profile octets header field 1
to_1 profile octets header field busy = on profile octets header field 0 (below_none (λ (k : ℕ). ¬ Ends profile octets header field k)) busy

to_2 : (profile : Profile) (octets : List ℕ) (header : PacketHeader) (field : List ℕ) → ¬ IsIdle header → IsReportHeader header
    → Goes profile octets header field 2
to_2 profile octets header field busy good = on profile octets header field 1 (to_1 profile octets header field busy) (λ ends. ends good)

to_3 : (profile : Profile) (octets : List ℕ) (header : PacketHeader) (field : List ℕ) → IsLong profile header field
    → Goes profile octets header field 3
to_3 profile octets header field long =
    on profile octets header field 2 (to_2 profile octets header field long.busy long.good) (λ ends. ends long.room)

to_4 : (profile : Profile) (octets : List ℕ) (header : PacketHeader) (field : List ℕ) → IsLong profile header field → crc_of octets ≡ 0
    → Goes profile octets header field 4
to_4 profile octets header field long right = on profile octets header field 3 (to_3 profile octets header field long) (λ ends. ends right)

to_5 : (profile : Profile) (octets : List ℕ) (header : PacketHeader) (field : List ℕ) → IsSound profile octets header field
    → Goes profile octets header field 5
to_5 profile octets header field sound =
    on profile octets header field 4 (to_4 profile octets header field sound.long sound.checked) (λ ends. ends sound.version)

to_6 : (profile : Profile) (octets : List ℕ) (header : PacketHeader) (field : List ℕ) → IsSound profile octets header field → IsOurs profile field
    → Goes profile octets header field 6
to_6 profile octets header field sound ours = on profile octets header field 5 (to_5 profile octets header field sound) (λ ends. ends ours)

other_same : (a b c d : ℕ) → a ≡ b → c ≡ d → (let r : Result Heard ReportFault = Ok (heard.Other a c) in r) ≡ Ok (heard.Other b d)
other_same a b c d service subtype =
    ap (λ (n : ℕ). let r : Result Heard ReportFault = Ok (heard.Other n c) in r) service
    ∙ ap (λ (n : ℕ). let r : Result Heard ReportFault = Ok (heard.Other b n) in r) subtype

ends_at : (profile : Profile) (octets : List ℕ) (header : PacketHeader) (field : List ℕ) (a : Result Heard ReportFault)
    → Judges profile octets header field a
    → EndsAt profile octets header field a
ends_at profile octets header field (Ok heard.Idle) y =
    record { step = 0; few = omega arith; before = below_none (λ (k : ℕ). ¬ Ends profile octets header field k); here = λ h. y; answers = refl }
ends_at profile octets header field (Ok (heard.Other service subtype)) y = record {
  step = 5;
  few = omega arith;
  before = to_5 profile octets header field y.0;
  here = λ h. y.1;
  answers = other_same service (service_in field) subtype (subtype_in field) y.2 y.3;
}
ends_at profile octets header field (Ok (heard.Report report)) y = record {
  step = 6;
  few = omega arith;
  before = to_6 profile octets header field y.0 y.1;
  here = λ h. absurd (omega arith);
  answers = record { report = Some report; reads = y.2; is = refl };
}
ends_at profile octets header field (Err faults.Length) y =
    record { step = 2; few = omega arith; before = to_2 profile octets header field y.0 y.1; here = λ h. y.2; answers = refl }
ends_at profile octets header field (Err faults.Version) y = absurd y
ends_at profile octets header field (Err faults.Header) (inl y) =
    record { step = 1; few = omega arith; before = to_1 profile octets header field y.0; here = λ h. y.1; answers = refl }
ends_at profile octets header field (Err faults.Header) (inr y) =
    record { step = 4; few = omega arith; before = to_4 profile octets header field y.0 y.1; here = λ h. y.2; answers = refl }
ends_at profile octets header field (Err faults.Check) y =
    record { step = 3; few = omega arith; before = to_3 profile octets header field y.0; here = λ h. y.1; answers = refl }
ends_at profile octets header field (Err faults.Data) y = record {
  step = 6;
  few = omega arith;
  before = to_6 profile octets header field y.0 y.1;
  here = λ h. absurd (omega arith);
  answers = record { report = None; reads = y.2; is = refl };
}

-- a judgement ends at one step
step_same : (profile : Profile) (octets : List ℕ) (header : PacketHeader) (field : List ℕ) (a b : Result Heard ReportFault)
    → (x : EndsAt profile octets header field a) → (y : EndsAt profile octets header field b) → x.step ≡ y.step
step_same profile octets header field a b x y =
    let x_few = x.few in
    let y_few = y.few in
    elim (cases_lt x.step y.step) [
      | inl less ↦ absurd (y.before x.step less (x.here (omega arith)))
      | inr least ↦ elim (cases_lt y.step x.step) [
        | inl less ↦ absurd (x.before y.step less (y.here (omega arith)))
        | inr most ↦ omega arith
      ]
    ]

report_same : (profile : Profile) (header : PacketHeader) (field : List ℕ) (a b : Option HeardReport) → ReadsField profile header.identity field a
    → ReadsField profile header.identity field b → a ≡ b
report_same profile header field None None x y = refl
report_same profile header field None (Some b) x y = absurd (x b.told b.passed y.1 y.2 y.3)
report_same profile header field (Some a) None x y = absurd (y a.told a.passed x.1 x.2 x.3)
report_same profile header field (Some a) (Some b) x y =
    let same = tells_one profile (source_data_in profile field) a.told b.told a.passed b.passed (x.1 ∙ sym y.1) (x.2 ∙ sym y.2) x.3 y.3 in
    ap (λ (h : HeardReport). Some h) (heard_same a b (x.0 ∙ sym y.0) same.told same.passed)

answer_same : (profile : Profile) (header : PacketHeader) (field : List ℕ) (a b : Result Heard ReportFault) (n : ℕ) → Answers profile header field a n
    → Answers profile header field b n → a ≡ b
answer_same profile header field a b zero x y = x ∙ sym y
answer_same profile header field a b (suc zero) x y = x ∙ sym y
answer_same profile header field a b (suc (suc zero)) x y = x ∙ sym y
answer_same profile header field a b (suc (suc (suc zero))) x y = x ∙ sym y
answer_same profile header field a b (suc (suc (suc (suc zero)))) x y = x ∙ sym y
answer_same profile header field a b (suc (suc (suc (suc (suc zero))))) x y = x ∙ sym y
answer_same profile header field a b (suc (suc (suc (suc (suc (suc n)))))) x y =
    x.is ∙ ap told_of (report_same profile header field x.report y.report x.reads y.reads) ∙ sym y.is

judged_one : (profile : Profile) (octets : List ℕ) (header : PacketHeader) (field : List ℕ) (a b : Result Heard ReportFault)
    → Judges profile octets header field a
    → Judges profile octets header field b → a ≡ b
judged_one profile octets header field a b x y =
    let at_a = ends_at profile octets header field a x in
    let at_b = ends_at profile octets header field b y in
    let same = step_same profile octets header field a b at_a at_b in
    answer_same profile header field a b at_b.step (subst (λ (n : ℕ). Answers profile header field a n) same at_a.answers) at_b.answers

-- ---- one reading

handed_one : (profile : Profile) (octets : List ℕ) (p q : Result SpacePacket SpaceFault) (a b : Result Heard ReportFault) → ReadsPacket octets p
    → ReadsPacket octets q
    → HandsOn profile octets p a → HandsOn profile octets q b → a ≡ b
handed_one profile octets (Ok p) (Ok q) a b p_reads q_reads p_hands q_hands =
    let p_parts = parts_there p.header p.field.now in
    let q_parts = parts_there q.header q.field.now in
    let same : space_packet_of p.header p.field.now ≡ space_packet_of q.header q.field.now = sym p_reads.2 ∙ q_reads.2 in
    let first : identification p.header ≡ identification q.header = sym p_parts.first ∙ ap (λ (l : List ℕ). pair_at l 0) same ∙ q_parts.first in
    let second : sequence_control p.header ≡ sequence_control q.header =
    sym p_parts.second ∙ ap (λ (l : List ℕ). pair_at l 2) same ∙ q_parts.second in
    let header = header_same p.header q.header p_reads.0 q_reads.0 first second in
    let field : p.field.now ≡ q.field.now = ap (λ (l : List ℕ). drop 6 l) same in
    let judges = subst (λ (h : PacketHeader). Judges profile octets h p.field.now a) header p_hands in
    judged_one profile octets q.header q.field.now a b (subst (λ (l : List ℕ). Judges profile octets q.header l a) field judges) q_hands
handed_one profile octets (Ok p) (Err space.Length) a b p_reads q_reads p_hands q_hands =
    absurd (q_reads (packet_whole octets p.header p.field.now p_reads.1.least p_reads.2))
handed_one profile octets (Ok p) (Err space.Version) a b p_reads q_reads p_hands q_hands =
    absurd (q_reads.1 (packet_version octets p.header p.field.now p_reads.0 p_reads.2))
handed_one profile octets (Err space.Length) (Ok q) a b p_reads q_reads p_hands q_hands =
    absurd (p_reads (packet_whole octets q.header q.field.now q_reads.1.least q_reads.2))
handed_one profile octets (Err space.Length) (Err space.Length) a b p_reads q_reads p_hands q_hands = p_hands ∙ sym q_hands
handed_one profile octets (Err space.Length) (Err space.Version) a b p_reads q_reads p_hands q_hands = absurd (p_reads q_reads.0)
handed_one profile octets (Err space.Version) (Ok q) a b p_reads q_reads p_hands q_hands =
    absurd (p_reads.1 (packet_version octets q.header q.field.now q_reads.0 q_reads.2))
handed_one profile octets (Err space.Version) (Err space.Length) a b p_reads q_reads p_hands q_hands = absurd (q_reads p_reads.0)
handed_one profile octets (Err space.Version) (Err space.Version) a b p_reads q_reads p_hands q_hands = p_hands ∙ sym q_hands

-- octets are read as one thing
one_reading : (profile : Profile) (octets : List ℕ) (a b : Result Heard ReportFault)
    → ReadsReport profile octets a → ReadsReport profile octets b → a ≡ b
one_reading profile octets a b x y = handed_one profile octets x.packet y.packet a b x.reads y.reads x.judges y.judges

pub reads_back : (profile : Profile) (octets : List ℕ) (read : Result Heard ReportFault) → ReadsReport profile octets read
    → ReportReadsBack profile octets read
reads_back profile octets read says = record {
  only = λ other h. one_reading profile octets other read h says;
  back = λ sent can e. reports_come_back profile sent read can (subst (λ (l : List ℕ). ReadsReport profile l read) e says);
  differ = λ a b a_can b_can x y. reports_differ profile a b a_can b_can (sym x ∙ y);
}

-- ---- damaged packets

damage_judged : (profile : Profile) (octets : List ℕ) (header : PacketHeader) (field : List ℕ) (read : Result Heard ReportFault)
    → Judges profile octets header field read → IsDamaged octets → IsNoReport read
damage_judged profile octets header field (Ok (heard.Report report)) says bad = damage_found octets bad says.0.checked
damage_judged profile octets header field (Ok (heard.Other service subtype)) says bad = damage_found octets bad says.0.checked
damage_judged profile octets header field (Ok heard.Idle) says bad = tt
damage_judged profile octets header field (Err fault) says bad = tt

damage_handed : (profile : Profile) (octets : List ℕ) (packet : Result SpacePacket SpaceFault) (read : Result Heard ReportFault)
    → HandsOn profile octets packet read → IsDamaged octets → IsNoReport read
damage_handed profile octets (Ok packet) read says bad = damage_judged profile octets packet.header packet.field.now read says bad
damage_handed profile octets (Err space.Length) read says bad = subst (λ (r : Result Heard ReportFault). IsNoReport r) (sym says) tt
damage_handed profile octets (Err space.Version) read says bad = subst (λ (r : Result Heard ReportFault). IsNoReport r) (sym says) tt

pub damaged_refused : (profile : Profile) (octets : List ℕ) (read : Result Heard ReportFault) → ReadsReport profile octets read → IsDamaged octets
    → IsNoReport read
damaged_refused profile octets read says bad = damage_handed profile octets says.packet read says.judges bad
