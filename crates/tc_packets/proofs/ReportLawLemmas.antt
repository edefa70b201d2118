-- Reports come back, and different ones have different octets.
use Rattle.std.proofs.Common.{◌≡◌, ℕ, ◌+◌, ◌-◌, ◌*◌, ◌/◌, ◌%◌, ◌^◌, ◌<◌, ◌≤◌, Bool, true, false, List, ◌++◌, take, drop, length, Result, Ok, Err}
use Rattle.std.proofs.Common.{refl, sym, ap, ◌∙◌, subst, inl, inr, arith}
use Rattle.std.proofs.lemmas.List.{append_assoc, drop-drop, drop_at, length-append, take_at}
use Rattle.tc_types.specs.LinkLines.{verification_subtype}
use Rattle.tc_types.specs.declared.requests.Identity.{Identity}
use Rattle.tc_types.specs.declared.link.reports.Verification.{Verification}
use Rattle.tc_types.specs.declared.link.reports.Verification.TheVariants as verification
use Rattle.tc_octets.specs.Bits.{pair, pair_at}
use Rattle.tc_octets.specs.Crc.{crc_of}
use Rattle.tc_octets.specs.declared.profiles.Profile.{Profile}
use Rattle.tc_octets.proofs.CrcWholeLemmas.{closed_zero}
use Rattle.tc_packets.specs.SpacePackets.{ReadsPacket, flag_bit, header_of, identification, sequence_bits, sequence_control, space_packet_of}
use Rattle.tc_packets.specs.SpacePackets.{type_bit}
use Rattle.tc_packets.specs.Times.{IsTime, time_length, time_of}
use Rattle.tc_packets.specs.Reports.{IsReportable, report_field, report_header, report_of, service_of, source_data, subtype_of}
use Rattle.tc_packets.specs.ReportReaders.{HandsOn, HasRoom, IsKnown, IsOurs, Judges, destination_in, pus_version_in, service_in}
use Rattle.tc_packets.specs.SpacePackets.{IsHeader}
use Rattle.tc_packets.specs.ReportReaders.{ReadsReport, source_data_in, subtype_in, Tells}
use Rattle.tc_packets.specs.ReportLaws.{CanBeSent, Sent, heard_of, octets_of}
use Rattle.tc_packets.specs.declared.space_packets.PacketType.{PacketType}
use Rattle.tc_packets.specs.declared.space_packets.PacketType.TheVariants as types
use Rattle.tc_packets.specs.declared.space_packets.SequenceFlags.{SequenceFlags}
use Rattle.tc_packets.specs.declared.space_packets.SequenceFlags.TheVariants as sequences
use Rattle.tc_packets.specs.declared.space_packets.PacketHeader.{PacketHeader}
use Rattle.tc_packets.specs.declared.space_packets.SpacePacket.{SpacePacket}
use Rattle.tc_packets.specs.declared.space_packets.SpaceFault.{SpaceFault}
use Rattle.tc_packets.specs.declared.space_packets.SpaceFault.TheVariants as space
use Rattle.tc_packets.specs.declared.told.Told.{Told}
use Rattle.tc_packets.specs.declared.told.Told.TheVariants as told
use Rattle.tc_packets.specs.declared.told.HeardReport.{HeardReport}
use Rattle.tc_packets.specs.declared.told.Heard.{Heard}
use Rattle.tc_packets.specs.declared.told.Heard.TheVariants as heard
use Rattle.tc_packets.specs.declared.told.ReportFault.{ReportFault}
use Rattle.tc_packets.specs.declared.told.ReportFault.TheVariants as faults
use Rattle.tc_packets.proofs.ReportBackLemmas.{identity_same, tells_itself, tells_one, time_same, time_size, time_there}

-- ---- the parts of a space packet

two_are : (n : ℕ) → n / 256 * 256 + n % 256 ≡ n
two_are n = omega arith

pub record PartsAre (octets : List ℕ) (header : PacketHeader) (field : List ℕ) : Type 0 where
  pub first : pair_at octets 0 ≡ identification header
  pub second : pair_at octets 2 ≡ sequence_control header
  pub third : pair_at octets 4 ≡ length field - 1
  pub rest : drop 6 octets ≡ field
  pub size : length octets ≡ 6 + length field

pub parts_there : (header : PacketHeader) (field : List ℕ) → PartsAre (space_packet_of header field) header field
parts_there header field = record {
  first = two_are (identification header);
  second = two_are (sequence_control header);
  third = two_are (length field - 1);
  rest = refl;
  size = omega arith;
}

kind_is : (kind : PacketType) (secondary : Bool) (apid a : ℕ) → apid < 2 ^ 11 → a < 2 ^ 11
    → type_bit kind * 2 ^ 12 + flag_bit secondary * 2 ^ 11 + apid ≡ 0 * 2 ^ 12 + 1 * 2 ^ 11 + a
    → (kind ≡ types.Telemetry) × (secondary ≡ true) × (apid ≡ a)
kind_is types.Telemetry true apid a h k e = (refl, refl, omega arith)
kind_is types.Telemetry false apid a h k e = absurd (omega arith)
kind_is types.Telecommand true apid a h k e = absurd (omega arith)
kind_is types.Telecommand false apid a h k e = absurd (omega arith)

sequence_is : (sequence : SequenceFlags) (count c : ℕ) → count < 2 ^ 14 → c < 2 ^ 14
    → sequence_bits sequence * 2 ^ 14 + count ≡ 3 * 2 ^ 14 + c → (sequence ≡ sequences.Unsegmented) × (count ≡ c)
sequence_is sequences.Continuation count c h k e = absurd (omega arith)
sequence_is sequences.First count c h k e = absurd (omega arith)
sequence_is sequences.Last count c h k e = absurd (omega arith)
sequence_is sequences.Unsegmented count c h k e = (refl, omega arith)

-- ---- a report as a space packet

-- what stands before the CRC, the CRC, and the data field with it
abbrev front_of : Profile → ℕ → ℕ → Told → List ℕ
front_of profile count now t = header_of (report_header profile count) (length (report_field profile now t) + 2) ++ report_field profile now t

abbrev whole_field : Profile → ℕ → ℕ → Told → List ℕ
whole_field profile count now t = report_field profile now t ++ pair (crc_of (front_of profile count now t))

report_is : (profile : Profile) (count now : ℕ) (t : Told)
    → report_of profile count now t ≡ space_packet_of (report_header profile count) (whole_field profile count now t)
report_is profile count now t =
    let size : length (report_field profile now t) + 2 ≡ length (whole_field profile count now t) =
    omega (arith, length-append (report_field profile now t) (pair (crc_of (front_of profile count now t)))) in
    ap (λ n. header_of (report_header profile count) n ++ whole_field profile count now t) size

report_parts : (profile : Profile) (count now : ℕ) (t : Told)
    → PartsAre (report_of profile count now t) (report_header profile count) (whole_field profile count now t)
report_parts profile count now t =
    subst (λ (l : List ℕ). PartsAre l (report_header profile count) (whole_field profile count now t)) (sym (report_is profile count now t))
    (parts_there (report_header profile count) (whole_field profile count now t))

whole_size : (profile : Profile) (count now : ℕ) (t : Told) → 2 ≤ length (whole_field profile count now t)
whole_size profile count now t = omega (arith, length-append (report_field profile now t) (pair (crc_of (front_of profile count now t))))

-- a header and a data field are those of this report
record ReportIs (profile : Profile) (count now : ℕ) (t : Told) (header : PacketHeader) (field : List ℕ) : Type 0 where
  pub kind : header.kind ≡ types.Telemetry
  pub secondary : header.secondary ≡ true
  pub sequence : header.sequence ≡ sequences.Unsegmented
  pub apid : header.identity.apid ≡ profile.apid
  pub counted : header.identity.count ≡ count
  pub content : field ≡ whole_field profile count now t

packet_is : (profile : Profile) (count now : ℕ) (t : Told) (header : PacketHeader) (field : List ℕ) → profile.apid ≤ 2046 → count < 2 ^ 14
    → IsHeader header
    → report_of profile count now t ≡ space_packet_of header field → ReportIs profile count now t header field
packet_is profile count now t header field fits small ranged e =
    let a = report_parts profile count now t in
    let b = parts_there header field in
    let first : identification header ≡ identification (report_header profile count) =
    sym b.first ∙ sym (ap (λ (l : List ℕ). pair_at l 0) e) ∙ a.first in
    let second : sequence_control header ≡ sequence_control (report_header profile count) =
    sym b.second ∙ sym (ap (λ (l : List ℕ). pair_at l 2) e) ∙ a.second in
    let kind = kind_is header.kind header.secondary header.identity.apid profile.apid ranged.apid (omega arith) first in
    let sequence = sequence_is header.sequence header.identity.count count ranged.count small second in
    record {
      kind = kind.0;
      secondary = kind.1;
      sequence = sequence.0;
      apid = kind.2;
      counted = sequence.1;
      content = sym b.rest ∙ sym (ap (λ (l : List ℕ). drop 6 l) e) ∙ a.rest;
    }

-- ---- the parts of a report's data field

record FieldIs (profile : Profile) (now : ℕ) (t : Told) (field : List ℕ) : Type 0 where
  pub version : pus_version_in field ≡ 2
  pub service : service_in field ≡ service_of t
  pub subtype : subtype_in field ≡ subtype_of t
  pub destination : destination_in field ≡ profile.source
  pub room : HasRoom profile field
  pub time : take (time_length profile) (drop 7 field) ≡ time_of profile now
  pub content : source_data_in profile field ≡ source_data profile t

field_there : (profile : Profile) (now : ℕ) (t : Told) (check : List ℕ) → length check ≡ 2
    → FieldIs profile now t (report_field profile now t ++ check)
field_there profile now t check two =
    let time : List ℕ = time_of profile now in
    let content : List ℕ = source_data profile t in
    let field : List ℕ = report_field profile now t ++ check in
    let behind : drop 7 field ≡ time ++ (content ++ check) = append_assoc time content check in
    let size : length field ≡ 7 + (time_length profile + (length content + 2)) =
    omega (arith, length-append (time ++ content) check, length-append time content, time_size profile now) in
    let end : (length field - 2) - (7 + time_length profile) ≡ length content = omega arith in
    let after : drop (7 + time_length profile) field ≡ content ++ check =
    sym (drop-drop (time_length profile) 7 field) ∙ ap (drop (time_length profile)) behind
    ∙ drop_at time (content ++ check) (time_length profile) (time_size profile now) in
    record {
      version = refl;
      service = refl;
      subtype = refl;
      destination = two_are profile.source;
      room = omega arith;
      time = ap (take (time_length profile)) behind ∙ take_at time (content ++ check) (time_length profile) (time_size profile now);
      content = ap (λ n. take n (drop (7 + time_length profile) field)) end ∙ ap (take (length content)) after
          ∙ take_at content check (length content) refl;
    }

whole_there : (profile : Profile) (count now : ℕ) (t : Told) (field : List ℕ) → field ≡ whole_field profile count now t → FieldIs profile now t field
whole_there profile count now t field e =
    subst (λ (l : List ℕ). FieldIs profile now t l) (sym e) (field_there profile now t (pair (crc_of (front_of profile count now t))) refl)

subtypes_are : (v : Verification) → (1 ≤ verification_subtype v) × (verification_subtype v ≤ 8)
subtypes_are verification.Accepted = (omega arith, omega arith)
subtypes_are (verification.AcceptanceFailed code) = (omega arith, omega arith)
subtypes_are verification.Started = (omega arith, omega arith)
subtypes_are (verification.StartFailed code) = (omega arith, omega arith)
subtypes_are (verification.StepDone step) = (omega arith, omega arith)
subtypes_are (verification.StepFailed step code) = (omega arith, omega arith)
subtypes_are verification.Completed = (omega arith, omega arith)
subtypes_are (verification.CompletionFailed code) = (omega arith, omega arith)

known_there : (t : Told) → IsKnown (service_of t) (subtype_of t)
known_there (told.Verification v request) = inl (refl, (subtypes_are v).0, (subtypes_are v).1)
known_there (told.Summary summary) = inr (refl, refl)

ours_there : (profile : Profile) (now : ℕ) (t : Told) (field : List ℕ) → FieldIs profile now t field → IsOurs profile field
ours_there profile now t field is =
    let service : IsKnown (service_in field) (subtype_of t) = subst (λ (n : ℕ). IsKnown n (subtype_of t)) (sym is.service) (known_there t) in
    record { destination = is.destination; known = subst (λ (n : ℕ). IsKnown (service_in field) n) (sym is.subtype) service }

-- ---- what a reader says of a report

pub heard_same : (a b : HeardReport) → a.origin ≡ b.origin → a.told ≡ b.told → a.passed ≡ b.passed → a ≡ b
heard_same a b origin contents passed =
    ap (λ (x : Identity). let h : HeardReport = record { origin = x; told = a.told; passed = a.passed } in h) origin
    ∙ ap (λ (x : Told). let h : HeardReport = record { origin = b.origin; told = x; passed = a.passed } in h) contents
    ∙ ap (λ (x : ℕ). let h : HeardReport = record { origin = b.origin; told = b.told; passed = x } in h) passed

judged : (profile : Profile) (count now : ℕ) (t : Told) (header : PacketHeader) (field : List ℕ) (read : Result Heard ReportFault)
    → profile.apid ≤ 2046
    → IsReportable profile t → ReportIs profile count now t header field → FieldIs profile now t field
    → Judges profile (report_of profile count now t) header field read
    → read ≡ Ok (heard.Report (heard_of profile (record { count = count; time = now; contents = t })))
judged profile count now t header field (Ok heard.Idle) fits reported is parts says = absurd (omega (arith, is.apid, says))
judged profile count now t header field (Ok (heard.Other service subtype)) fits reported is parts says =
    absurd (says.1 (ours_there profile now t field parts))
judged profile count now t header field (Ok (heard.Report report)) fits reported is parts says =
    let tells = says.2 in
    let origin =
    identity_same report.origin (record { apid = profile.apid; count = count }) (ap (λ (i : Identity). i.apid) tells.0 ∙ is.apid)
    (ap (λ (i : Identity). i.count) tells.0 ∙ is.counted) in
    let same =
    tells_one profile (source_data_in profile field) report.told t report.passed 0 (tells.1 ∙ parts.service) (tells.2 ∙ parts.subtype) tells.3
    (subst (λ (l : List ℕ). Tells profile l t 0) (sym parts.content) (tells_itself profile t reported)) in
    ap (λ (h : HeardReport). let r : Result Heard ReportFault = Ok (heard.Report h) in r)
    (heard_same report (heard_of profile (record { count = count; time = now; contents = t })) origin same.told same.passed)
judged profile count now t header field (Err faults.Length) fits reported is parts says = absurd (says.2 parts.room)
judged profile count now t header field (Err faults.Version) fits reported is parts says = absurd says
judged profile count now t header field (Err faults.Header) fits reported is parts (inl says) =
    absurd (says.1 (record { kind = is.kind; secondary = is.secondary; sequence = is.sequence }))
judged profile count now t header field (Err faults.Header) fits reported is parts (inr says) = absurd (says.2 parts.version)
judged profile count now t header field (Err faults.Check) fits reported is parts says =
    absurd (says.1 (closed_zero (front_of profile count now t)))
judged profile count now t header field (Err faults.Data) fits reported is parts says =
    let tells = subst (λ (l : List ℕ). Tells profile l t 0) (sym parts.content) (tells_itself profile t reported) in
    absurd (says.2 t 0 (sym parts.service) (sym parts.subtype) tells)

handed : (profile : Profile) (count now : ℕ) (t : Told) (packet : Result SpacePacket SpaceFault) (read : Result Heard ReportFault)
    → profile.apid ≤ 2046
    → count < 2 ^ 14 → IsReportable profile t → ReadsPacket (report_of profile count now t) packet
    → HandsOn profile (report_of profile count now t) packet read
    → read ≡ Ok (heard.Report (heard_of profile (record { count = count; time = now; contents = t })))
handed profile count now t (Ok packet) read fits small reported reads hands =
    let is = packet_is profile count now t packet.header packet.field.now fits small reads.0 reads.2 in
    judged profile count now t packet.header packet.field.now read fits reported is
    (whole_there profile count now t packet.field.now is.content) hands
handed profile count now t (Err space.Length) read fits small reported reads hands =
    let parts = report_parts profile count now t in
    let size = whole_size profile count now t in
    let third = parts.third in
    let all = parts.size in
    absurd (reads (record { least = omega arith; told = omega arith }))
handed profile count now t (Err space.Version) read fits small reported reads hands =
    let parts = report_parts profile count now t in
    let first = parts.first in
    absurd (reads.1 (omega arith))

-- what a reader says of the octets of a report is that report
pub reports_come_back : (profile : Profile) (sent : Sent) (read : Result Heard ReportFault) → CanBeSent profile sent
    → ReadsReport profile (octets_of profile sent) read → read ≡ Ok (heard.Report (heard_of profile sent))
reports_come_back profile sent read can reads =
    handed profile sent.count sent.time sent.contents reads.packet read profile.apid_fits can.counted can.reportable reads.reads reads.judges

sent_same : (a b : Sent) → a.count ≡ b.count → a.time ≡ b.time → a.contents ≡ b.contents → a ≡ b
sent_same a b count time contents =
    ap (λ (x : ℕ). let s : Sent = record { count = x; time = a.time; contents = a.contents } in s) count
    ∙ ap (λ (x : ℕ). let s : Sent = record { count = b.count; time = x; contents = a.contents } in s) time
    ∙ ap (λ (x : Told). let s : Sent = record { count = b.count; time = b.time; contents = x } in s) contents

-- different reports have different octets
pub reports_differ : (profile : Profile) (a b : Sent) → CanBeSent profile a → CanBeSent profile b → octets_of profile a ≡ octets_of profile b → a ≡ b
reports_differ profile a b a_can b_can e =
    let fits = profile.apid_fits in
    let ranged : IsHeader (report_header profile b.count) = record { apid = omega arith; count = b_can.counted } in
    let field : List ℕ = whole_field profile b.count b.time b.contents in
    let is =
    packet_is profile a.count a.time a.contents (report_header profile b.count) field profile.apid_fits a_can.counted ranged
    (e ∙ report_is profile b.count b.time b.contents) in
    let x = whole_there profile a.count a.time a.contents field is.content in
    let y = whole_there profile b.count b.time b.contents field refl in
    let time =
    time_same profile (time_of profile a.time) a.time b.time (time_there profile a.time a_can.timed)
    (subst (λ (l : List ℕ). IsTime profile l b.time) (sym y.time ∙ x.time) (time_there profile b.time b_can.timed)) in
    let same =
    tells_one profile (source_data profile a.contents) a.contents b.contents 0 0 (sym x.service ∙ y.service) (sym x.subtype ∙ y.subtype)
    (tells_itself profile a.contents a_can.reportable)
    (subst (λ (l : List ℕ). Tells profile l b.contents 0) (sym y.content ∙ x.content) (tells_itself profile b.contents b_can.reportable)) in
    sent_same a b (sym is.counted) time same.told
