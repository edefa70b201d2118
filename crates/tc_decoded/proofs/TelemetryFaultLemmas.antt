-- A telemetry packet that its reader refuses for anything but its source data has a field that does not fit.
use Rattle.std.proofs.Common.{◌≡◌, ◌≢◌, ◌≤◌, ◌<◌, ◌^◌, ◌+◌, ◌-◌, ◌*◌, ◌/◌, ◌%◌, ℕ, Bool, true, false, List, [], ◌∷◌, ◌++◌, length, drop, take}
use Rattle.std.proofs.Common.{refl, sym, ap, ◌∙◌, subst, inl, inr, arith}
use Rattle.std.specs.Prelude.{Option, Some, None, Ok, Err, Result, nat_le, if◌then◌else◌, slice_index}
use Rattle.std.specs.List.{list_any}
use Rattle.std.proofs.lemmas.Bool.{cond-false, leb-true, ne_eqb, not-false}
use Rattle.tc_octets.specs.Bits.{pair_at}
use Rattle.tc_octets.specs.Crc.{crc_of}
use Rattle.tc_octets.specs.declared.profiles.Profile.{Profile}
use Rattle.tc_octets.proofs.CrcWholeLemmas.{closed_zero}
use Rattle.tc_octets.proofs.TcFrameLemmas.{closed_again}
use Rattle.tc_packets.specs.SpacePackets.{IsWhole, ReadsPacket, flag_bit, sequence_bits, type_bit}
use Rattle.tc_packets.specs.ReportReaders.{HandsOn, HasRoom, IsIdle, IsReportHeader, Judges, ReadsReport, pus_version_in}
use Rattle.tc_packets.specs.Times.{time_length}
use Rattle.tc_packets.specs.declared.space_packets.PacketType.{PacketType}
use Rattle.tc_packets.specs.declared.space_packets.PacketType.TheVariants as types
use Rattle.tc_packets.specs.declared.space_packets.SequenceFlags.{SequenceFlags}
use Rattle.tc_packets.specs.declared.space_packets.SequenceFlags.TheVariants as sequences
use Rattle.tc_packets.specs.declared.space_packets.SpaceFault.{SpaceFault}
use Rattle.tc_packets.specs.declared.space_packets.SpaceFault.TheVariants as space
use Rattle.tc_packets.specs.declared.space_packets.SpacePacket.{SpacePacket}
use Rattle.tc_packets.specs.declared.told.Heard.{Heard}
use Rattle.tc_packets.specs.declared.told.ReportFault.{ReportFault}
use Rattle.tc_packets.specs.declared.told.ReportFault.TheVariants as faults
use Rattle.tc_packets.proofs.ReportLawLemmas.{PartsAre, parts_there}
use Rattle.tc_decoded.specs.declared.names.Name.TheVariants as names
use Rattle.tc_decoded.specs.declared.rows.Fit.TheVariants as fit
use Rattle.tc_decoded.specs.declared.rows.Row.{Row}
use Rattle.tc_decoded.specs.declared.rows.Word.{Word}
use Rattle.tc_decoded.specs.declared.rows.Word.TheVariants as words
use Rattle.tc_decoded.specs.Faults.{report_fields, telemetry_fields}
use Rattle.tc_decoded.specs.ReportLines as reports
use Rattle.tc_decoded.specs.Rows.{bits_in, counted, fails}
use Rattle.tc_decoded.specs.Tables.{packet_check}
use Rattle.tc_decoded.proofs.FaultLemmas.{AreOctets, HasFault, behind, in_front}
use Rattle.tc_decoded.proofs.FieldFaultLemmas.{at_row, by_none, by_word, check_row, differs, fits_at, given, octet_dropped, pair_value, same, some≢none}

-- ---- where a fault is

in_primary : (profile : Profile) (octets : List ℕ) (word : Word) → HasFault word octets (reports.primary_rows profile octets)
    → HasFault word octets (telemetry_fields profile octets)
in_primary profile octets word h =
    in_front word octets (reports.primary_rows profile octets)
    (if reports.is_idle octets then counted names.IdleData 6 (length octets - 6) words.Length fit.Any ∷ [] else report_fields profile octets) h

in_report : (profile : Profile) (octets : List ℕ) (word : Word) → reports.is_idle octets ≡ false
    → HasFault word octets (report_fields profile octets) → HasFault word octets (telemetry_fields profile octets)
in_report profile octets word busy h =
    let idle : List Row = counted names.IdleData 6 (length octets - 6) words.Length fit.Any ∷ [] in
    behind word octets (reports.primary_rows profile octets) (if reports.is_idle octets then idle else report_fields profile octets)
    (subst (λ (l : List Row). HasFault word octets l) (sym (cond-false (reports.is_idle octets) idle (report_fields profile octets) busy)) h)

-- ---- a header whose rows fit

fewest_is : (profile : Profile) (octets : List ℕ) → reports.is_idle octets ≡ false → reports.fewest_octets profile octets ≡ 15 + time_length profile
fewest_is profile octets busy = cond-false (reports.is_idle octets) 7 (15 + time_length profile) busy

seven_least : (profile : Profile) (idle : Bool) → 7 ≤ (if idle then 7 else 15 + time_length profile)
seven_least profile true = omega arith
seven_least profile false = omega arith

-- as many octets as the length field says, and as many as the headers have
record IsSized (profile : Profile) (octets : List ℕ) : Type 0 where
  pub whole : IsWhole octets
  pub room : reports.fewest_octets profile octets ≤ length octets

sized : (profile : Profile) (octets : List ℕ) → AreOctets octets
    → list_any (fails (Some words.Length) octets) (reports.primary_rows profile octets) ≡ false → IsSized profile octets
sized profile octets are none =
    let room =
    leb-true (reports.fewest_octets profile octets) (length octets) (not-false (nat_le (reports.fewest_octets profile octets) (length octets))
    (fits_at words.Length octets (reports.primary_rows profile octets) 0 (omega arith) none)) in
    let told = same (bits_in octets 4 (record { bit = 0; bits = 16 })) (length octets - 7)
    (fits_at words.Length octets (reports.primary_rows profile octets) 7 (omega arith) none) in
    let least : 7 ≤ length octets = omega (arith, room, seven_least profile (reports.is_idle octets)) in
    record { whole = record { least = least; told = omega (arith, told, least, pair_value octets 4 are) }; room = room }

type_is : (kind : PacketType) → type_bit kind ≡ 0 → kind ≡ types.Telemetry
type_is types.Telemetry e = refl
type_is types.Telecommand e = absurd (omega arith)

flag_is : (flag : Bool) → flag_bit flag ≡ 1 → flag ≡ true
flag_is true e = refl
flag_is false e = absurd (omega arith)

sequence_is : (flags : SequenceFlags) → sequence_bits flags ≡ 3 → flags ≡ sequences.Unsegmented
sequence_is sequences.Continuation e = absurd (omega arith)
sequence_is sequences.First e = absurd (omega arith)
sequence_is sequences.Last e = absurd (omega arith)
sequence_is sequences.Unsegmented e = refl

type_small : (kind : PacketType) → type_bit kind ≤ 1
type_small types.Telemetry = omega arith
type_small types.Telecommand = omega arith

flag_small : (flag : Bool) → flag_bit flag ≤ 1
flag_small true = omega arith
flag_small false = omega arith

sequence_small : (flags : SequenceFlags) → sequence_bits flags ≤ 3
sequence_small sequences.Continuation = omega arith
sequence_small sequences.First = omega arith
sequence_small sequences.Last = omega arith
sequence_small sequences.Unsegmented = omega arith

type_from : (first second kind flag apid : ℕ) → first < 2 ^ 8 → second < 2 ^ 8 → kind ≤ 1 → flag ≤ 1 → apid < 2 ^ 11
    → first * 256 + second ≡ kind * 2 ^ 12 + flag * 2 ^ 11 + apid → (first / 2 ^ 4 % 2 ^ 1 ≡ kind) × (first / 2 ^ 3 % 2 ^ 1 ≡ flag)
type_from first second kind flag apid f s k g a e = (omega arith, omega arith)

sequence_from : (first second flags count : ℕ) → first < 2 ^ 8 → second < 2 ^ 8 → flags ≤ 3 → count < 2 ^ 14
    → first * 256 + second ≡ flags * 2 ^ 14 + count → first / 2 ^ 6 % 2 ^ 2 ≡ flags
sequence_from first second flags count f s g c e = omega arith

good_header : (profile : Profile) (octets : List ℕ) (packet : SpacePacket) → AreOctets octets → ReadsPacket octets (Ok packet)
    → PartsAre octets packet.header packet.field.now
    → list_any (fails (Some words.Header) octets) (reports.primary_rows profile octets) ≡ false → IsReportHeader packet.header
good_header profile octets packet are reads parts none =
    let header = packet.header in
    let kind = same (slice_index octets 0 / 2 ^ 4 % 2 ^ 1) 0 (fits_at words.Header octets (reports.primary_rows profile octets) 2 (omega arith) none) in
    let secondary =
    same (slice_index octets 0 / 2 ^ 3 % 2 ^ 1) 1 (fits_at words.Header octets (reports.primary_rows profile octets) 3 (omega arith) none) in
    let flags = same (slice_index (drop 2 octets) 0 / 2 ^ 6 % 2 ^ 2) 3
    (fits_at words.Header octets (reports.primary_rows profile octets) 5 (omega arith) none) in
    let bits = type_from (slice_index octets 0) (slice_index octets 1) (type_bit header.kind) (flag_bit header.secondary) header.identity.apid (are 0) (are 1)
    (type_small header.kind) (flag_small header.secondary) reads.0.apid parts.first in
    let order = sequence_from (slice_index octets 2) (slice_index octets 3) (sequence_bits header.sequence) header.identity.count (are 2) (are 3)
    (sequence_small header.sequence) reads.0.count parts.second in
    record {
      kind = type_is header.kind (sym bits.0 ∙ kind);
      secondary = flag_is header.secondary (sym bits.1 ∙ secondary);
      sequence =
          sequence_is header.sequence
          (sym order ∙ ap (λ (n : ℕ). n / 2 ^ 6 % 2 ^ 2) (sym (octet_dropped octets 2)) ∙ flags);
    }

-- ---- a packet that is not idle

apid_from : (first second kind flag apid : ℕ) → apid < 2 ^ 11 → first * 256 + second ≡ kind * 2 ^ 12 + flag * 2 ^ 11 + apid
    → (first * 256 + second) / 2 ^ 0 % 2 ^ 11 ≡ apid
apid_from first second kind flag apid a e = omega arith

not_idle : (octets : List ℕ) (packet : SpacePacket) → ReadsPacket octets (Ok packet) → PartsAre octets packet.header packet.field.now
    → ¬ IsIdle packet.header → reports.is_idle octets ≡ false
not_idle octets packet reads parts busy =
    let header = packet.header in
    let apid = apid_from (slice_index octets 0) (slice_index octets 1) (type_bit header.kind) (flag_bit header.secondary) header.identity.apid
    reads.0.apid parts.first in
    ne_eqb (pair_at octets 0 / 2 ^ 0 % 2 ^ 11) 2047 (λ e. busy (sym apid ∙ e))

-- ---- what a packet is refused for

length_fault : (profile : Profile) (octets : List ℕ) (packet : SpacePacket) → AreOctets octets → ReadsPacket octets (Ok packet)
    → PartsAre octets packet.header packet.field.now → ¬ IsIdle packet.header → ¬ HasRoom profile packet.field.now
    → HasFault words.Length octets (reports.primary_rows profile octets)
length_fault profile octets packet are reads parts busy tight =
    by_none _ (λ none.
    let room = (sized profile octets are none).room in
    let fewest = fewest_is profile octets (not_idle octets packet reads parts busy) in
    tight (omega (arith, room, fewest, parts.size)))

check_fault : (profile : Profile) (octets : List ℕ) (packet : SpacePacket) → AreOctets octets → PartsAre octets packet.header packet.field.now
    → HasRoom profile packet.field.now → crc_of octets ≢ 0 → HasFault words.Check octets (report_fields profile octets)
check_fault profile octets packet are parts room bad =
    let size = parts.size in
    let end : length octets - 2 + 2 ≡ length octets = omega (arith, size, room) in
    behind words.Check octets (reports.secondary_rows profile ++ reports.source_rows profile octets) (packet_check octets ∷ [])
    (at_row words.Check octets (packet_check octets ∷ []) 0 (omega arith)
    (check_row octets are (λ e. bad
    (ap (λ (l : List ℕ). crc_of l) (closed_again true octets (length octets - 2) are end (λ yes. e)) ∙ closed_zero (take (length octets - 2) octets)))))

small_version : (n : ℕ) → n < 2 ^ 8 → n / 2 ^ 4 % 2 ^ 4 ≡ 2 → n / 2 ^ 4 ≡ 2
small_version n small e = omega arith

version_fault : (profile : Profile) (octets : List ℕ) (packet : SpacePacket) → AreOctets octets → PartsAre octets packet.header packet.field.now
    → pus_version_in packet.field.now ≢ 2 → HasFault words.Header octets (report_fields profile octets)
version_fault profile octets packet are parts bad =
    let small : slice_index (drop 6 octets) 0 < 2 ^ 8 = omega (arith, octet_dropped octets 6, are 6) in
    in_front words.Header octets (reports.secondary_rows profile ++ reports.source_rows profile octets) (packet_check octets ∷ [])
    (in_front words.Header octets (reports.secondary_rows profile) (reports.source_rows profile octets)
    (at_row words.Header octets (reports.secondary_rows profile) 0 (omega arith)
    (differs (slice_index (drop 6 octets) 0 / 2 ^ 4 % 2 ^ 4) 2
    (λ e. bad (ap (λ (l : List ℕ). slice_index l 0 / 2 ^ 4) (sym parts.rest) ∙ small_version (slice_index (drop 6 octets) 0) small e)))))

judged : (profile : Profile) (octets : List ℕ) (word : Word) (packet : SpacePacket) (fault : ReportFault) → AreOctets octets
    → ReadsPacket octets (Ok packet) → PartsAre octets packet.header packet.field.now
    → Judges profile octets packet.header packet.field.now (Err fault) → Some word ≡ reports.word_of (Err fault) → word ≢ words.Data
    → HasFault word octets (telemetry_fields profile octets)
judged profile octets word packet faults.Length are reads parts says e not_data =
    by_word word words.Length octets (telemetry_fields profile octets) e
    (in_primary profile octets words.Length (length_fault profile octets packet are reads parts says.0 says.2))
judged profile octets word packet faults.Version are reads parts says e not_data = absurd says
judged profile octets word packet faults.Header are reads parts (inl says) e not_data =
    by_word word words.Header octets (telemetry_fields profile octets) e
    (in_primary profile octets words.Header
    (by_none _ (λ none. says.1 (good_header profile octets packet are reads parts none))))
judged profile octets word packet faults.Header are reads parts (inr says) e not_data =
    by_word word words.Header octets (telemetry_fields profile octets) e
    (in_report profile octets words.Header (not_idle octets packet reads parts says.0.busy)
    (version_fault profile octets packet are parts says.2))
judged profile octets word packet faults.Check are reads parts says e not_data =
    by_word word words.Check octets (telemetry_fields profile octets) e
    (in_report profile octets words.Check (not_idle octets packet reads parts says.0.busy)
    (check_fault profile octets packet are parts says.0.room says.1))
judged profile octets word packet faults.Data are reads parts says e not_data = absurd (not_data (ap (given word) e))

handed : (profile : Profile) (octets : List ℕ) (word : Word) (packet : Result SpacePacket SpaceFault) (fault : ReportFault) → AreOctets octets
    → ReadsPacket octets packet → HandsOn profile octets packet (Err fault) → Some word ≡ reports.word_of (Err fault) → word ≢ words.Data
    → HasFault word octets (telemetry_fields profile octets)
handed profile octets word (Ok packet) fault are reads hands e not_data =
    let parts : PartsAre octets packet.header packet.field.now =
    subst (λ (l : List ℕ). PartsAre l packet.header packet.field.now) (sym reads.2) (parts_there packet.header packet.field.now) in
    judged profile octets word packet fault are reads parts hands e not_data
handed profile octets word (Err space.Length) fault are reads hands e not_data =
    by_word word words.Length octets (telemetry_fields profile octets) (e ∙ ap reports.word_of hands)
    (in_primary profile octets words.Length (by_none _ (λ none. reads (sized profile octets are none).whole)))
handed profile octets word (Err space.Version) fault are reads hands e not_data =
    by_word word words.Version octets (telemetry_fields profile octets) (e ∙ ap reports.word_of hands)
    (in_primary profile octets words.Version
    (at_row words.Version octets (reports.primary_rows profile octets) 1 (omega arith)
    (differs (slice_index octets 0 / 2 ^ 5 % 2 ^ 3) 0 (λ zero_is. reads.1 (omega (arith, zero_is, are 0, are 1))))))

pub telemetry_fault : (profile : Profile) (octets : List ℕ) (word : Word) (read : Result Heard ReportFault) → AreOctets octets
    → ReadsReport profile octets read → Some word ≡ reports.word_of read → word ≢ words.Data
    → HasFault word octets (telemetry_fields profile octets)
telemetry_fault profile octets word (Ok heard) are says e not_data = absurd (some≢none e)
telemetry_fault profile octets word (Err fault) are says e not_data =
    handed profile octets word says.packet fault are says.reads says.judges e not_data
