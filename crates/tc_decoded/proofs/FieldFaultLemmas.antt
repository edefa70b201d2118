-- A layer that its reader refuses has a field that does not fit.
use Rattle.std.proofs.Common.{◌≡◌, ◌≢◌, ◌≤◌, ◌<◌, ◌^◌, ◌+◌, ◌-◌, ◌/◌, ◌%◌, ℕ, Bool, true, false, List, [], ◌∷◌, ◌++◌, length, drop, take}
use Rattle.std.proofs.Common.{refl, sym, ap, ◌∙◌, subst, inl, inr, get_or, arith}
use Rattle.std.specs.Prelude.{Option, Some, None, Ok, Err, Result, ◌*◌, ◌==◌, ◌&&◌, not, nat_le, if◌then◌else◌, IsTrue, slice_index}
use Rattle.std.specs.List.{list_any}
use Rattle.std.proofs.lemmas.Bool.{cases_lt, eq-eqb, eqb-true, leb-true, ne_eqb, not-false, true≢false}
use Rattle.std.proofs.lemmas.List.{get_or-drop}
use Rattle.std.proofs.lemmas.List.Folds.{list_any_at}
use Rattle.tc_octets.specs.Bits.{pair_at}
use Rattle.tc_octets.specs.Crc.{crc_of}
use Rattle.tc_octets.specs.TcFrames.{IsLong, Reads as ReadsFrame, check_length}
use Rattle.tc_octets.specs.TmFrames.{TmSays}
use Rattle.tc_octets.specs.declared.profiles.Profile.{Profile}
use Rattle.tc_octets.specs.declared.tc_frames.TcFault.{TcFault}
use Rattle.tc_octets.specs.declared.tc_frames.TcFault.TheVariants as tc_faults
use Rattle.tc_octets.specs.declared.tc_frames.TcFrame.{TcFrame}
use Rattle.tc_octets.specs.declared.tm_frames.TmFault.{TmFault}
use Rattle.tc_octets.specs.declared.tm_frames.TmFault.TheVariants as tm_faults
use Rattle.tc_packets.specs.TelecommandReaders.{HasHeader, HasType, is_schedule_subtype, Reads as ReadsPacket}
use Rattle.tc_packets.specs.TelecommandReaders as packets
use Rattle.tc_packets.specs.declared.flights.Flight.{Flight}
use Rattle.tc_packets.specs.declared.telecommand_readers.PacketFault.{PacketFault}
use Rattle.tc_packets.specs.declared.telecommand_readers.PacketFault.TheVariants as packet_faults
use Rattle.tc_decoded.specs.declared.rows.Row.{Row}
use Rattle.tc_decoded.specs.declared.rows.Word.{Word}
use Rattle.tc_decoded.specs.declared.rows.Word.TheVariants as words
use Rattle.tc_decoded.specs.declared.names.Name.TheVariants as names
use Rattle.tc_decoded.specs.declared.rows.Fit.TheVariants as fit
use Rattle.tc_decoded.specs.Faults.{frame_fields, telecommand_fields, tm_fields}
use Rattle.tc_decoded.specs.Rows.{bits_in, counted, fails, fits, told}
use Rattle.tc_decoded.specs.Tables.{check_of, frame_check, packet_check}
use Rattle.tc_decoded.specs.TcFrameLines as frames
use Rattle.tc_decoded.specs.Telecommands as telecommands
use Rattle.tc_decoded.specs.TmFrameLines.{tm_header_rows, tm_word}
use Rattle.tc_decoded.proofs.FaultLemmas.{AreOctets, HasFault, behind, in_front}

-- ---- tables

abbrev is_word : Option Word → Bool
is_word None = false
is_word (Some word) = true

pub some≢none : {word : Word} → Some word ≡ None → ⊥
some≢none e = true≢false (ap is_word e)

-- ---- rows

pub some_row : Row
some_row = counted names.Packet 0 0 words.Length fit.Any

-- one row that does not fit
pub at_row : (word : Word) (octets : List ℕ) (rows : List Row) (i : ℕ) → i < length rows → fails (Some word) octets (get_or rows i some_row) ≡ true
    → HasFault word octets rows
at_row word octets rows i within e = list_any_at (fails (Some word) octets) rows i some_row within e

-- A table has a fault if the reader's word is wrong where each row fits.
pub by_none : (b : Bool) → (b ≡ false → ⊥) → b ≡ true
by_none true bad = refl
by_none false bad = absurd (bad refl)

picked : (p : Row → Bool) (rows : List Row) (i : ℕ) (b : Bool) → i < length rows → list_any p rows ≡ false → p (get_or rows i some_row) ≡ b
    → p (get_or rows i some_row) ≡ false
picked p rows i false within none e = e
picked p rows i true within none e = absurd (true≢false (sym (list_any_at p rows i some_row within e) ∙ none))

pub fits_at : (word : Word) (octets : List ℕ) (rows : List Row) (i : ℕ) → i < length rows → list_any (fails (Some word) octets) rows ≡ false
    → fails (Some word) octets (get_or rows i some_row) ≡ false
fits_at word octets rows i within none =
    picked (fails (Some word) octets) rows i (fails (Some word) octets (get_or rows i some_row)) within none refl

pub same : (a b : ℕ) → not (a == b) ≡ false → a ≡ b
same a b e = eqb-true a b (not-false (a == b) e)

pub both : (a b : Bool) → not (a && b) ≡ false → (a ≡ true) × (b ≡ true)
both true true e = (refl, refl)
both true false e = absurd (true≢false e)
both false b e = absurd (true≢false e)

pub between : (least value most : ℕ) → not (nat_le least value && nat_le value most) ≡ false → (least ≤ value) × (value ≤ most)
between least value most e =
    let parts = both (nat_le least value) (nat_le value most) e in (leb-true least value parts.0, leb-true value most parts.1)

pub differs : (a b : ℕ) → ¬ (a ≡ b) → not (a == b) ≡ true
differs a b bad = ap not (ne_eqb a b bad)

-- ---- values

pub octet_dropped : (octets : List ℕ) (at : ℕ) → slice_index (drop at octets) 0 ≡ slice_index octets at
octet_dropped octets at = get_or-drop at octets 0 0 ∙ ap (slice_index octets) (let e : at + 0 ≡ at = omega arith in e)

pub pair_dropped : (octets : List ℕ) (at : ℕ) → pair_at (drop at octets) 0 ≡ pair_at octets at
pair_dropped octets at =
    ap (λ (n : ℕ). n * 256 + slice_index (drop at octets) 1) (octet_dropped octets at)
    ∙ ap (λ (n : ℕ). slice_index octets at * 256 + n) (get_or-drop at octets 1 0)

-- a field of an octet, and one of two
pub octet_value : (octets : List ℕ) (at : ℕ) → AreOctets octets → bits_in octets at (record { bit = 0; bits = 8 }) ≡ slice_index octets at
octet_value octets at are = omega (arith, octet_dropped octets at, are at)

pub pair_value : (octets : List ℕ) (at : ℕ) → AreOctets octets → bits_in octets at (record { bit = 0; bits = 16 }) ≡ pair_at octets at
pair_value octets at are = omega (arith, pair_dropped octets at, are at, are (at + 1))

-- ---- error control

pub check_row : (octets : List ℕ) → AreOctets octets → ¬ (pair_at octets (length octets - 2) ≡ check_of octets)
    → not (bits_in octets (length octets - 2) (record { bit = 0; bits = 16 }) == check_of octets) ≡ true
check_row octets are bad = differs _ (check_of octets) (λ e. bad (sym (pair_value octets (length octets - 2) are) ∙ e))

pub frame_checked : (fecf : Bool) (octets : List ℕ) → AreOctets octets
    → ¬ (fecf ≡ true → pair_at octets (length octets - 2) ≡ crc_of (take (length octets - 2) octets))
    → HasFault words.Check octets (frame_check fecf octets)
frame_checked true octets are bad =
    at_row words.Check octets (frame_check true octets) 0 (omega arith) (check_row octets are (λ e. bad (λ yes. e)))
frame_checked false octets are bad = absurd (bad (λ yes. absurd (true≢false (sym yes))))

-- ---- telemetry frames

pub tm_frame_fault : (profile : Profile) (octets : List ℕ) (fault : TmFault) → AreOctets octets → TmSays profile octets (Some fault)
    → HasFault (tm_word fault) octets (tm_fields profile octets)
tm_frame_fault profile octets tm_faults.Length are says =
    in_front words.Length octets (tm_header_rows profile octets) (frame_check profile.tm.fecf octets)
    (at_row words.Length octets (tm_header_rows profile octets) 0 (omega arith) (differs (length octets) profile.tm.length says))
tm_frame_fault profile octets tm_faults.Check are says =
    behind words.Check octets (tm_header_rows profile octets) (frame_check profile.tm.fecf octets)
    (frame_checked profile.tm.fecf octets are says.1)
tm_frame_fault profile octets tm_faults.Version are says =
    in_front words.Version octets (tm_header_rows profile octets) (frame_check profile.tm.fecf octets)
    (at_row words.Version octets (tm_header_rows profile octets) 1 (omega arith)
    (differs (slice_index octets 0 / 2 ^ 6 % 2 ^ 2) 0 (λ e. says.2 (omega (arith, e, are 0, are 1)))))
tm_frame_fault profile octets tm_faults.Spacecraft are says =
    in_front words.Spacecraft octets (tm_header_rows profile octets) (frame_check profile.tm.fecf octets)
    (at_row words.Spacecraft octets (tm_header_rows profile octets) 2 (omega arith)
    (differs (pair_at octets 0 / 2 ^ 4 % 2 ^ 10) profile.scid says.3))

-- ---- telecommand frames

long_frame : (profile : Profile) (octets : List ℕ) → list_any (fails (Some words.Length) octets) (frames.header_rows profile octets) ≡ false
    → IsLong profile octets
long_frame profile octets none =
    let size = between (6 + check_length profile.tc.fecf) (length octets) 1024
    (fits_at words.Length octets (frames.header_rows profile octets) 0 (omega arith) none) in
    let told = same (pair_at (drop 2 octets) 0 / 2 ^ 0 % 2 ^ 10) (length octets - 1)
    (fits_at words.Length octets (frames.header_rows profile octets) 7 (omega arith) none) in
    record { least = size.0; most = size.1; told = omega (arith, told, size.0, pair_dropped octets 2) }

sound_version : (profile : Profile) (octets : List ℕ) → AreOctets octets
    → list_any (fails (Some words.Version) octets) (frames.header_rows profile octets) ≡ false
    → (pair_at octets 0 / 2 ^ 14 ≡ 0) × (pair_at octets 0 / 2 ^ 10 % 2 ^ 2 ≡ 0)
sound_version profile octets are none =
    let version = same (slice_index octets 0 / 2 ^ 6 % 2 ^ 2) 0
    (fits_at words.Version octets (frames.header_rows profile octets) 1 (omega arith) none) in
    let spare = same (slice_index octets 0 / 2 ^ 2 % 2 ^ 2) 0
    (fits_at words.Version octets (frames.header_rows profile octets) 4 (omega arith) none) in
    (omega (arith, version, are 0, are 1), omega (arith, spare, are 0, are 1))

-- Two bits that are the same are those of type AD, or of type BC.
both_bits : (first second : ℕ) → first < 2 ^ 8 → second < 2 ^ 8 → first / 2 ^ 4 % 2 ^ 1 ≡ first / 2 ^ 5 % 2 ^ 1
    → (first * 256 + second) / 2 ^ 12 % 2 ^ 2 ≢ 0
    → (first * 256 + second) / 2 ^ 12 % 2 ^ 2 ≢ 3 → ⊥
both_bits first second f s e plain control =
    elim (cases_lt (first / 2 ^ 5 % 2 ^ 1) 1) [
      | inl zero_bit ↦ plain (omega (arith, e, f, s, zero_bit))
      | inr one_bit ↦ control (omega (arith, e, f, s, one_bit))
    ]

-- a field of the header
abbrev HeaderFault : Profile → List ℕ → Word → Type 0
HeaderFault profile octets word = HasFault word octets (frames.header_rows profile octets)

header_fault : (profile : Profile) (octets : List ℕ) (word : Word) (rest : List Row) → HeaderFault profile octets word
    → HasFault word octets
    (frames.front_rows profile octets ++ frames.packet_rows profile octets ++ rest)
header_fault profile octets word rest h =
    in_front word octets (frames.front_rows profile octets ++ frames.packet_rows profile octets) rest
    (in_front word octets (frames.front_rows profile octets) (frames.packet_rows profile octets)
    (in_front word octets (frames.header_rows profile octets)
    (if frames.is_control octets then frames.control_rows profile octets else frames.segment_rows profile.tc.map) h))

kind_fault : (profile : Profile) (octets : List ℕ) → AreOctets octets → pair_at octets 0 / 2 ^ 12 % 2 ^ 2 ≢ 0 → pair_at octets 0 / 2 ^ 12 % 2 ^ 2 ≢ 3
    → HeaderFault profile octets words.Kind
kind_fault profile octets are plain control =
    at_row words.Kind octets (frames.header_rows profile octets) 3 (omega arith)
    (differs (slice_index octets 0 / 2 ^ 4 % 2 ^ 1) (slice_index octets 0 / 2 ^ 5 % 2 ^ 1)
    (λ e. both_bits (slice_index octets 0) (slice_index octets 1) (are 0) (are 1) e plain control))

-- the word of a fault, in the place of another word that is the same
abbrev pub given : Word → Option Word → Word
given other None = other
given other (Some word) = word

pub by_word : (word known : Word) (octets : List ℕ) (rows : List Row) → Some word ≡ Some known → HasFault known octets rows → HasFault word octets rows
by_word word known octets rows e h = subst (λ (w : Word). HasFault w octets rows) (sym (ap (given word) e)) h

-- A frame that is refused for its content has a field at fault, if this is so.
pub record ContentFault (profile : Profile) (octets : List ℕ) : Type 0 where
  pub content : ReadsFrame profile octets (Err tc_faults.Content) → HasFault words.Content octets (frame_fields profile octets)

tc_frame_judged : (profile : Profile) (octets : List ℕ) (word : Word) (fault : TcFault) → AreOctets octets → ReadsFrame profile octets (Err fault)
    → Some word ≡ frames.word_of (Err fault) → ContentFault profile octets
    → HasFault word octets (frame_fields profile octets)
tc_frame_judged profile octets word tc_faults.Length are says e has =
    by_word word words.Length octets (frame_fields profile octets) e
    (header_fault profile octets words.Length (frame_check profile.tc.fecf octets)
    (by_none _ (λ none. says (long_frame profile octets none))))
tc_frame_judged profile octets word tc_faults.Check are says e has =
    by_word word words.Check octets (frame_fields profile octets) e
    (behind words.Check octets (frames.front_rows profile octets ++ frames.packet_rows profile octets) (frame_check profile.tc.fecf octets)
    (frame_checked profile.tc.fecf octets are says.1))
tc_frame_judged profile octets word tc_faults.Version are says e has =
    by_word word words.Version octets (frame_fields profile octets) e
    (header_fault profile octets words.Version (frame_check profile.tc.fecf octets)
    (by_none _ (λ none. says.2 (sound_version profile octets are none))))
tc_frame_judged profile octets word tc_faults.Spacecraft are says e has =
    by_word word words.Spacecraft octets (frame_fields profile octets) e
    (header_fault profile octets words.Spacecraft (frame_check profile.tc.fecf octets)
    (at_row words.Spacecraft octets (frames.header_rows profile octets) 5 (omega arith)
    (differs (pair_at octets 0 / 2 ^ 0 % 2 ^ 10) profile.scid (λ same_id. says.4 (omega (arith, same_id, are 0, are 1))))))
tc_frame_judged profile octets word tc_faults.Channel are says e has =
    by_word word words.Channel octets (frame_fields profile octets) e
    (header_fault profile octets words.Channel (frame_check profile.tc.fecf octets)
    (at_row words.Channel octets (frames.header_rows profile octets) 6 (omega arith)
    (differs (slice_index (drop 2 octets) 0 / 2 ^ 2 % 2 ^ 6) profile.tc.vcid
    (λ same_id. says.5 (omega (arith, same_id, are 2, are 3, octet_dropped octets 2))))))
tc_frame_judged profile octets word tc_faults.Kind are says e has =
    by_word word words.Kind octets (frame_fields profile octets) e
    (header_fault profile octets words.Kind (frame_check profile.tc.fecf octets) (kind_fault profile octets are says.1 says.2))
tc_frame_judged profile octets word tc_faults.Content are says e has =
    by_word word words.Content octets (frame_fields profile octets) e (has.content says)

-- a telecommand frame that its reader refuses has a field that does not fit
pub read_fault : (profile : Profile) (octets : List ℕ) (word : Word) (read : Result TcFrame TcFault) → AreOctets octets → ReadsFrame profile octets read
    → Some word ≡ frames.word_of read → ContentFault profile octets
    → HasFault word octets (frame_fields profile octets)
read_fault profile octets word (Ok frame) are says e has = absurd (some≢none e)
read_fault profile octets word (Err fault) are says e has = tc_frame_judged profile octets word fault are says e has

-- ---- telecommand packets

long_packet : (profile : Profile) (octets : List ℕ) → AreOctets octets
    → list_any (fails (Some words.Length) octets) (telecommands.headers profile octets) ≡ false → packets.IsLong octets
long_packet profile octets are none =
    let least = leb-true 13 (length octets) (not-false (nat_le 13 (length octets))
    (fits_at words.Length octets (telecommands.headers profile octets) 0 (omega arith) none)) in
    let told = same (bits_in octets 4 (record { bit = 0; bits = 16 })) (length octets - 7)
    (fits_at words.Length octets (telecommands.headers profile octets) 7 (omega arith) none) in
    record { least = least; told = omega (arith, told, least, pair_value octets 4 are) }

-- version 000, type 1 and a secondary header
header_bits : (first second : ℕ) → first < 2 ^ 8 → second < 2 ^ 8 → first / 2 ^ 5 % 2 ^ 3 ≡ 0 → first / 2 ^ 4 % 2 ^ 1 ≡ 1
    → first / 2 ^ 3 % 2 ^ 1 ≡ 1 → (first * 256 + second) / 2 ^ 11 ≡ 3
header_bits first second f s version kind secondary = omega (arith, f, s, version, kind, secondary)

sound_header : (profile : Profile) (octets : List ℕ) → AreOctets octets
    → list_any (fails (Some words.Header) octets) (telecommands.headers profile octets) ≡ false → HasHeader profile octets
sound_header profile octets are none =
    let at = fits_at words.Header octets (telecommands.headers profile octets) in
    let version = same (slice_index octets 0 / 2 ^ 5 % 2 ^ 3) 0 (at 1 (omega arith) none) in
    let kind = same (slice_index octets 0 / 2 ^ 4 % 2 ^ 1) 1 (at 2 (omega arith) none) in
    let secondary = same (slice_index octets 0 / 2 ^ 3 % 2 ^ 1) 1 (at 3 (omega arith) none) in
    let apid = between 0 (pair_at octets 0 / 2 ^ 0 % 2 ^ 11) 2046 (at 4 (omega arith) none) in
    let flags = same (slice_index (drop 2 octets) 0 / 2 ^ 6 % 2 ^ 2) 3 (at 5 (omega arith) none) in
    let pus = same (slice_index (drop 6 octets) 0 / 2 ^ 4 % 2 ^ 4) 2 (at 8 (omega arith) none) in
    let source = same (bits_in octets 9 (record { bit = 0; bits = 16 })) profile.source (at 15 (omega arith) none) in
    record {
      request = header_bits (slice_index octets 0) (slice_index octets 1) (are 0) (are 1) version kind secondary;
      apid = λ e. absurd (omega (arith, e, apid.1));
      unsegmented = omega (arith, flags, octet_dropped octets 2, are 2, are 3);
      pus = omega (arith, pus, octet_dropped octets 6, are 6);
      source = sym (pair_value octets 9 are) ∙ source;
    }

no_subtype_0 : (value : ℕ) → is_schedule_subtype value ≡ true → value ≡ 0 → ⊥
no_subtype_0 value e zero_is = true≢false (sym e ∙ ap is_schedule_subtype zero_is)

pick_subtype : (is : Bool) (service value : ℕ) → (service == 11) ≡ is
    → not (fits (if is then fit.Scheduled else fit.Between 1 255) value) ≡ false
    → (value ≢ 0) × (service ≡ 11 → IsTrue (is_schedule_subtype value))
pick_subtype true service value e h = let known = not-false (is_schedule_subtype value) h in (no_subtype_0 value known, λ is. known)
pick_subtype false service value e h =
    let range = between 1 value 255 h in
    (λ zero_is. absurd (omega (arith, zero_is, range.0)), λ is. absurd (true≢false (sym (eq-eqb service 11 is) ∙ e)))

scheduled : (service value : ℕ) → not (fits (telecommands.subtype_fit service) value) ≡ false
    → (value ≢ 0) × (service ≡ 11 → IsTrue (is_schedule_subtype value))
scheduled service value e = pick_subtype (service == 11) service value refl e

sound_type : (profile : Profile) (octets : List ℕ) → AreOctets octets
    → list_any (fails (Some words.Subtype) octets) (telecommands.headers profile octets) ≡ false → HasType octets
sound_type profile octets are none =
    let at = fits_at words.Subtype octets (telecommands.headers profile octets) in
    let service = between 1 (bits_in octets 7 (record { bit = 0; bits = 8 })) 255 (at 13 (omega arith) none) in
    let subtype = scheduled (slice_index octets 7) (slice_index octets 8)
    (subst (λ (v : ℕ). not (fits (telecommands.subtype_fit (slice_index octets 7)) v) ≡ false) (octet_value octets 8 are) (at 14 (omega arith) none)) in
    record {
      service = λ e. absurd (omega (arith, e, service.0, octet_value octets 7 are));
      subtype = subtype.0;
      scheduled = subtype.1;
    }

headers_fault : (profile : Profile) (octets : List ℕ) (word : Word) → HasFault word octets (telecommands.headers profile octets)
    → HasFault word octets (telecommand_fields profile octets)
headers_fault profile octets word h =
    in_front word octets (telecommands.headers profile octets ++ telecommands.data_rows profile octets) (packet_check octets ∷ [])
    (in_front word octets (telecommands.headers profile octets) (telecommands.data_rows profile octets) h)

packet_judged : (profile : Profile) (octets : List ℕ) (word : Word) (fault : PacketFault) → AreOctets octets → ReadsPacket profile octets (Err fault)
    → Some word ≡ telecommands.word_of (Err fault) → word ≢ words.Data → HasFault word octets (telecommand_fields profile octets)
packet_judged profile octets word packet_faults.Length are says e not_data =
    by_word word words.Length octets (telecommand_fields profile octets) e
    (headers_fault profile octets words.Length (by_none _ (λ none. says (long_packet profile octets are none))))
packet_judged profile octets word packet_faults.Check are says e not_data =
    by_word word words.Check octets (telecommand_fields profile octets) e
    (behind words.Check octets (telecommands.headers profile octets ++ telecommands.data_rows profile octets) (packet_check octets ∷ [])
    (at_row words.Check octets (packet_check octets ∷ []) 0 (omega arith) (check_row octets are says.1)))
packet_judged profile octets word packet_faults.Header are says e not_data =
    by_word word words.Header octets (telecommand_fields profile octets) e
    (headers_fault profile octets words.Header (by_none _ (λ none. says.2 (sound_header profile octets are none))))
packet_judged profile octets word packet_faults.Subtype are says e not_data =
    by_word word words.Subtype octets (telecommand_fields profile octets) e
    (headers_fault profile octets words.Subtype (by_none _ (λ none. says.3 (sound_type profile octets are none))))
packet_judged profile octets word packet_faults.Data are says e not_data = absurd (not_data (ap (given word) e))

-- a telecommand packet that its reader refuses for its headers or its check has a field that does not fit
pub read_packet_fault : (profile : Profile) (octets : List ℕ) (word : Word) (read : Result Flight PacketFault) → AreOctets octets
    → ReadsPacket profile octets read → Some word ≡ telecommands.word_of read → word ≢ words.Data → HasFault word octets (telecommand_fields profile octets)
read_packet_fault profile octets word (Ok flight) are says e not_data = absurd (some≢none e)
read_packet_fault profile octets word (Err fault) are says e not_data = packet_judged profile octets word fault are says e not_data
