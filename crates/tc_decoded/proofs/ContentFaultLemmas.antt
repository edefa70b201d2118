-- A telecommand frame that its reader refuses for its content has a field that does not fit.
use Rattle.std.proofs.Common.{◌≡◌, ◌≤◌, ◌<◌, ◌^◌, ◌+◌, ◌-◌, ◌/◌, ◌%◌, ℕ, suc, Bool, true, false, List, [], ◌∷◌, ◌++◌, length, drop, take}
use Rattle.std.proofs.Common.{refl, sym, ap, ◌∙◌, subst, inl, inr, arith}
use Rattle.std.specs.Prelude.{Option, Some, None, ◌⊎◌, ◌==◌, ◌&&◌, ◌||◌, not, nat_le, if◌then◌else◌, slice_index}
use Rattle.std.specs.List.{list_any}
use Rattle.std.proofs.lemmas.Bool.{and_parts, cases_Bool, eqb-false, eqb-true, leb-true, not-false, or_parts}
use Rattle.std.proofs.lemmas.List.{drop_more, length-drop, length-take}
use Rattle.std.proofs.lemmas.List.Folds.{list_any-append}
use Rattle.tc_octets.specs.TcFrames.{Carried, IsFrameOf, Passes, ad, check_length, data_field, flags_in, flags_of, number_of, segment_header}
use Rattle.tc_octets.specs.TcFrames.{set_vr, tc_frame_of, unlock}
use Rattle.tc_octets.specs.declared.profiles.Map.{Map}
use Rattle.tc_octets.specs.declared.profiles.Profile.{Profile}
use Rattle.tc_octets.proofs.TcFrameLemmas.{frame_again}
use Rattle.tc_decoded.specs.declared.names.Name.TheVariants as names
use Rattle.tc_decoded.specs.declared.rows.Fit.TheVariants as fit
use Rattle.tc_decoded.specs.declared.rows.Row.{Row}
use Rattle.tc_decoded.specs.declared.rows.Word.TheVariants as words
use Rattle.tc_decoded.specs.Faults.{frame_fields}
use Rattle.tc_decoded.specs.Rows.{bits_in, counted, fails, fits}
use Rattle.tc_decoded.specs.Tables.{frame_check}
use Rattle.tc_decoded.specs.TcFrameLines as frames
use Rattle.tc_decoded.proofs.FaultLemmas.{AreOctets}
use Rattle.tc_decoded.proofs.FieldFaultLemmas.{ContentFault, by_none, fits_at, octet_dropped, octet_value, same}

-- no row of these is at fault
abbrev Sound : List ℕ → List Row → Type 0
Sound octets rows = list_any (fails (Some words.Content) octets) rows ≡ false

apart : (octets : List ℕ) (rows more : List Row) → Sound octets (rows ++ more) → Sound octets rows × Sound octets more
apart octets rows more none =
    or_parts (list_any (fails (Some words.Content) octets) rows) (list_any (fails (Some words.Content) octets) more)
    (sym (list_any-append (fails (Some words.Content) octets) rows more) ∙ none)

-- the octets of a frame before its check
abbrev front_end : Profile → List ℕ → ℕ
front_end profile octets = length octets - check_length profile.tc.fecf

-- the data field
abbrev data_in : Profile → List ℕ → List ℕ
data_in profile octets = take (front_end profile octets - 5) (drop 5 octets)

-- octets that pass are a frame if they have its parts
is_frame : (profile : Profile) (octets : List ℕ) (carried : Carried) → AreOctets octets → Passes profile octets → flags_in octets ≡ flags_of carried
    → slice_index octets 4 ≡ number_of carried → data_in profile octets ≡ data_field profile.tc carried
    → octets ≡ tc_frame_of profile carried
is_frame profile octets carried are passes flags number content =
    let least = passes.long.least in
    frame_again profile carried octets (front_end profile octets) are passes (omega arith) flags number content

-- ---- a control command

-- the first octet of the data field, and the rest of it
first_data : (profile : Profile) (octets : List ℕ) (n : ℕ) → 5 < length octets → front_end profile octets - 5 ≡ suc n
    → data_in profile octets ≡ slice_index octets 5 ∷ take n (drop 6 octets)
first_data profile octets n long e =
    ap (λ (m : ℕ). take m (drop 5 octets)) e ∙ ap (λ (l : List ℕ). take (suc n) l) (drop_more octets 5 0 long)

third_data : (octets : List ℕ) → 7 < length octets → take 2 (drop 6 octets) ≡ slice_index octets 6 ∷ slice_index octets 7 ∷ []
third_data octets long =
    ap (λ (l : List ℕ). take 2 l) (drop_more octets 6 0 (omega arith) ∙ ap (λ (l : List ℕ). slice_index octets 6 ∷ l) (drop_more octets 7 0 long))

is_unlock : (profile : Profile) (octets : List ℕ) → AreOctets octets → Passes profile octets → flags_in octets ≡ 3 → slice_index octets 4 ≡ 0
    → slice_index octets 5 ≡ 0 → frames.field_length profile octets ≡ 1 → IsFrameOf profile octets unlock
is_unlock profile octets are passes flags number first size =
    let least = passes.long.least in (
      tt,
      is_frame profile octets unlock are passes flags number
          (first_data profile octets 0 (omega arith) (omega arith) ∙ ap (λ (n : ℕ). n ∷ []) first),
    )

is_set_vr : (profile : Profile) (octets : List ℕ) → AreOctets octets → Passes profile octets → flags_in octets ≡ 3 → slice_index octets 4 ≡ 0
    → slice_index octets 5 ≡ 0x82 → frames.field_length profile octets ≡ 3 → slice_index octets 6 ≡ 0
    → IsFrameOf profile octets (set_vr (slice_index octets 7))
is_set_vr profile octets are passes flags number first size second =
    let least = passes.long.least in (
      are 7,
      is_frame profile octets (set_vr (slice_index octets 7)) are passes flags number
          (first_data profile octets 2 (omega arith) (omega arith)
          ∙ ap (λ (l : List ℕ). slice_index octets 5 ∷ l) (third_data octets (omega arith))
          ∙ ap (λ (n : ℕ). n ∷ slice_index octets 6 ∷ slice_index octets 7 ∷ []) first
          ∙ ap (λ (n : ℕ). 0x82 ∷ n ∷ slice_index octets 7 ∷ []) second),
    )

-- what a command is, if it is one
command_cases : (profile : Profile) (octets : List ℕ) → frames.is_command profile octets ≡ true
    → ((slice_index octets 5 ≡ 0) × (frames.field_length profile octets ≡ 1))
    ⊎ ((slice_index octets 5 ≡ 0x82) × (frames.field_length profile octets ≡ 3) × (slice_index octets 6 ≡ 0))
command_cases profile octets e =
    elim (cases_Bool ((slice_index octets 5 == 0) && (frames.field_length profile octets == 1))) [
      | inl unlocks ↦ (let parts = and_parts (slice_index octets 5 == 0) (frames.field_length profile octets == 1) unlocks in
          inl (eqb-true (slice_index octets 5) 0 parts.0, eqb-true (frames.field_length profile octets) 1 parts.1))
      | inr other_command ↦ (let other : (frames.is_set_vr profile octets && (slice_index octets 6 == 0)) ≡ true =
          sym (ap (λ (b : Bool). b || (frames.is_set_vr profile octets && (slice_index octets 6 == 0))) other_command) ∙ e in
          let parts = and_parts (frames.is_set_vr profile octets) (slice_index octets 6 == 0) other in
          let set = and_parts (slice_index octets 5 == 0x82) (frames.field_length profile octets == 3) parts.0 in
          inr (eqb-true (slice_index octets 5) 0x82 set.0, eqb-true (frames.field_length profile octets) 3 set.1, eqb-true (slice_index octets 6) 0 parts.1))
    ]

command_there : (profile : Profile) (octets : List ℕ) → AreOctets octets → Passes profile octets → flags_in octets ≡ 3 → slice_index octets 4 ≡ 0
    → frames.is_command profile octets ≡ true → (carried : Carried) × IsFrameOf profile octets carried
command_there profile octets are passes flags number is =
    elim (command_cases profile octets is) [
      | inl one ↦ (unlock, is_unlock profile octets are passes flags number one.0 one.1)
      | inr other ↦ (set_vr (slice_index octets 7), is_set_vr profile octets are passes flags number other.0 other.1 other.2)
    ]

-- ---- a packet

-- a data field that is a segment header and a packet
is_packet : (profile : Profile) (octets packet : List ℕ) → AreOctets octets → Passes profile octets → flags_in octets ≡ 0 → 1 ≤ length packet
    → data_in profile octets ≡ segment_header profile.tc.map ++ packet → length (segment_header profile.tc.map) + length packet ≡ front_end profile octets - 5
    → IsFrameOf profile octets (ad (slice_index octets 4) packet)
is_packet profile octets packet are passes flags some content size =
    let least = passes.long.least in
    let most = passes.long.most in
    let fits_in : 5 + length (segment_header profile.tc.map) + length packet + check_length profile.tc.fecf ≤ 1024 =
    omega (arith, size, least, most) in (
      (are 4, some, fits_in),
      is_frame profile octets (ad (slice_index octets 4) packet) are passes flags refl content,
    )

packet_there : (profile : Profile) (octets : List ℕ) (map : Option Map) → profile.tc.map ≡ map → AreOctets octets → Passes profile octets
    → flags_in octets ≡ 0 → Sound octets (frames.segment_rows map)
    → 1 ≤ length octets - (5 + length (segment_header map)) - check_length profile.tc.fecf
    → (carried : Carried) × IsFrameOf profile octets carried
packet_there profile octets None e are passes flags none some =
    let packet = data_in profile octets in
    let size : length packet ≡ front_end profile octets - 5 =
    omega (arith, length-take (front_end profile octets - 5) (drop 5 octets), length-drop 5 octets) in
    let same_map : segment_header profile.tc.map ≡ [] = ap segment_header e in (
      ad (slice_index octets 4) packet,
      is_packet profile octets packet are passes flags (omega arith) (sym (ap (λ (l : List ℕ). l ++ packet) same_map))
          (omega (arith, ap (λ (l : List ℕ). length l) same_map, size)),
    )
packet_there profile octets (Some map) e are passes flags none some =
    let packet = take (front_end profile octets - 6) (drop 6 octets) in
    let size : length packet ≡ front_end profile octets - 6 =
    omega (arith, length-take (front_end profile octets - 6) (drop 6 octets), length-drop 6 octets) in
    let same_map : segment_header profile.tc.map ≡ (0xc0 + map.id) ∷ [] = ap segment_header e in
    let flags_fit = same (slice_index (drop 5 octets) 0 / 2 ^ 6 % 2 ^ 2) 3
    (fits_at words.Content octets (frames.segment_rows (Some map)) 0 (omega arith) none) in
    let map_fit = same (slice_index (drop 5 octets) 0 / 2 ^ 0 % 2 ^ 6) map.id
    (fits_at words.Content octets (frames.segment_rows (Some map)) 1 (omega arith) none) in
    let header : slice_index octets 5 ≡ 0xc0 + map.id = omega (arith, flags_fit, map_fit, octet_dropped octets 5, are 5) in
    let content = first_data profile octets (front_end profile octets - 6) (omega arith) (omega arith) in (
      ad (slice_index octets 4) packet,
      is_packet profile octets packet are passes flags (omega arith)
          (content ∙ ap (λ (n : ℕ). n ∷ packet) header ∙ sym (ap (λ (l : List ℕ). l ++ packet) same_map))
          (omega (arith, ap (λ (l : List ℕ). length l) same_map, size)),
    )

-- ---- either

-- the flag of a control command, and both flags
control_flags : (octets : List ℕ) → AreOctets octets → (flags_in octets ≡ 0) ⊎ (flags_in octets ≡ 3) → frames.flag_in octets 3 ≡ 1
    → flags_in octets ≡ 3
control_flags octets are (inl e) flag = absurd (omega (arith, e, flag, are 0, are 1))
control_flags octets are (inr e) flag = e

packet_flags : (octets : List ℕ) → AreOctets octets → (flags_in octets ≡ 0) ⊎ (flags_in octets ≡ 3) → (frames.flag_in octets 3 ≡ 1 → ⊥)
    → flags_in octets ≡ 0
packet_flags octets are (inl e) flag = e
packet_flags octets are (inr e) flag = absurd (flag (omega (arith, e, are 0, are 1)))

-- the rows of a frame that has no fault
record Fits (profile : Profile) (octets : List ℕ) : Type 0 where
  pub header : Sound octets (frames.header_rows profile octets)
  pub inner : Sound octets (if frames.is_control octets then frames.control_rows profile octets else frames.segment_rows profile.tc.map)
  pub packet : Sound octets (frames.packet_rows profile octets)

fits_apart : (profile : Profile) (octets : List ℕ) → Sound octets (frame_fields profile octets) → Fits profile octets
fits_apart profile octets none =
    let all = apart octets (frames.front_rows profile octets ++ frames.packet_rows profile octets) (frame_check profile.tc.fecf octets) none in
    let front = apart octets (frames.front_rows profile octets) (frames.packet_rows profile octets) all.0 in
    let parts =
    apart octets (frames.header_rows profile octets)
    (if frames.is_control octets then frames.control_rows profile octets else frames.segment_rows profile.tc.map) front.0 in
    record { header = parts.0; inner = parts.1; packet = front.1 }

-- a control command has no number
number_zero : (profile : Profile) (octets : List ℕ) → AreOctets octets → frames.is_control octets ≡ true
    → Sound octets (frames.header_rows profile octets) → slice_index octets 4 ≡ 0
number_zero profile octets are is none =
    let value : ℕ = bits_in octets 4 (record { bit = 0; bits = 8 }) in
    let row : not (fits (if frames.is_control octets then fit.Is 0 else fit.Any) value) ≡ false =
    fits_at words.Content octets (frames.header_rows profile octets) 8 (omega arith) none in
    let zero_fits : not (value == 0) ≡ false = subst (λ (b : Bool). not (fits (if b then fit.Is 0 else fit.Any) value) ≡ false) is row in
    sym (octet_value octets 4 are) ∙ same value 0 zero_fits

sound_command : (profile : Profile) (octets : List ℕ) → frames.is_control octets ≡ true → AreOctets octets → Passes profile octets
    → (flags_in octets ≡ 0) ⊎ (flags_in octets ≡ 3) → Fits profile octets → (carried : Carried) × IsFrameOf profile octets carried
sound_command profile octets is are passes kinds rows =
    let control : Sound octets (frames.control_rows profile octets) =
    subst (λ (b : Bool). Sound octets (if b then frames.control_rows profile octets else frames.segment_rows profile.tc.map)) is rows.inner in
    let command : not (frames.is_command profile octets) ≡ false =
    fits_at words.Content octets (frames.control_rows profile octets) 0 (omega arith) control in
    command_there profile octets are passes (control_flags octets are kinds (eqb-true (frames.flag_in octets 3) 1 is))
    (number_zero profile octets are is rows.header) (not-false (frames.is_command profile octets) command)

sound_packet : (profile : Profile) (octets : List ℕ) → frames.is_control octets ≡ false → AreOctets octets → Passes profile octets
    → (flags_in octets ≡ 0) ⊎ (flags_in octets ≡ 3) → Fits profile octets → (carried : Carried) × IsFrameOf profile octets carried
sound_packet profile octets is are passes kinds rows =
    let segment : Sound octets (frames.segment_rows profile.tc.map) =
    subst (λ (b : Bool). Sound octets (if b then frames.control_rows profile octets else frames.segment_rows profile.tc.map)) is rows.inner in
    let packet : Sound octets (counted names.Packet (frames.packet_at profile) (frames.packet_length profile octets) words.Content (fit.Least 1) ∷ []) =
    subst (λ (b : Bool). Sound octets (if b then [] else counted names.Packet (frames.packet_at profile) (frames.packet_length profile octets)
    words.Content (fit.Least 1) ∷ [])) is rows.packet in
    let some = leb-true 1 (frames.packet_length profile octets) (not-false (nat_le 1 (frames.packet_length profile octets))
    (fits_at words.Content octets (counted names.Packet (frames.packet_at profile) (frames.packet_length profile octets) words.Content (fit.Least 1)
    ∷ []) 0 (omega arith) packet)) in
    packet_there profile octets profile.tc.map refl are passes (packet_flags octets are kinds (eqb-false (frames.flag_in octets 3) 1 is)) segment some

pub content_fault : (profile : Profile) (octets : List ℕ) → AreOctets octets → ContentFault profile octets
content_fault profile octets are = record {
  content =
      λ says. by_none _ (λ none.
      let rows = fits_apart profile octets none in
      let there : (carried : Carried) × IsFrameOf profile octets carried = elim (cases_Bool (frames.is_control octets)) [
        | inl is ↦ sound_command profile octets is are says.0 says.1 rows
        | inr is ↦ sound_packet profile octets is are says.0 says.1 rows
      ] in
      says.2 there.0 there.1);
}
