-- Telecommand transfer frames: octets from their parts, and the parts from the octets.
use Rattle.std.proofs.Common.{◌≡◌, ℕ, suc, ◌+◌, ◌-◌, ◌*◌, ◌/◌, ◌%◌, ◌^◌, ◌<◌, ◌≤◌, Bool, true, false, List, [], ◌∷◌, ◌++◌, take, drop, length, get_or}
use Rattle.std.proofs.Common.{Ok, Err, Some, Result, refl, sym, ap, ◌∙◌, subst, inl, inr, arith}
use Rattle.std.specs.Prelude.{◌⊎◌, ◌≢◌}
use Rattle.std.proofs.lemmas.List.{take_all, take_at, take-append-drop, drop_more, drop_all, length-append, get_or_append_left, length-take}
use Rattle.std.proofs.lemmas.List.{length-drop}
use Rattle.std.proofs.lemmas.Slice.{between_is}
use Rattle.tc_octets.specs.Bits.{pair, pair_at}
use Rattle.tc_octets.specs.Crc.{crc_of}
use Rattle.tc_octets.specs.TcFrames.{Carried, ad, unlock, set_vr, carried_of, check_length, closed, data_field, flags_of, number_of, segment_header}
use Rattle.tc_octets.specs.TcFrames.{header_of, tc_frame_of, IsCarried, IsLong, Passes, HeaderSays, HasPacket, ReadsField, Reads, flags_in}
use Rattle.tc_octets.specs.declared.profiles.TcChannel.{TcChannel}
use Rattle.tc_octets.specs.declared.profiles.Profile.{Profile}
use Rattle.tc_octets.specs.declared.tc_frames.TcFrame.{TcFrame}
use Rattle.tc_octets.specs.declared.tc_frames.TcFault.{TcFault}
use Rattle.tc_octets.specs.declared.tc_frames.TcFault.TheVariants as faults

-- all are octets
abbrev pub AreOctets : List ℕ → Type 0
AreOctets octets = (i : ℕ) → get_or octets i 0 < 2 ^ 8

pub check_small : (fecf : Bool) → check_length fecf ≤ 2
check_small false = omega arith
check_small true = omega arith

five_more : (m : ℕ) → 5 ≤ m → m ≡ suc (suc (suc (suc (suc (m - 5)))))
five_more m h = omega arith

-- a front of octets is its first five and the rest
pub front_split : (octets : List ℕ) (m : ℕ) → 5 ≤ m → m ≤ length octets
    → take m octets ≡ get_or octets 0 0 ∷ get_or octets 1 0 ∷ get_or octets 2 0 ∷ get_or octets 3 0 ∷ get_or octets 4 0 ∷ take (m - 5) (drop 5 octets)
front_split [] m h k = absurd (omega arith)
front_split (a ∷ []) m h k = absurd (omega arith)
front_split (a ∷ b ∷ []) m h k = absurd (omega arith)
front_split (a ∷ b ∷ c ∷ []) m h k = absurd (omega arith)
front_split (a ∷ b ∷ c ∷ d ∷ []) m h k = absurd (omega arith)
front_split (a ∷ b ∷ c ∷ d ∷ e ∷ rest) m h k = ap (λ n. take n (a ∷ b ∷ c ∷ d ∷ e ∷ rest)) (five_more m h)

last_two : (octets : List ℕ) (m : ℕ) → m + 2 ≡ length octets → drop m octets ≡ get_or octets m 0 ∷ get_or octets (m + 1) 0 ∷ []
last_two octets m e =
    drop_more octets m 0 (omega arith)
    ∙ ap (λ l. get_or octets m 0 ∷ l)
    (drop_more octets (m + 1) 0 (omega arith) ∙ ap (λ l. get_or octets (m + 1) 0 ∷ l) (drop_all (m + 1 + 1) octets (omega arith)))

pub pair_back : (a b n : ℕ) → b < 2 ^ 8 → a * 256 + b ≡ n → a ∷ b ∷ [] ≡ pair n
pair_back a b n h e =
    let high : a ≡ n / 256 = omega arith in
    let low : b ≡ n % 256 = omega arith in
    cc

-- octets whose check is right are their front, closed
pub closed_again : (fecf : Bool) (octets : List ℕ) (m : ℕ) → AreOctets octets → m + check_length fecf ≡ length octets
    → (fecf ≡ true → pair_at octets m ≡ crc_of (take m octets)) → octets ≡ closed fecf (take m octets)
closed_again false octets m small e checked = sym (take_all m octets (omega arith))
closed_again true octets m small e checked =
    sym (take-append-drop m octets)
    ∙ ap (λ l. take m octets ++ l)
    (last_two octets m e ∙ pair_back (get_or octets m 0) (get_or octets (m + 1) 0) (crc_of (take m octets)) (small (m + 1)) (checked refl))

-- the check stands where the front ends
pub checked_at : (fecf : Bool) (octets : List ℕ) (m : ℕ) → m + check_length fecf ≡ length octets
    → (fecf ≡ true → pair_at octets (length octets - 2) ≡ crc_of (take (length octets - 2) octets)) → fecf ≡ true
    → pair_at octets m ≡ crc_of (take m octets)
checked_at false octets m e checked there = absurd (cc)
checked_at true octets m e checked there =
    let same : length octets - 2 ≡ m = omega arith in
    subst (λ (n : ℕ). pair_at octets n ≡ crc_of (take n octets)) same (checked there)

-- what is closed has its octets in front
pub closed_front : (fecf : Bool) (octets : List ℕ) → take (length (closed fecf octets) - check_length fecf) (closed fecf octets) ≡ octets
closed_front false octets = take_all (length octets - 0) octets (omega arith)
closed_front true octets = take_at octets (pair (crc_of octets)) (length (octets ++ pair (crc_of octets)) - 2)
    (omega (arith, length-append octets (pair (crc_of octets))))

pub closed_keeps : (fecf : Bool) (octets : List ℕ) (i : ℕ) → i < length octets → get_or (closed fecf octets) i 0 ≡ get_or octets i 0
closed_keeps false octets i h = refl
closed_keeps true octets i h = get_or_append_left octets (pair (crc_of octets)) 0 i h

pub flags_small : (carried : Carried) → flags_of carried ≤ 3
flags_small (ad ns packet) = omega arith
flags_small unlock = omega arith
flags_small (set_vr vr) = omega arith

first_again : (n flags scid : ℕ) → n / 2 ^ 14 ≡ 0 → n / 2 ^ 10 % 2 ^ 2 ≡ 0 → n / 2 ^ 12 % 2 ^ 2 ≡ flags → n % 2 ^ 10 ≡ scid
    → n ≡ flags * 2 ^ 12 + scid
first_again n flags scid version spare kind spacecraft = omega arith

second_again : (n vcid last : ℕ) → n / 2 ^ 10 ≡ vcid → n % 2 ^ 10 ≡ last → n ≡ vcid * 2 ^ 10 + last
second_again n vcid last channel told = omega arith

-- what the header of octets says is the header
pub header_again : (profile : Profile) (carried : Carried) (octets field : List ℕ) → AreOctets octets → Passes profile octets
    → flags_in octets ≡ flags_of carried → get_or octets 4 0 ≡ number_of carried → field ≡ data_field profile.tc carried
    → 5 + length field + check_length profile.tc.fecf ≡ length octets
    → get_or octets 0 0 ∷ get_or octets 1 0 ∷ get_or octets 2 0 ∷ get_or octets 3 0 ∷ get_or octets 4 0 ∷ [] ≡ header_of profile carried
header_again profile carried octets field small passes flags number e long =
    let told : pair_at octets 2 % 2 ^ 10 ≡ 4 + length (data_field profile.tc carried) + check_length profile.tc.fecf =
    omega (arith, passes.long.told, ap length e) in
    let first =
    pair_back (get_or octets 0 0) (get_or octets 1 0) (flags_of carried * 2 ^ 12 + profile.scid) (small 1)
    (first_again (pair_at octets 0) (flags_of carried) profile.scid passes.version.0 passes.version.1 flags passes.spacecraft) in
    let second =
    pair_back (get_or octets 2 0) (get_or octets 3 0)
    (profile.tc.vcid * 2 ^ 10 + (4 + length (data_field profile.tc carried) + check_length profile.tc.fecf)) (small 3)
    (second_again (pair_at octets 2) profile.tc.vcid (4 + length (data_field profile.tc carried) + check_length profile.tc.fecf) passes.channel told)
    in
    ap (λ l. l ++ get_or octets 2 0 ∷ get_or octets 3 0 ∷ get_or octets 4 0 ∷ []) first
    ∙ ap (λ l. pair (flags_of carried * 2 ^ 12 + profile.scid) ++ l ++ get_or octets 4 0 ∷ []) second
    ∙ ap
    (λ n. pair (flags_of carried * 2 ^ 12 + profile.scid)
    ++ pair (profile.tc.vcid * 2 ^ 10 + (4 + length (data_field profile.tc carried) + check_length profile.tc.fecf)) ++ n ∷ [])
    number

-- octets that pass are the frame of what stands in them
pub frame_again : (profile : Profile) (carried : Carried) (octets : List ℕ) (m : ℕ) → AreOctets octets → Passes profile octets
    → m + check_length profile.tc.fecf ≡ length octets
    → flags_in octets ≡ flags_of carried → get_or octets 4 0 ≡ number_of carried → take (m - 5) (drop 5 octets) ≡ data_field profile.tc carried
    → octets ≡ tc_frame_of profile carried
frame_again profile carried octets m small passes long flags number field =
    let least = passes.long.least in
    let room : 5 ≤ m = omega arith in
    let inside : m ≤ length octets = omega arith in
    let split = front_split octets m room inside in
    let size : length (take (m - 5) (drop 5 octets)) ≡ m - 5 = omega (arith, ap length split, length-take m octets) in
    let header = header_again profile carried octets (take (m - 5) (drop 5 octets)) small passes flags number field (omega arith) in
    closed_again profile.tc.fecf octets m small long (checked_at profile.tc.fecf octets m long passes.checked)
    ∙ ap (closed profile.tc.fecf) (split ∙ ap (λ l. l ++ take (m - 5) (drop 5 octets)) header ∙ ap (λ l. header_of profile carried ++ l) field)

-- the parts of a frame
pub record PartsOf (profile : Profile) (octets : List ℕ) (carried : Carried) : Type 0 where
  pub flags : flags_in octets ≡ flags_of carried
  pub number : get_or octets 4 0 ≡ number_of carried
  pub field : take (length octets - check_length profile.tc.fecf - 5) (drop 5 octets) ≡ data_field profile.tc carried

flags_back : (a b flags scid : ℕ) → a ≡ (flags * 2 ^ 12 + scid) / 256 → b ≡ (flags * 2 ^ 12 + scid) % 256 → flags ≤ 3 → scid ≤ 1023
    → (a * 256 + b) / 2 ^ 12 % 2 ^ 2 ≡ flags
flags_back a b flags scid h k small least =
    let whole : a * 256 + b ≡ flags * 2 ^ 12 + scid = omega arith in
    omega arith

pub parts_there : (profile : Profile) (carried : Carried) → profile.scid ≤ 1023 → PartsOf profile (tc_frame_of profile carried) carried
parts_there profile carried h = record {
  flags =
      flags_back (get_or (tc_frame_of profile carried) 0 0) (get_or (tc_frame_of profile carried) 1 0) (flags_of carried) profile.scid
      (closed_keeps profile.tc.fecf (header_of profile carried ++ data_field profile.tc carried) 0 (omega arith))
      (closed_keeps profile.tc.fecf (header_of profile carried ++ data_field profile.tc carried) 1 (omega arith)) (flags_small carried) h;
  number = closed_keeps profile.tc.fecf (header_of profile carried ++ data_field profile.tc carried) 4 (omega arith);
  field =
      between_is (tc_frame_of profile carried) 5 (length (tc_frame_of profile carried) - check_length profile.tc.fecf)
      ∙ ap (λ l. drop 5 l) (closed_front profile.tc.fecf (header_of profile carried ++ data_field profile.tc carried));
}

pub parts_of_frame : (profile : Profile) (carried : Carried) (octets : List ℕ) → profile.scid ≤ 1023 → octets ≡ tc_frame_of profile carried
    → PartsOf profile octets carried
parts_of_frame profile carried octets h e = subst (λ (l : List ℕ). PartsOf profile l carried) (sym e) (parts_there profile carried h)

-- what a frame that passes carries fits
carried_fits : (profile : Profile) (carried : Carried) (octets field : List ℕ) → AreOctets octets → IsLong profile octets → HasPacket carried
    → get_or octets 4 0 ≡ number_of carried → field ≡ data_field profile.tc carried
    → 5 + length field + check_length profile.tc.fecf ≡ length octets → octets ≡ tc_frame_of profile carried → IsCarried profile.tc carried
carried_fits profile (ad ns packet) octets field small long packet_there number e size whole =
    let most = long.most in
    let n = small 4 in
    let parts : length field ≡ length (segment_header profile.tc.map) + length packet =
    ap length e ∙ length-append (segment_header profile.tc.map) packet in
    (omega arith, packet_there, omega arith)
carried_fits profile unlock octets field small long packet_there number e size whole = tt
carried_fits profile (set_vr vr) octets field small long packet_there number e size whole =
    let third : get_or octets 7 0 ≡ vr =
    ap (λ (l : List ℕ). get_or l 7 0) whole ∙ closed_keeps profile.tc.fecf (header_of profile (set_vr vr) ++ data_field profile.tc (set_vr vr)) 7
    (omega arith) in
    let n = small 7 in
    omega arith

kinds_at : (octets : List ℕ) (flags : ℕ) → flags_in octets ≡ flags → (flags ≡ 0) ⊎ (flags ≡ 3) → (flags_in octets ≡ 0) ⊎ (flags_in octets ≡ 3)
kinds_at octets flags told (inl e) = inl (told ∙ e)
kinds_at octets flags told (inr e) = inr (told ∙ e)

packet_of : (channel : TcChannel) (carried : Carried) → IsCarried channel carried → HasPacket carried
packet_of channel (ad ns packet) h = h.1
packet_of channel unlock h = tt
packet_of channel (set_vr vr) h = tt

-- what was read of the data field of a frame that passes, is what the reader says of the frame
pub read_field : (profile : Profile) (octets field : List ℕ) (m flags : ℕ) (read : Result TcFrame TcFault) → AreOctets octets → Passes profile octets
    → m + check_length profile.tc.fecf ≡ length octets → field ≡ take (m - 5) (drop 5 octets)
    → flags_in octets ≡ flags → (flags ≡ 0) ⊎ (flags ≡ 3) → ReadsField profile.tc flags (get_or octets 4 0) field read → Reads profile octets read
read_field profile octets field m flags (Ok frame) small passes long is_field told kinds says =
    let least = passes.long.least in
    let size : length (take (m - 5) (drop 5 octets)) ≡ m - 5 = omega (arith, length-take (m - 5) (drop 5 octets), length-drop 5 octets) in
    let whole : 5 + length field + check_length profile.tc.fecf ≡ length octets = omega (arith, ap length is_field) in
    let again = frame_again profile (carried_of frame) octets m small passes long (told ∙ sym says.0) (sym says.1) (sym is_field ∙ says.2) in
    (carried_fits profile (carried_of frame) octets field small passes.long says.3 (sym says.1) says.2 whole again, again)
read_field profile octets field m flags (Err faults.Content) small passes long is_field told kinds says =
    let same : length octets - check_length profile.tc.fecf ≡ m = omega arith in (
      passes,
      kinds_at octets flags told kinds,
      λ carried is_frame.
          let parts = parts_of_frame profile carried octets profile.scid_fits is_frame.1 in
          says carried (sym parts.flags ∙ told) (sym parts.number) (packet_of profile.tc carried is_frame.0)
          (is_field ∙ ap (λ n. take (n - 5) (drop 5 octets)) (sym same) ∙ parts.field),
    )
read_field profile octets field m flags (Err faults.Length) small passes long is_field told kinds says = absurd says
read_field profile octets field m flags (Err faults.Check) small passes long is_field told kinds says = absurd says
read_field profile octets field m flags (Err faults.Version) small passes long is_field told kinds says = absurd says
read_field profile octets field m flags (Err faults.Spacecraft) small passes long is_field told kinds says = absurd says
read_field profile octets field m flags (Err faults.Channel) small passes long is_field told kinds says = absurd says
read_field profile octets field m flags (Err faults.Kind) small passes long is_field told kinds says = absurd says

pub header_err : (profile : Profile) (octets : List ℕ) (fault : TcFault) → HeaderSays profile octets (Some fault) → Reads profile octets (Err fault)
header_err profile octets faults.Length h = h
header_err profile octets faults.Check h = h
header_err profile octets faults.Version h = h
header_err profile octets faults.Spacecraft h = h
header_err profile octets faults.Channel h = h
header_err profile octets faults.Kind h = absurd h
header_err profile octets faults.Content h = absurd h

-- ---- data fields

-- no packet stands after the segment header
pub ad_without : (channel : TcChannel) (ns : ℕ) (field : List ℕ) → ((packet : List ℕ) → ¬ (field ≡ segment_header channel.map ++ packet))
    → (carried : Carried) → flags_of carried ≡ 0 → number_of carried ≡ ns → HasPacket carried → ¬ (field ≡ data_field channel carried)
ad_without channel ns field none (ad n packet) flags number there e = none packet e
ad_without channel ns field none unlock flags number there e = absurd (omega arith)
ad_without channel ns field none (set_vr vr) flags number there e = absurd (omega arith)

-- the packet after the segment header has no octet
pub ad_empty : (channel : TcChannel) (ns : ℕ) (field packet : List ℕ) → field ≡ segment_header channel.map ++ packet → length packet ≡ 0
    → (carried : Carried) → flags_of carried ≡ 0 → number_of carried ≡ ns → HasPacket carried → ¬ (field ≡ data_field channel carried)
ad_empty channel ns field packet is none (ad n other) flags number there e =
    omega (arith, ap length is, ap length e, length-append (segment_header channel.map) packet, length-append (segment_header channel.map) other)
ad_empty channel ns field packet is none unlock flags number there e = absurd (omega arith)
ad_empty channel ns field packet is none (set_vr vr) flags number there e = absurd (omega arith)

-- a type-BC frame with N(S)
pub control_numbered : (channel : TcChannel) (ns : ℕ) (field : List ℕ) → ns ≢ 0
    → (carried : Carried) → flags_of carried ≡ 3 → number_of carried ≡ ns → HasPacket carried → ¬ (field ≡ data_field channel carried)
control_numbered channel ns field h (ad n packet) flags number there e = absurd (omega arith)
control_numbered channel ns field h unlock flags number there e = h (sym number)
control_numbered channel ns field h (set_vr vr) flags number there e = h (sym number)

-- neither control command
pub control_without : (channel : TcChannel) (ns : ℕ) (field : List ℕ) → ¬ (field ≡ 0 ∷ []) → ((vr : ℕ) → ¬ (field ≡ 0x82 ∷ 0 ∷ vr ∷ []))
    → (carried : Carried) → flags_of carried ≡ 3 → number_of carried ≡ ns → HasPacket carried → ¬ (field ≡ data_field channel carried)
control_without channel ns field unlocks sets (ad n packet) flags number there e = absurd (omega arith)
control_without channel ns field unlocks sets unlock flags number there e = unlocks e
control_without channel ns field unlocks sets (set_vr vr) flags number there e = sets vr e
