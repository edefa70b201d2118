-- What holds of telecommand frames: a reader finds nothing to say against a frame, and a frame has one content.
use Rattle.std.proofs.Common.{◌≡◌, ℕ, ◌+◌, ◌-◌, ◌*◌, ◌/◌, ◌%◌, ◌^◌, ◌<◌, ◌≤◌, Bool, true, false, List, ◌++◌, take, length, get_or, Ok, Err, refl, sym}
use Rattle.std.proofs.Common.{ap, ◌∙◌, subst, arith}
use Rattle.std.specs.Prelude.{Result, IsErr, IsOkAnd}
use Rattle.std.proofs.lemmas.List.{take_at, length-append, append_cancel_left, get_or-append-add}
use Rattle.tc_octets.specs.Bits.{pair, pair_at}
use Rattle.tc_octets.specs.Crc.{crc_of}
use Rattle.tc_octets.specs.CrcLaws.{IsDamaged}
use Rattle.tc_octets.specs.TcFrames.{Carried, ad, unlock, set_vr, carried_of, check_length, closed, data_field, flags_of, segment_header, header_of}
use Rattle.tc_octets.specs.TcFrames.{tc_frame_of, IsCarried, Passes, Reads, ReadsBack}
use Rattle.tc_octets.specs.declared.profiles.TcChannel.{TcChannel}
use Rattle.tc_octets.specs.declared.profiles.Profile.{Profile}
use Rattle.tc_octets.specs.declared.tc_frames.TcFault.{TcFault}
use Rattle.tc_octets.specs.declared.tc_frames.TcFault.TheVariants as faults
use Rattle.tc_octets.specs.declared.tc_frames.TcFrame.{TcFrame}
use Rattle.tc_octets.proofs.CrcWholeLemmas.{damage_shows}
use Rattle.tc_octets.proofs.TcFrameLemmas.{check_small, closed_keeps, flags_small, PartsOf, parts_there, parts_of_frame}

pub closed_length : (fecf : Bool) (octets : List ℕ) → length (closed fecf octets) ≡ length octets + check_length fecf
closed_length false octets = omega arith
closed_length true octets = length-append octets (pair (crc_of octets))

pub two_are : (a b n : ℕ) → a ≡ n / 256 → b ≡ n % 256 → a * 256 + b ≡ n
two_are a b n h k = omega arith

-- a number stands behind octets as it was put there
pair_behind : (octets : List ℕ) (n m : ℕ) → m ≡ length octets → pair_at (octets ++ pair n) m ≡ n
pair_behind octets n m e =
    let here : m ≡ length octets + 0 = omega arith in
    let next : m + 1 ≡ length octets + 1 = omega arith in
    two_are (get_or (octets ++ pair n) m 0) (get_or (octets ++ pair n) (m + 1) 0) n
    (ap (λ i. get_or (octets ++ pair n) i 0) here ∙ get_or-append-add octets (pair n) 0 0)
    (ap (λ i. get_or (octets ++ pair n) i 0) next ∙ get_or-append-add octets (pair n) 1 0)

-- the check of octets that were closed is right
pub closed_checked : (fecf : Bool) (octets : List ℕ) → fecf ≡ true
    → pair_at (closed fecf octets) (length (closed fecf octets) - 2) ≡ crc_of (take (length (closed fecf octets) - 2) (closed fecf octets))
closed_checked false octets there = absurd (cc)
closed_checked true octets there =
    let size : length (octets ++ pair (crc_of octets)) - 2 ≡ length octets = omega (arith, length-append octets (pair (crc_of octets))) in
    pair_behind octets (crc_of octets) (length (octets ++ pair (crc_of octets)) - 2) size
    ∙ ap (λ l. crc_of l) (sym (take_at octets (pair (crc_of octets)) (length (octets ++ pair (crc_of octets)) - 2) (sym size)))

-- the data field of what a frame carries has an octet, and fits
data_fits : (channel : TcChannel) (carried : Carried) → IsCarried channel carried
    → (1 ≤ length (data_field channel carried)) × (5 + length (data_field channel carried) + check_length channel.fecf ≤ 1024)
data_fits channel (ad ns packet) h =
    let there = h.1 in
    let most = h.2 in
    let size = length-append (segment_header channel.map) packet in
    (omega arith, omega arith)
data_fits channel unlock h = let small = check_small channel.fecf in (omega arith, omega arith)
data_fits channel (set_vr vr) h = let small = check_small channel.fecf in (omega arith, omega arith)

-- the two numbers of a frame's header
record HeaderIs (profile : Profile) (carried : Carried) (octets : List ℕ) : Type 0 where
  pub first : pair_at octets 0 ≡ flags_of carried * 2 ^ 12 + profile.scid
  pub second : pair_at octets 2 ≡ profile.tc.vcid * 2 ^ 10 + (4 + length (data_field profile.tc carried) + check_length profile.tc.fecf)

header_there : (profile : Profile) (carried : Carried) → HeaderIs profile carried (tc_frame_of profile carried)
header_there profile carried = record {
  first =
      two_are (get_or (tc_frame_of profile carried) 0 0) (get_or (tc_frame_of profile carried) 1 0) (flags_of carried * 2 ^ 12 + profile.scid)
      (closed_keeps profile.tc.fecf (header_of profile carried ++ data_field profile.tc carried) 0 (omega arith))
      (closed_keeps profile.tc.fecf (header_of profile carried ++ data_field profile.tc carried) 1 (omega arith));
  second =
      two_are (get_or (tc_frame_of profile carried) 2 0) (get_or (tc_frame_of profile carried) 3 0)
      (profile.tc.vcid * 2 ^ 10 + (4 + length (data_field profile.tc carried) + check_length profile.tc.fecf))
      (closed_keeps profile.tc.fecf (header_of profile carried ++ data_field profile.tc carried) 2 (omega arith))
      (closed_keeps profile.tc.fecf (header_of profile carried ++ data_field profile.tc carried) 3 (omega arith));
}

told_back : (n vcid last size : ℕ) → n ≡ vcid * 2 ^ 10 + last → last < 2 ^ 10 → size ≡ last + 1 → (n % 2 ^ 10 + 1 ≡ size) × (n / 2 ^ 10 ≡ vcid)
told_back n vcid last size e h k = (omega arith, omega arith)

first_back : (n flags scid : ℕ) → n ≡ flags * 2 ^ 12 + scid → flags ≤ 3 → scid ≤ 1023
    → (n / 2 ^ 14 ≡ 0) × (n / 2 ^ 10 % 2 ^ 2 ≡ 0) × (n % 2 ^ 10 ≡ scid)
first_back n flags scid e h k = (omega arith, omega arith, omega arith)

-- nothing is said against the header of a frame
passes_there : (profile : Profile) (carried : Carried) → IsCarried profile.tc carried → Passes profile (tc_frame_of profile carried)
passes_there profile carried h =
    let fits = data_fits profile.tc carried h in
    let one = fits.0 in
    let most = fits.1 in
    let size : length (tc_frame_of profile carried) ≡ 5 + length (data_field profile.tc carried) + check_length profile.tc.fecf =
    omega (arith, closed_length profile.tc.fecf (header_of profile carried ++ data_field profile.tc carried)) in
    let header = header_there profile carried in
    let first = first_back (pair_at (tc_frame_of profile carried) 0) (flags_of carried) profile.scid header.first (flags_small carried)
    profile.scid_fits in
    let second =
    told_back (pair_at (tc_frame_of profile carried) 2) profile.tc.vcid (4 + length (data_field profile.tc carried) + check_length profile.tc.fecf)
    (length (tc_frame_of profile carried)) header.second (omega arith) (omega arith) in
    record {
      long = record { least = omega arith; most = omega arith; told = second.0 };
      checked = closed_checked profile.tc.fecf (header_of profile carried ++ data_field profile.tc carried);
      version = (first.0, first.1);
      spacecraft = first.2;
      channel = second.1;
    }

-- octets have the parts of one frame
one_carried : (profile : Profile) (octets : List ℕ) (a b : Carried) → PartsOf profile octets a → PartsOf profile octets b → a ≡ b
one_carried profile octets (ad n p) (ad m q) x y =
    ap (λ k. ad k p) (sym x.number ∙ y.number) ∙ ap (λ l. ad m l) (append_cancel_left (segment_header profile.tc.map) p q (sym x.field ∙ y.field))
one_carried profile octets (ad n p) unlock x y = absurd (omega (arith, x.flags, y.flags))
one_carried profile octets (ad n p) (set_vr w) x y = absurd (omega (arith, x.flags, y.flags))
one_carried profile octets unlock (ad m q) x y = absurd (omega (arith, x.flags, y.flags))
one_carried profile octets unlock unlock x y = refl
one_carried profile octets unlock (set_vr w) x y = absurd (omega (arith, ap length (sym x.field ∙ y.field)))
one_carried profile octets (set_vr v) (ad m q) x y = absurd (omega (arith, x.flags, y.flags))
one_carried profile octets (set_vr v) unlock x y = absurd (omega (arith, ap length (sym x.field ∙ y.field)))
one_carried profile octets (set_vr v) (set_vr w) x y = ap (λ k. set_vr k) (ap (λ (l : List ℕ). get_or l 2 0) (sym x.field ∙ y.field))

-- different frames have different octets
pub frames_differ : (profile : Profile) (a b : Carried) → tc_frame_of profile a ≡ tc_frame_of profile b → a ≡ b
frames_differ profile a b e =
    one_carried profile (tc_frame_of profile a) a b (parts_there profile a profile.scid_fits)
    (parts_of_frame profile b (tc_frame_of profile a) profile.scid_fits e)

-- neither type BD nor the reserved type
no_other_kind : (profile : Profile) (octets : List ℕ) (carried : Carried) → PartsOf profile octets carried
    → (pair_at octets 0 / 2 ^ 12 % 2 ^ 2 ≡ 0 → ⊥) → (pair_at octets 0 / 2 ^ 12 % 2 ^ 2 ≡ 3 → ⊥) → ⊥
no_other_kind profile octets (ad ns packet) parts none three = none parts.flags
no_other_kind profile octets unlock parts none three = three parts.flags
no_other_kind profile octets (set_vr vr) parts none three = three parts.flags

-- what a reader says of the octets of a frame is that frame
pub frames_come_back : (profile : Profile) (carried : Carried) (read : Result TcFrame TcFault) → IsCarried profile.tc carried
    → Reads profile (tc_frame_of profile carried) read → IsOkAnd read (λ frame. carried_of frame ≡ carried)
frames_come_back profile carried (Ok frame) h says = frames_differ profile (carried_of frame) carried (sym says.1)
frames_come_back profile carried (Err faults.Length) h says = let passes = passes_there profile carried h in says passes.long
frames_come_back profile carried (Err faults.Check) h says = let passes = passes_there profile carried h in says.1 passes.checked
frames_come_back profile carried (Err faults.Version) h says = let passes = passes_there profile carried h in says.2 passes.version
frames_come_back profile carried (Err faults.Spacecraft) h says = let passes = passes_there profile carried h in says.4 passes.spacecraft
frames_come_back profile carried (Err faults.Channel) h says = let passes = passes_there profile carried h in says.5 passes.channel
frames_come_back profile carried (Err faults.Kind) h says =
    no_other_kind profile (tc_frame_of profile carried) carried (parts_there profile carried profile.scid_fits) says.1 says.2
frames_come_back profile carried (Err faults.Content) h says = says.2 carried (h, refl)

pub reads_back : (profile : Profile) (octets : List ℕ) (read : Result TcFrame TcFault) → Reads profile octets read → ReadsBack profile octets read
reads_back profile octets read says = record {
  back = λ carried may e. frames_come_back profile carried read may (subst (λ (l : List ℕ). Reads profile l read) e says);
}

pub damaged_refused : (profile : Profile) (octets : List ℕ) (read : Result TcFrame TcFault) → Reads profile octets read → profile.tc.fecf ≡ true
    → IsDamaged octets → IsErr read
damaged_refused profile octets (Ok frame) says fecf bad =
    let front = header_of profile (carried_of frame) ++ data_field profile.tc (carried_of frame) in
    absurd (damage_shows octets front bad (says.1 ∙ ap (λ (b : Bool). closed b front) fecf))
damaged_refused profile octets (Err fault) says fecf bad = refl
