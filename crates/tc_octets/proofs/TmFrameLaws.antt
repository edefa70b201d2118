-- What holds of telemetry frames: a reader finds nothing to say against a frame, and a frame has one content.
use Rattle.std.proofs.Common.{◌≡◌, ℕ, ◌+◌, ◌-◌, ◌*◌, ◌/◌, ◌%◌, ◌^◌, ◌<◌, ◌≤◌, Bool, List, ◌++◌, take, drop, length, get_or, Ok, Err, Option, Some}
use Rattle.std.proofs.Common.{None, refl, sym, ap, ◌∙◌, subst, arith, true}
use Rattle.std.specs.Prelude.{Result, IsErr, IsOkAnd}
use Rattle.std.proofs.lemmas.List.{take_at, drop_at, length-append, append-nil}
use Rattle.tc_octets.specs.Bits.{pair_at}
use Rattle.tc_octets.specs.CrcLaws.{IsDamaged}
use Rattle.tc_octets.specs.TcFrames.{check_length, closed}
use Rattle.tc_octets.specs.TmFrames.{TmParts, tm_parts, four, word_flag, word_octets, tm_header_of, tm_frame_of, IsTmFrame, IsTmLong, IsTmChecked}
use Rattle.tc_octets.specs.TmFrames.{TmReads, TmReadsBack}
use Rattle.tc_octets.specs.declared.profiles.Profile.{Profile}
use Rattle.tc_octets.specs.declared.tm_frames.TmFault.{TmFault}
use Rattle.tc_octets.specs.declared.tm_frames.TmFault.TheVariants as faults
use Rattle.tc_octets.specs.declared.tm_frames.TmFrame.{TmFrame}
use Rattle.tc_octets.proofs.CrcWholeLemmas.{damage_shows}
use Rattle.tc_octets.proofs.TcFrameLemmas.{closed_front, closed_keeps}
use Rattle.tc_octets.proofs.TcFrameLaws.{closed_length, closed_checked, two_are}

-- what a frame has before its check
abbrev front_of : Profile → TmParts → List ℕ
front_of profile parts = tm_header_of profile parts ++ parts.content ++ word_octets parts.word

front_size : (profile : Profile) (parts : TmParts) → length (front_of profile parts) ≡ 6 + length parts.content + length (word_octets parts.word)
front_size profile parts = omega (arith, length-append parts.content (word_octets parts.word))

flag_small : (word : Option ℕ) → word_flag word ≤ 1
flag_small None = omega arith
flag_small (Some w) = omega arith

first_back : (n scid vcid flag : ℕ) → n ≡ scid * 2 ^ 4 + vcid * 2 + flag → scid ≤ 1023 → vcid < 2 ^ 3 → flag ≤ 1
    → (n / 2 ^ 14 ≡ 0) × (n / 2 ^ 4 % 2 ^ 10 ≡ scid)
first_back n scid vcid flag e s v f = (omega arith, omega arith)

-- nothing is said against a frame
pub record TmPasses (profile : Profile) (octets : List ℕ) : Type 0 where
  pub long : IsTmLong profile octets
  pub checked : IsTmChecked profile octets
  pub version : pair_at octets 0 / 2 ^ 14 ≡ 0
  pub spacecraft : pair_at octets 0 / 2 ^ 4 % 2 ^ 10 ≡ profile.scid

pub passes_there : (profile : Profile) (parts : TmParts) → IsTmFrame profile parts → TmPasses profile (tm_frame_of profile parts)
passes_there profile parts h =
    let whole = closed_length profile.tm.fecf (front_of profile parts) in
    let front = front_size profile parts in
    let size = h.long in
    let first =
    two_are (get_or (tm_frame_of profile parts) 0 0) (get_or (tm_frame_of profile parts) 1 0)
    (profile.scid * 2 ^ 4 + parts.vcid * 2 + word_flag parts.word)
    (closed_keeps profile.tm.fecf (front_of profile parts) 0 (omega arith)) (closed_keeps profile.tm.fecf (front_of profile parts) 1 (omega arith)) in
    let back =
    first_back (pair_at (tm_frame_of profile parts) 0) profile.scid parts.vcid (word_flag parts.word) first profile.scid_fits h.vcid
    (flag_small parts.word) in
    record {
      long = omega arith;
      checked = closed_checked profile.tm.fecf (front_of profile parts);
      version = back.0;
      spacecraft = back.1;
    }

closed_same : (fecf : Bool) (x y : List ℕ) → closed fecf x ≡ closed fecf y → x ≡ y
closed_same fecf x y e = sym (closed_front fecf x) ∙ ap (λ l. take (length l - check_length fecf) l) e ∙ closed_front fecf y

pair_same : (n m : ℕ) → n / 256 ≡ m / 256 → n % 256 ≡ m % 256 → n ≡ m
pair_same n m h k = omega arith

vcid_same : (scid v w f g : ℕ) → v < 2 ^ 3 → w < 2 ^ 3 → f ≤ 1 → g ≤ 1 → scid * 2 ^ 4 + v * 2 + f ≡ scid * 2 ^ 4 + w * 2 + g → (v ≡ w) × (f ≡ g)
vcid_same scid v w f g hv hw hf hg e = (omega arith, omega arith)

four_same : (v w : ℕ) → four v ≡ four w → v ≡ w
four_same v w e =
    let high = pair_same (v / 2 ^ 16) (w / 2 ^ 16) (ap (λ (l : List ℕ). get_or l 0 0) e) (ap (λ (l : List ℕ). get_or l 1 0) e) in
    let low = pair_same (v % 2 ^ 16) (w % 2 ^ 16) (ap (λ (l : List ℕ). get_or l 2 0) e) (ap (λ (l : List ℕ). get_or l 3 0) e) in
    omega arith

-- the data field and the control word, where both have a control word or neither
rest_same : (u v : List ℕ) (a b : Option ℕ) → word_flag a ≡ word_flag b → length u + length (word_octets a) ≡ length v + length (word_octets b)
    → u ++ word_octets a ≡ v ++ word_octets b → (u ≡ v) × (a ≡ b)
rest_same u v None None flag size e = (sym (append-nil u) ∙ e ∙ append-nil v, refl)
rest_same u v None (Some w) flag size e = absurd (omega arith)
rest_same u v (Some w) None flag size e = absurd (omega arith)
rest_same u v (Some w) (Some z) flag size e =
    let same : length v ≡ length u = omega arith in (
      sym (take_at u (four w) (length u) refl) ∙ ap (λ l. take (length u) l) e ∙ take_at v (four z) (length u) same,
      ap (λ n. Some n) (four_same w z (sym (drop_at u (four w) (length u) refl) ∙ ap (λ l. drop (length u) l) e
          ∙ drop_at v (four z) (length u) same)),
    )

abbrev made : ℕ → ℕ → ℕ → ℕ → List ℕ → Option ℕ → TmParts
made v m c s l w = record { vcid = v; master_count = m; channel_count = c; status = s; content = l; word = w }

parts_same : (a b : TmParts) → a.vcid ≡ b.vcid → a.master_count ≡ b.master_count → a.channel_count ≡ b.channel_count → a.status ≡ b.status
    → a.content ≡ b.content → a.word ≡ b.word → a ≡ b
parts_same a b v m c s l w =
    ap (λ x. made x a.master_count a.channel_count a.status a.content a.word) v
    ∙ ap (λ x. made b.vcid x a.channel_count a.status a.content a.word) m
    ∙ ap (λ x. made b.vcid b.master_count x a.status a.content a.word) c
    ∙ ap (λ x. made b.vcid b.master_count b.channel_count x a.content a.word) s
    ∙ ap (λ x. made b.vcid b.master_count b.channel_count b.status x a.word) l
    ∙ ap (λ x. made b.vcid b.master_count b.channel_count b.status b.content x) w

-- different frames have different octets
pub tm_differ : (profile : Profile) (a b : TmParts) → IsTmFrame profile a → IsTmFrame profile b → tm_frame_of profile a ≡ tm_frame_of profile b
    → a ≡ b
tm_differ profile a b h k same =
    let e : front_of profile a ≡ front_of profile b = closed_same profile.tm.fecf (front_of profile a) (front_of profile b) same in
    let first =
    pair_same (profile.scid * 2 ^ 4 + a.vcid * 2 + word_flag a.word) (profile.scid * 2 ^ 4 + b.vcid * 2 + word_flag b.word)
    (ap (λ (l : List ℕ). get_or l 0 0) e) (ap (λ (l : List ℕ). get_or l 1 0) e) in
    let channel = vcid_same profile.scid a.vcid b.vcid (word_flag a.word) (word_flag b.word) h.vcid k.vcid (flag_small a.word) (flag_small b.word)
    first in
    let size : length a.content + length (word_octets a.word) ≡ length b.content + length (word_octets b.word) = omega (arith, h.long, k.long) in
    let rest = rest_same a.content b.content a.word b.word channel.1 size (ap (λ (l : List ℕ). drop 6 l) e) in
    parts_same a b channel.0 (ap (λ (l : List ℕ). get_or l 2 0) e) (ap (λ (l : List ℕ). get_or l 3 0) e)
    (pair_same a.status b.status (ap (λ (l : List ℕ). get_or l 4 0) e) (ap (λ (l : List ℕ). get_or l 5 0) e)) rest.0 rest.1

-- what a reader says of the octets of a frame is that frame
pub tm_come_back : (profile : Profile) (parts : TmParts) (read : Result TmFrame TmFault) → IsTmFrame profile parts
    → TmReads profile (tm_frame_of profile parts) read → IsOkAnd read (λ frame. tm_parts frame ≡ parts)
tm_come_back profile parts (Ok frame) h says = tm_differ profile (tm_parts frame) parts says.0 h (sym says.1)
tm_come_back profile parts (Err faults.Length) h says = let passes = passes_there profile parts h in says passes.long
tm_come_back profile parts (Err faults.Check) h says = let passes = passes_there profile parts h in says.1 passes.checked
tm_come_back profile parts (Err faults.Version) h says = let passes = passes_there profile parts h in says.2 passes.version
tm_come_back profile parts (Err faults.Spacecraft) h says = let passes = passes_there profile parts h in says.3 passes.spacecraft

pub reads_back : (profile : Profile) (octets : List ℕ) (read : Result TmFrame TmFault) → TmReads profile octets read
    → TmReadsBack profile octets read
reads_back profile octets read says =
    record { back = λ parts is e. tm_come_back profile parts read is (subst (λ (l : List ℕ). TmReads profile l read) e says) }

pub damaged_refused : (profile : Profile) (octets : List ℕ) (read : Result TmFrame TmFault) → TmReads profile octets read → profile.tm.fecf ≡ true
    → IsDamaged octets → IsErr read
damaged_refused profile octets (Ok frame) says fecf bad =
    let front = front_of profile (tm_parts frame) in
    absurd (damage_shows octets front bad (says.1 ∙ ap (λ (b : Bool). closed b front) fecf))
damaged_refused profile octets (Err fault) says fecf bad = refl
