-- Telemetry transfer frames: octets that pass are the frame of what stands in them.
use Rattle.std.proofs.Common.{◌≡◌, ℕ, zero, suc, ◌+◌, ◌-◌, ◌*◌, ◌/◌, ◌%◌, ◌^◌, ◌<◌, ◌≤◌, List, [], ◌∷◌, ◌++◌, take, drop, length, get_or, Option}
use Rattle.std.proofs.Common.{refl, sym, ap, ◌∙◌, subst, arith}
use Rattle.std.specs.Prelude.{IfSome, slice_range}
use Rattle.std.proofs.Math.Seq.{take-add}
use Rattle.std.proofs.lemmas.List.{append-nil, drop_more, length-take, length-drop, drop-drop}
use Rattle.tc_octets.specs.Bits.{pair, pair_at}
use Rattle.tc_octets.specs.TcFrames.{check_length, closed}
use Rattle.tc_octets.specs.TmFrames.{TmParts, four, word_flag, word_octets, word_at, data_end, tm_header_of, tm_frame_of, IsTmFrame, IsTmLong}
use Rattle.tc_octets.specs.TmFrames.{IsTmChecked, TmPartsIn, tm_version_in, tm_scid_in}
use Rattle.tc_octets.specs.declared.profiles.Profile.{Profile}
use Rattle.tc_octets.proofs.TcFrameLemmas.{AreOctets, check_small, checked_at, closed_again, pair_back}

six_more : (m : ℕ) → 6 ≤ m → m ≡ suc (suc (suc (suc (suc (suc (m - 6))))))
six_more m h = omega arith

-- a front of octets is its first six and the rest
six_split : (octets : List ℕ) (m : ℕ) → 6 ≤ m → m ≤ length octets
    → take m octets ≡ get_or octets 0 0 ∷ get_or octets 1 0 ∷ get_or octets 2 0 ∷ get_or octets 3 0 ∷ get_or octets 4 0 ∷ get_or octets 5 0
    ∷ take (m - 6) (drop 6 octets)
six_split [] m h k = absurd (omega arith)
six_split (a ∷ []) m h k = absurd (omega arith)
six_split (a ∷ b ∷ []) m h k = absurd (omega arith)
six_split (a ∷ b ∷ c ∷ []) m h k = absurd (omega arith)
six_split (a ∷ b ∷ c ∷ d ∷ []) m h k = absurd (omega arith)
six_split (a ∷ b ∷ c ∷ d ∷ e ∷ []) m h k = absurd (omega arith)
six_split (a ∷ b ∷ c ∷ d ∷ e ∷ f ∷ rest) m h k = ap (λ n. take n (a ∷ b ∷ c ∷ d ∷ e ∷ f ∷ rest)) (six_more m h)

four_back : (a b c d number : ℕ) → a < 2 ^ 8 → b < 2 ^ 8 → c < 2 ^ 8 → d < 2 ^ 8 → number ≡ (a * 256 + b) * 65536 + (c * 256 + d)
    → a ∷ b ∷ c ∷ d ∷ [] ≡ four number
four_back a b c d number ha hb hc hd e =
    let high : a * 256 + b ≡ number / 2 ^ 16 = omega arith in
    let low : c * 256 + d ≡ number % 2 ^ 16 = omega arith in
    ap (λ l. l ++ c ∷ d ∷ []) (pair_back a b (number / 2 ^ 16) hb high)
    ∙ ap (λ l. pair (number / 2 ^ 16) ++ l) (pair_back c d (number % 2 ^ 16) hd low)

four_last : (octets : List ℕ) (k : ℕ) → k + 4 ≤ length octets
    → take 4 (drop k octets) ≡ get_or octets k 0 ∷ get_or octets (k + 1) 0 ∷ get_or octets (k + 2) 0 ∷ get_or octets (k + 2 + 1) 0 ∷ []
four_last octets k h =
    let third : k + 1 + 1 ≡ k + 2 = omega arith in
    ap (take 4)
    (drop_more octets k 0 (omega arith)
    ∙ ap (λ l. get_or octets k 0 ∷ l)
    (drop_more octets (k + 1) 0 (omega arith)
    ∙ ap (λ l. get_or octets (k + 1) 0 ∷ l)
    (ap (λ n. drop n octets) third
    ∙ drop_more octets (k + 2) 0 (omega arith)
    ∙ ap (λ l. get_or octets (k + 2) 0 ∷ l) (drop_more octets (k + 2 + 1) 0 (omega arith)))))

taken_size : (octets : List ℕ) (e : ℕ) → 6 ≤ e → e ≤ length octets → length (slice_range octets 6 e) ≡ e - 6
taken_size octets e h k = omega (arith, length-take (e - 6) (drop 6 octets), length-drop 6 octets)

vcid_fits : (vcid n : ℕ) → vcid ≡ n / 2 % 2 ^ 3 → vcid < 2 ^ 3
vcid_fits vcid n e = omega arith

-- the data field, and the control word where there is one
rest_split : (octets : List ℕ) (word : Option ℕ) (flag m e : ℕ) → AreOctets octets → flag ≤ 1 → word ≡ word_at octets flag e → 6 ≤ e
    → m ≤ length octets → m ≡ e + flag * 4
    → take (m - 6) (drop 6 octets) ≡ take (e - 6) (drop 6 octets) ++ word_octets word
rest_split octets word zero m e small one is h k size =
    let same : m ≡ e = omega arith in
    ap (λ n. take (n - 6) (drop 6 octets)) same
    ∙ sym (append-nil (take (e - 6) (drop 6 octets)))
    ∙ ap (λ w. take (e - 6) (drop 6 octets) ++ word_octets w) (sym is)
rest_split octets word (suc zero) m e small one is h k size =
    let parts : m - 6 ≡ (e - 6) + 4 = omega arith in
    let place : 6 + (e - 6) ≡ e = omega arith in
    let inside : e + 4 ≤ length octets = omega arith in
    ap (λ n. take n (drop 6 octets)) parts
    ∙ take-add (e - 6) 4 (drop 6 octets)
    ∙ ap (λ l. take (e - 6) (drop 6 octets) ++ take 4 l) (drop-drop (e - 6) 6 octets ∙ ap (λ n. drop n octets) place)
    ∙ ap (λ l. take (e - 6) (drop 6 octets) ++ l)
    (four_last octets e inside
    ∙ four_back (get_or octets e 0) (get_or octets (e + 1) 0) (get_or octets (e + 2) 0) (get_or octets (e + 2 + 1) 0)
    (pair_at octets e * 2 ^ 16 + pair_at octets (e + 2))
    (small e) (small (e + 1)) (small (e + 2)) (small (e + 2 + 1)) refl)
    ∙ ap (λ w. take (e - 6) (drop 6 octets) ++ word_octets w) (sym is)
rest_split octets word (suc (suc n)) m e small one is h k size = absurd (omega arith)

-- the flag says whether there is a control word, which has four octets
flag_is : (octets : List ℕ) (flag e : ℕ) → flag ≤ 1 → word_flag (word_at octets flag e) ≡ flag
flag_is octets zero e one = refl
flag_is octets (suc zero) e one = refl
flag_is octets (suc (suc n)) e one = absurd (omega arith)

word_size : (octets : List ℕ) (flag e : ℕ) → flag ≤ 1 → length (word_octets (word_at octets flag e)) ≡ flag * 4
word_size octets zero e one = refl
word_size octets (suc zero) e one = refl
word_size octets (suc (suc n)) e one = absurd (omega arith)

pair_fits : (octets : List ℕ) (i : ℕ) → AreOctets octets → pair_at octets i < 2 ^ 16
pair_fits octets i small =
    let a = small i in
    let b = small (i + 1) in
    omega arith

word_fits : (octets : List ℕ) (flag e : ℕ) → flag ≤ 1 → AreOctets octets → IfSome (word_at octets flag e) (λ w. w < 2 ^ 32)
word_fits octets zero e one small = tt
word_fits octets (suc zero) e one small =
    let high = pair_fits octets e small in
    let low = pair_fits octets (e + 2) small in
    omega arith
word_fits octets (suc (suc n)) e one small = absurd (omega arith)

first_again : (n scid vcid flag : ℕ) → n / 2 ^ 14 ≡ 0 → n / 2 ^ 4 % 2 ^ 10 ≡ scid → vcid ≡ n / 2 % 2 ^ 3 → flag ≡ n % 2
    → n ≡ scid * 2 ^ 4 + vcid * 2 + flag
first_again n scid vcid flag version spacecraft channel told = omega arith

-- the six octets of the header
tm_header_again : (profile : Profile) (parts : TmParts) (octets : List ℕ) → AreOctets octets → tm_version_in octets ≡ 0
    → tm_scid_in octets ≡ profile.scid
    → TmPartsIn profile octets parts → word_flag parts.word ≡ pair_at octets 0 % 2
    → get_or octets 0 0 ∷ get_or octets 1 0 ∷ get_or octets 2 0 ∷ get_or octets 3 0 ∷ get_or octets 4 0 ∷ get_or octets 5 0 ∷ []
    ≡ tm_header_of profile parts
tm_header_again profile parts octets small version scid inside flag =
    let first =
    pair_back (get_or octets 0 0) (get_or octets 1 0) (profile.scid * 2 ^ 4 + parts.vcid * 2 + word_flag parts.word) (small 1)
    (first_again (pair_at octets 0) profile.scid parts.vcid (word_flag parts.word) version scid inside.vcid flag) in
    let third = pair_back (get_or octets 4 0) (get_or octets 5 0) parts.status (small 5) (sym inside.status) in
    ap (λ l. l ++ get_or octets 2 0 ∷ get_or octets 3 0 ∷ get_or octets 4 0 ∷ get_or octets 5 0 ∷ []) first
    ∙ ap (λ l. pair (profile.scid * 2 ^ 4 + parts.vcid * 2 + word_flag parts.word) ++ get_or octets 2 0 ∷ get_or octets 3 0 ∷ l) third
    ∙ ap (λ n. pair (profile.scid * 2 ^ 4 + parts.vcid * 2 + word_flag parts.word) ++ n ∷ get_or octets 3 0 ∷ pair parts.status)
    (sym inside.master_count)
    ∙ ap (λ n. pair (profile.scid * 2 ^ 4 + parts.vcid * 2 + word_flag parts.word) ++ parts.master_count ∷ n ∷ pair parts.status)
    (sym inside.channel_count)

-- octets that pass, and of which the parts are these, are the frame of these parts
pub tm_again : (profile : Profile) (parts : TmParts) (octets : List ℕ) → AreOctets octets → IsTmLong profile octets → IsTmChecked profile octets
    → tm_version_in octets ≡ 0 → tm_scid_in octets ≡ profile.scid → TmPartsIn profile octets parts
    → IsTmFrame profile parts × (octets ≡ tm_frame_of profile parts)
tm_again profile parts octets small long checked version scid inside =
    let size : length octets ≡ profile.tm.length = long in
    let one : pair_at octets 0 % 2 ≤ 1 = omega arith in
    let least = profile.tm.length_stands in
    let check = check_small profile.tm.fecf in
    let room : 6 ≤ data_end profile octets = omega arith in
    let whole : (length octets - check_length profile.tm.fecf) + check_length profile.tm.fecf ≡ length octets = omega arith in
    let split : length octets - check_length profile.tm.fecf ≡ data_end profile octets + pair_at octets 0 % 2 * 4 = omega arith in
    let flagged : word_flag parts.word ≡ pair_at octets 0 % 2 =
    ap word_flag inside.word ∙ flag_is octets (pair_at octets 0 % 2) (data_end profile octets) one in
    let worded : length (word_octets parts.word) ≡ pair_at octets 0 % 2 * 4 =
    ap (λ w. length (word_octets w)) inside.word ∙ word_size octets (pair_at octets 0 % 2) (data_end profile octets) one in
    let sized : length parts.content ≡ data_end profile octets - 6 =
    ap length inside.content ∙ taken_size octets (data_end profile octets) room (omega arith) in
    let master = small 2 in
    let channel = small 3 in (
      record {
        vcid = vcid_fits parts.vcid (pair_at octets 0) inside.vcid;
        master_count = omega (arith, inside.master_count);
        channel_count = omega (arith, inside.channel_count);
        status = subst (λ (n : ℕ). n < 2 ^ 16) (sym inside.status) (pair_fits octets 4 small);
        word = subst (λ (w : Option ℕ). IfSome w (λ (n : ℕ). n < 2 ^ 32)) (sym inside.word)
            (word_fits octets (pair_at octets 0 % 2) (data_end profile octets) one small);
        long = omega arith;
      },
      closed_again profile.tm.fecf octets (length octets - check_length profile.tm.fecf) small whole
          (checked_at profile.tm.fecf octets (length octets - check_length profile.tm.fecf) whole checked)
          ∙ ap (closed profile.tm.fecf)
          (six_split octets (length octets - check_length profile.tm.fecf) (omega arith) (omega arith)
          ∙ ap (λ l. get_or octets 0 0 ∷ get_or octets 1 0 ∷ get_or octets 2 0 ∷ get_or octets 3 0 ∷ get_or octets 4 0 ∷ get_or octets 5 0 ∷ l)
          (rest_split octets parts.word (pair_at octets 0 % 2) (length octets - check_length profile.tm.fecf) (data_end profile octets) small one
          inside.word room (omega arith) split
          ∙ ap (λ l. l ++ word_octets parts.word) (sym inside.content))
          ∙ ap (λ l. l ++ parts.content ++ word_octets parts.word) (tm_header_again profile parts octets small version scid inside flagged)),
    )
