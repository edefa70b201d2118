-- Frames that carry packets: their lengths, their pointers, and what a loop adds.
use Rattle.std.proofs.Common.{◌≡◌, ℕ, ◌+◌, ◌-◌, ◌*◌, ◌/◌, ◌<◌, ◌≤◌, Bool, true, false, List, [], ◌∷◌, ◌++◌, Vec, map, take, drop, length, get_or}
use Rattle.std.proofs.Common.{refl, sym, ap, ◌∙◌, arith, append_assoc}
use Rattle.std.specs.Prelude.{◌&&◌, ◌==◌, nat_le, nat_lt}
use Rattle.std.specs.List.{concat, range_with_len}
use Rattle.std.proofs.Math.Nat.{mul-le-mul_right}
use Rattle.std.proofs.lemmas.List.FromFn.{map-range_with_len_more}
use Rattle.std.proofs.lemmas.Bool.{and_from, and_left, and_right, cond-true, cond-false, le-leb, le-ltb, lt-leb, lt-ltb}
use Rattle.std.proofs.lemmas.List.{append-nil, at_drop_more, length-append, map_more, map_push}
use Rattle.tc_octets.specs.TcFrames.{check_length}
use Rattle.tc_octets.specs.TmFrames.{TmParts}
use Rattle.tc_octets.specs.declared.profiles.Profile.{Profile}
use Rattle.tc_packets.specs.Carriers.{carriers, carrying, data_length, fill_of, filled, frame_after, frames_of, octets_of, pointer_in, starts}
use Rattle.tc_packets.specs.declared.tm_senders.TmSender.{TmSender}

check_few : (fecf : Bool) → check_length fecf ≤ 2
check_few true = omega arith
check_few false = omega arith

-- a frame with a control word has the length of the link's frames
pub frame_length : (profile : Profile) (content : List ℕ) → length content ≡ data_length profile
    → 6 + length content + 4 + check_length profile.tm.fecf ≡ profile.tm.length
frame_length profile content e =
    let few = check_few profile.tm.fecf in
    let stands = profile.tm.length_stands in
    omega arith

pub record DataBounds (size : ℕ) : Type 0 where
  pub least : 20 ≤ size
  pub most : size ≤ 2038

pub data_bounds : (profile : Profile) → DataBounds (data_length profile)
data_bounds profile =
    let few = check_few profile.tm.fecf in
    let stands = profile.tm.length_stands in
    let fits = profile.tm.length_fits in
    record { least = omega arith; most = omega arith }

-- ---- packets one after the other

concat_push : (packets : List (List ℕ)) (packet : List ℕ) → concat (packets ++ packet ∷ []) ≡ concat packets ++ packet
concat_push [] packet = append-nil packet
concat_push (first ∷ packets) packet = ap (λ l. first ++ l) (concat_push packets packet) ∙ sym (append_assoc first (concat packets) packet)

starts_push : (at : ℕ) (packets : List (List ℕ)) (packet : List ℕ)
    → starts at (packets ++ packet ∷ []) ≡ starts at packets ++ (at + length (concat packets)) ∷ []
starts_push at [] packet = ap (λ n. n ∷ []) (omega arith)
starts_push at (first ∷ packets) packet =
    ap (λ l. at ∷ l)
    (starts_push (at + length first) packets packet
    ∙ ap (λ n. starts (at + length first) packets ++ n ∷ []) (omega (arith, length-append first (concat packets))))

one_more : {A : Type 0} (packets : List (Vec ℕ A)) (i : ℕ) (packet : Vec ℕ A) → i < length packets → packet ≡ get_or packets i packet
    → map octets_of (take (i + 1) packets) ≡ map octets_of (take i packets) ++ octets_of packet ∷ []
one_more packets i packet h e = map_more octets_of packets i packet h
    ∙ ap (λ (v : Vec ℕ _). map octets_of (take i packets) ++ octets_of v ∷ []) (sym e)

pub octets_more : {A : Type 0} (packets : List (Vec ℕ A)) (i : ℕ) (packet : Vec ℕ A) (joined : List ℕ) → i < length packets
    → packet ≡ get_or packets i packet → joined ≡ concat (map octets_of (take i packets))
    → joined ++ packet.items ≡ concat (map octets_of (take (i + 1) packets))
octets_more packets i packet joined h e same =
    ap (λ l. l ++ packet.items) same
    ∙ sym (ap concat (one_more packets i packet h e) ∙ concat_push (map octets_of (take i packets)) packet.items)

pub places_more : {A : Type 0} (packets : List (Vec ℕ A)) (i : ℕ) (packet : Vec ℕ A) (joined places : List ℕ) → i < length packets
    → packet ≡ get_or packets i packet → joined ≡ concat (map octets_of (take i packets)) → places ≡ starts 0 (map octets_of (take i packets))
    → places ++ length joined ∷ [] ≡ starts 0 (map octets_of (take (i + 1) packets))
places_more packets i packet joined places h e same start =
    let here : length joined ≡ 0 + length (concat (map octets_of (take i packets))) = omega (arith, ap (λ (l : List ℕ). length l) same) in
    ap (λ l. l ++ length joined ∷ []) start
    ∙ ap (λ n. starts 0 (map octets_of (take i packets)) ++ n ∷ []) here
    ∙ sym (ap (starts 0) (one_more packets i packet h e) ∙ starts_push 0 (map octets_of (take i packets)) packet.items)

-- ---- packets and their fill

pub concat_append : (xs ys : List (List ℕ)) → concat (xs ++ ys) ≡ concat xs ++ concat ys
concat_append [] ys = refl
concat_append (x ∷ xs) ys = ap (λ l. x ++ l) (concat_append xs ys) ∙ sym (append_assoc x (concat xs) (concat ys))

starts_append : (at : ℕ) (xs ys : List (List ℕ)) → starts at (xs ++ ys) ≡ starts at xs ++ starts (at + length (concat xs)) ys
starts_append at [] ys = ap (λ n. starts n ys) (omega arith)
starts_append at (x ∷ xs) ys =
    ap (λ l. at ∷ l)
    (starts_append (at + length x) xs ys
    ∙ ap (λ n. starts (at + length x) xs ++ starts n ys) (omega (arith, length-append x (concat xs))))

pub octets_filled : (packets : List (List ℕ)) (size : ℕ) (joined all : List ℕ) → joined ≡ concat packets
    → all ≡ joined ++ concat (fill_of size (length joined))
    → all ≡ concat (filled size packets)
octets_filled packets size joined all e f =
    f
    ∙ ap (λ l. l ++ concat (fill_of size (length l))) e
    ∙ sym (concat_append packets (fill_of size (length (concat packets))))

pub places_filled : (packets : List (List ℕ)) (size : ℕ) (joined places all : List ℕ) → joined ≡ concat packets → places ≡ starts 0 packets
    → all ≡ places ++ starts (length joined) (fill_of size (length joined)) → all ≡ starts 0 (filled size packets)
places_filled packets size joined places all e f h =
    let zero_more : length (concat packets) ≡ 0 + length (concat packets) = omega arith in
    h
    ∙ ap (λ l. l ++ starts (length joined) (fill_of size (length joined))) f
    ∙ ap (λ l. starts 0 packets ++ starts (length l) (fill_of size (length l))) e
    ∙ ap (λ n. starts 0 packets ++ starts n (fill_of size (length (concat packets)))) zero_more
    ∙ sym (starts_append 0 packets (fill_of size (length (concat packets))))

-- ---- the first header pointer

abbrev pub is_in : ℕ → ℕ → ℕ → Bool
is_in begin size start = nat_le begin start && nat_lt start (begin + size)

pub pointer_first : (begin size start : ℕ) (more : List ℕ) → is_in begin size start ≡ true → pointer_in begin size (start ∷ more) ≡ start - begin
pointer_first begin size start more e = cond-true (is_in begin size start) (start - begin) (pointer_in begin size more) e

pub pointer_next : (begin size start : ℕ) (more : List ℕ) → is_in begin size start ≡ false
    → pointer_in begin size (start ∷ more) ≡ pointer_in begin size more
pointer_next begin size start more e = cond-false (is_in begin size start) (start - begin) (pointer_in begin size more) e

pub is_inside : (begin size start : ℕ) → begin ≤ start → start < begin + size → is_in begin size start ≡ true
is_inside begin size start low high = and_from (nat_le begin start) (nat_lt start (begin + size)) (le-leb begin start low)
    (lt-ltb start (begin + size) high)

pub is_before : (begin size start : ℕ) → start < begin → is_in begin size start ≡ false
is_before begin size start h = and_left (nat_le begin start) (nat_lt start (begin + size)) (lt-leb begin start h)

pub is_behind : (begin size start : ℕ) → begin + size ≤ start → is_in begin size start ≡ false
is_behind begin size start h = and_right (nat_le begin start) (nat_lt start (begin + size)) (le-ltb start (begin + size) h)

pub here : (places : List ℕ) (begin size at : ℕ) → pointer_in begin size places ≡ pointer_in begin size (drop at places) → at < length places
    → begin ≤ get_or places at 0 → get_or places at 0 < begin + size → get_or places at 0 - begin ≡ pointer_in begin size places
here places begin size at same h low high =
    sym
    (same
    ∙ at_drop_more (pointer_in begin size) places at 0 h
    ∙ pointer_first begin size (get_or places at 0) (drop (at + 1) places) (is_inside begin size (get_or places at 0) low high))

pub before : (places : List ℕ) (begin size at : ℕ) → pointer_in begin size places ≡ pointer_in begin size (drop at places) → at < length places
    → get_or places at 0 < begin → pointer_in begin size places ≡ pointer_in begin size (drop (at + 1) places)
before places begin size at same h low =
    same
    ∙ at_drop_more (pointer_in begin size) places at 0 h
    ∙ pointer_next begin size (get_or places at 0) (drop (at + 1) places) (is_before begin size (get_or places at 0) low)

pub after : (places : List ℕ) (begin size at : ℕ) → pointer_in begin size places ≡ pointer_in begin size (drop at places) → at < length places
    → begin + size ≤ get_or places at 0 → pointer_in begin size places ≡ pointer_in begin size (drop (at + 1) places)
after places begin size at same h high =
    same
    ∙ at_drop_more (pointer_in begin size) places at 0 h
    ∙ pointer_next begin size (get_or places at 0) (drop (at + 1) places) (is_behind begin size (get_or places at 0) high)

-- ---- the frames

pub turn_fits : (count size octets : ℕ) → 0 < size → count < octets / size → count * size + size ≤ octets
turn_fits count size octets some h =
    let whole : size * (octets / size) ≤ octets = omega arith in
    let turns : (count + 1) * size ≤ octets / size * size = mul-le-mul_right size (omega arith) in
    omega arith

frame_same : (profile : Profile) (sender : TmSender) (word count pointer other : ℕ) (content more : List ℕ) → pointer ≡ other → content ≡ more
    → frame_after profile sender word count pointer content ≡ frame_after profile sender word count other more
frame_same profile sender word count pointer other content more e f =
    ap (λ n. frame_after profile sender word count n content) e ∙ ap (λ l. frame_after profile sender word count other l) f

-- the frame of a turn
pub turn_is : (profile : Profile) (sender : TmSender) (word count pointer size : ℕ) (octets places : List ℕ) → size ≡ data_length profile
    → pointer ≡ pointer_in (count * size) size places
    → frame_after profile sender word count pointer (take (count * size + size - count * size) (drop (count * size) octets))
    ≡ carrying profile sender word octets places count
turn_is profile sender word count pointer size octets places e f =
    let left : count * size + size - count * size ≡ size = omega arith in
    frame_same profile sender word count pointer (pointer_in (count * size) size places)
    (take (count * size + size - count * size) (drop (count * size) octets))
    (take size (drop (count * size) octets)) f (ap (λ n. take n (drop (count * size) octets)) left)
    ∙ ap (λ n. frame_after profile sender word count (pointer_in (count * n) n places) (take n (drop (count * n) octets))) e

pub frames_more : {A : Type 0} (write : TmParts → List ℕ) (turn : ℕ → TmParts) (count : ℕ) (frames new : List (Vec ℕ A)) (frame : Vec ℕ A)
    → map octets_of frames ≡ map write (map turn (range_with_len 0 count)) → octets_of frame ≡ write (turn count) → new ≡ frames ++ frame ∷ []
    → map octets_of new ≡ map write (map turn (range_with_len 0 (count + 1)))
frames_more write turn count frames new frame so_far one e =
    ap (map octets_of) e
    ∙ map_push octets_of frames frame
    ∙ ap (λ l. l ++ octets_of frame ∷ []) so_far
    ∙ ap (λ l. map write (map turn (range_with_len 0 count)) ++ l ∷ []) one
    ∙ sym (map_push write (map turn (range_with_len 0 count)) (turn count))
    ∙ sym (ap (map write) (map-range_with_len_more turn 0 count count (omega arith)))

-- some packets fill frames
pub some_frames : (profile : Profile) (sender : TmSender) (word : ℕ) (packets : List (List ℕ)) (octets places : List ℕ) → 0 < length packets
    → octets ≡ concat (filled (data_length profile) packets) → places ≡ starts 0 (filled (data_length profile) packets)
    → carriers profile sender word octets places ≡ frames_of profile sender word packets
some_frames profile sender word [] octets places h e f = absurd (omega arith)
some_frames profile sender word (packet ∷ packets) octets places h e f =
    ap (λ l. carriers profile sender word l places) e
    ∙ ap (λ l. carriers profile sender word (concat (filled (data_length profile) (packet ∷ packets))) l) f

-- the frames of one packet or more
pub frames_there : {A : Type 0} (profile : Profile) (sender : TmSender) (word size : ℕ) (packets : List (Vec ℕ A)) (octets places : List ℕ)
    → (length packets == 0) ≡ false → size ≡ data_length profile → octets ≡ concat (filled size (map octets_of packets))
    → places ≡ starts 0 (filled size (map octets_of packets))
    → carriers profile sender word octets places ≡ frames_of profile sender word (map octets_of packets)
frames_there profile sender word size [] octets places none field o p = absurd (cc)
frames_there profile sender word size (packet ∷ packets) octets places some field o p = rw o (rw p (rw field refl))
