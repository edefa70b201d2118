-- Packets that are sent over frames come back.
use Rattle.std.proofs.Common.{◌≡◌, ℕ, zero, suc, ◌+◌, ◌-◌, ◌*◌, ◌/◌, ◌%◌, ◌^◌, ◌<◌, ◌≤◌, true, false, List, [], ◌∷◌, ◌++◌, map, take, drop, length}
use Rattle.std.proofs.Common.{refl, sym, ap, subst, ◌∙◌, inl, inr, arith}
use Rattle.std.specs.Prelude.{◌==◌, nat_lt}
use Rattle.std.specs.List.{AllByRecursion, concat, range_with_len}
use Rattle.std.proofs.lemmas.Bool.{cases_eq, cases_lt, cond-false, cond-true, cond_both, eq-eqb, le-ltb, lt-ltb, ne_eqb}
use Rattle.std.proofs.lemmas.List.{append-nil, drop-drop, length-append, length-drop, length-replicate, map-append, nil_from_length}
use Rattle.std.proofs.lemmas.List.FromFn.{length-map-range_with_len}
use Rattle.std.proofs.lemmas.Nat.{div-mul-add}
use Rattle.tc_octets.specs.TmFrames.{TmParts}
use Rattle.tc_octets.specs.declared.profiles.Profile.{Profile}
use Rattle.tc_packets.specs.Carriers.{carrying, data_length, fill_of, filled, frames_of, idle_frame, idle_length, pointer_in, starts}
use Rattle.tc_packets.specs.SpacePackets.{idle_packet_of}
use Rattle.tc_packets.specs.CarrierLaws.{Awaits, ComesBack, IsPacket, is_idle, reports_in, run}
use Rattle.tc_packets.specs.Receivers.{Received, Receiver, and_then, counted, dropped, gap, is_next, looked_at, marked, packet, quiet, received}
use Rattle.tc_packets.specs.Receivers.{received_to}
use Rattle.tc_packets.specs.declared.tm_senders.TmSender.{TmSender}
use Rattle.tc_packets.proofs.SenderLemmas.{concat_append, data_bounds}
use Rattle.tc_packets.proofs.CutLemmas.{IsStanding, Standing, between, looked_idle, packet_some, pending, pending_none, standing_between}
use Rattle.tc_packets.proofs.TurnLemmas.{Turns, turns}

-- ---- packets

all_right : (xs ys : List (List ℕ)) → AllByRecursion IsPacket (xs ++ ys) → AllByRecursion IsPacket ys
all_right [] ys all = all
all_right (x ∷ xs) ys all = all_right xs ys all.1

all_both : (xs ys : List (List ℕ)) → AllByRecursion IsPacket xs → AllByRecursion IsPacket ys → AllByRecursion IsPacket (xs ++ ys)
all_both [] ys all more = more
all_both (x ∷ xs) ys all more = (all.0, all_both xs ys all.1 more)

no_packets : (packets : List (List ℕ)) → AllByRecursion IsPacket packets → length (concat packets) ≡ 0 → packets ≡ []
no_packets [] all e = refl
no_packets (first ∷ packets) all e = absurd (omega (arith, packet_some first all.0, length-append first (concat packets)))

-- ---- the fill

idle_size : (size : ℕ) → 7 ≤ size → length (idle_packet_of size) ≡ size
idle_size size h = let fill = length-replicate {A = ℕ} (size - 6) 0x55 in omega arith

idle_whole : (size : ℕ) → 7 ≤ size → IsPacket (idle_packet_of size)
idle_whole size h = let long = idle_size size h in record { told = omega arith; version = omega arith }

idle_least : (size left : ℕ) → 7 ≤ size → 7 ≤ idle_length size left
idle_least size left h =
    elim (cases_lt left 7) [
      | inl few ↦ (let e = cond-true (nat_lt left 7) (left + size) left (lt-ltb left 7 few) in omega arith)
      | inr many ↦ (let e = cond-false (nat_lt left 7) (left + size) left (le-ltb left 7 many) in omega arith)
    ]

pub fill_none : (size octets : ℕ) → octets % size ≡ 0 → fill_of size octets ≡ []
unfolding fill_of
fill_none size octets e = cond-true (octets % size == 0) [] (idle_packet_of (idle_length size (size - octets % size)) ∷ [])
    (eq-eqb (octets % size) 0 e)

fill_some : (size octets : ℕ) → (octets % size ≡ 0 → ⊥) → fill_of size octets ≡ idle_packet_of (idle_length size (size - octets % size)) ∷ []
unfolding fill_of
fill_some size octets ne = cond-false (octets % size == 0) [] (idle_packet_of (idle_length size (size - octets % size)) ∷ [])
    (ne_eqb (octets % size) 0 ne)

fill_whole : (size octets : ℕ) → 7 ≤ size → AllByRecursion IsPacket (fill_of size octets)
fill_whole size octets h =
    elim (cases_eq (octets % size) 0) [
      | inl e ↦ subst (λ (l : List (List ℕ)). AllByRecursion IsPacket l) (sym (fill_none size octets e)) tt
      | inr ne ↦ subst (λ (l : List (List ℕ)). AllByRecursion IsPacket l) (sym (fill_some size octets ne))
          (idle_whole (idle_length size (size - octets % size)) (idle_least size (size - octets % size) h), tt)
    ]

-- with its fill a list has a whole number of data fields
record IsEven (size octets : ℕ) : Type 0 where
  count : ℕ
  is : octets ≡ count * size

fill_length : (size octets : ℕ) → 7 ≤ size → (octets % size ≡ 0 → ⊥)
    → length (concat (fill_of size octets)) ≡ idle_length size (size - octets % size)
fill_length size octets h ne =
    ap (λ l. length (concat l)) (fill_some size octets ne)
    ∙ ap (λ (l : List ℕ). length l) (append-nil (idle_packet_of (idle_length size (size - octets % size))))
    ∙ idle_size (idle_length size (size - octets % size)) (idle_least size (size - octets % size) h)

even_by : (size octets fill q r : ℕ) → octets ≡ size * q + r → r < size → (r ≡ 0 → ⊥) → fill ≡ idle_length size (size - r)
    → IsEven size (octets + fill)
even_by size octets fill q r e lt ne f =
    elim (cases_lt (size - r) 7) [
      | inl few ↦
          let long : idle_length size (size - r) ≡ size - r + size =
          cond-true (nat_lt (size - r) 7) (size - r + size) (size - r) (lt-ltb (size - r) 7 few) in
          let turns : (q + 2) * size ≡ size * q + size + size = omega arith in
          record { count = q + 2; is = omega arith }
      | inr many ↦
          let long : idle_length size (size - r) ≡ size - r =
          cond-false (nat_lt (size - r) 7) (size - r + size) (size - r) (le-ltb (size - r) 7 many) in
          let turns : (q + 1) * size ≡ size * q + size = omega arith in
          record { count = q + 1; is = omega arith }
    ]

filled_length : (size : ℕ) (packets : List (List ℕ)) → length (concat (filled size packets))
    ≡ length (concat packets) + length (concat (fill_of size (length (concat packets))))
filled_length size packets =
    ap (λ (l : List ℕ). length l) (concat_append packets (fill_of size (length (concat packets))))
    ∙ length-append (concat packets) (concat (fill_of size (length (concat packets))))

filled_even : (size : ℕ) (packets : List (List ℕ)) → 7 ≤ size → IsEven size (length (concat (filled size packets)))
filled_even size packets h =
    let octets : ℕ = length (concat packets) in
    let split : octets ≡ size * (octets / size) + octets % size = omega arith in
    elim (cases_eq (octets % size) 0) [
      | inl e ↦
          let none : length (concat (fill_of size octets)) ≡ 0 = ap (λ l. length (concat l)) (fill_none size octets e) in
          let turned : octets / size * size ≡ size * (octets / size) = omega arith in
          record { count = octets / size; is = omega (arith, filled_length size packets) }
      | inr ne ↦
          subst (λ (n : ℕ). IsEven size n) (sym (filled_length size packets))
          (even_by size octets (length (concat (fill_of size octets))) (octets / size) (octets % size) split (omega arith) ne
          (fill_length size octets h ne))
    ]

-- ---- one frame after the other

received_next : (receiver : Receiver) (frame : TmParts) → is_next receiver.expected frame.channel_count ≡ true
    → received receiver frame ≡ looked_at frame.status frame.content receiver.part
unfolding received counted
received_next receiver frame e =
    ap (λ r. and_then r (λ part. looked_at frame.status frame.content part))
    (cond-true (is_next receiver.expected frame.channel_count) (quiet receiver.part) (marked gap (dropped receiver.part)) e)

record Comes (receiver : Receiver) (frames : List TmParts) (packets : List (List ℕ)) (count : ℕ) : Type 0 where
  given : (run receiver frames).given ≡ map packet packets
  awaits : Awaits (run receiver frames).receiver (count % 2 ^ 8)

-- where the sender stands before the frame of a turn, with so many frames to come
pub record Stands (profile : Profile) (all : List (List ℕ)) (n i : ℕ) (s : Standing) : Type 0 where
  pub standing : IsStanding s
  pub whole : AllByRecursion IsPacket (pending s)
  pub stream : drop (i * data_length profile) (concat all) ≡ s.todo ++ concat s.rest
  pub pointers : (begin wide : ℕ) → i * data_length profile ≤ begin
      → pointer_in begin wide (starts 0 all) ≡ pointer_in begin wide (starts (i * data_length profile + length s.todo) s.rest)
  pub left : length (s.todo ++ concat s.rest) ≡ n * data_length profile

pub turn_at : (profile : Profile) (all : List (List ℕ)) (n i : ℕ) (s : Standing) → Stands profile all (suc n) i s
    → Turns (data_length profile) (i * data_length profile) s
turn_at profile all n i s f =
    let size : ℕ = data_length profile in
    let bounds = data_bounds profile in
    let turns_left : suc n * size ≡ n * size + size = omega arith in
    let left = f.left in
    turns size (i * size) s f.standing f.whole (omega arith) (omega arith) (omega arith)

pub stands_on : (profile : Profile) (all : List (List ℕ)) (n i : ℕ) (s : Standing) → Stands profile all (suc n) i s
    → (t : Turns (data_length profile) (i * data_length profile) s) → Stands profile all n (i + 1) t.next
stands_on profile all n i s f t =
    let size : ℕ = data_length profile in
    let turn : (i + 1) * size ≡ i * size + size = omega arith in
    let turns_left : suc n * size ≡ n * size + size = omega arith in
    let before = f.left in
    record {
      standing = t.standing;
      whole = all_right t.whole (pending t.next) (subst (λ (l : List (List ℕ)). AllByRecursion IsPacket l) t.pending f.whole);
      stream = ap (λ k. drop k (concat all)) turn ∙ sym (drop-drop size (i * size) (concat all)) ∙ ap (drop size) f.stream ∙ t.stream;
      pointers = λ begin wide h.
          let there : i * size + size + length t.next.todo ≡ (i + 1) * size + length t.next.todo = omega arith in
          f.pointers begin wide (omega arith) ∙ t.pointers begin wide (omega arith) ∙ ap (λ k. pointer_in begin wide (starts k t.next.rest)) there;
      left =
          let same = ap (λ (l : List ℕ). length l) t.stream in
          let shorter = length-drop size (s.todo ++ concat s.rest) in
          omega arith;
    }

-- nothing is left
pub record Done (s : Standing) : Type 0 where
  pub part : s.part ≡ []
  pub todo : s.todo ≡ []
  pub rest : s.rest ≡ []
  pub pending : pending s ≡ []

pub none_left : (profile : Profile) (all : List (List ℕ)) (i : ℕ) (s : Standing) → Stands profile all 0 i s → Done s
none_left profile all i s f =
    let joined = length-append s.todo (concat s.rest) in
    let left = f.left in
    let zero_turns : 0 * data_length profile ≡ 0 = omega arith in
    let e : length s.todo ≡ 0 = omega arith in
    let rest : s.rest ≡ [] = no_packets s.rest (subst (λ (l : List (List ℕ)). AllByRecursion IsPacket l) (pending_none s e) f.whole) (omega arith) in
    record {
      part = nil_from_length s.part (f.standing.none e);
      todo = nil_from_length s.todo e;
      rest = rest;
      pending = pending_none s e ∙ rest;
    }

pub stands_first : (profile : Profile) (all : List (List ℕ)) (n : ℕ) → AllByRecursion IsPacket all → length (concat all) ≡ n * data_length profile
    → Stands profile all n 0 (between all)
stands_first profile all n whole e =
    let start : 0 * data_length profile ≡ 0 = omega arith in
    let first : 0 ≡ 0 * data_length profile + length {A = ℕ} [] = omega arith in
    record {
      standing = standing_between all;
      whole = whole;
      stream = ap (λ k. drop k (concat all)) start;
      pointers = λ begin wide h. ap (λ k. pointer_in begin wide (starts k all)) first;
      left = e;
    }

-- and a receiver that follows it
record Follows (profile : Profile) (sender : TmSender) (all : List (List ℕ)) (n i : ℕ) (s : Standing) (receiver : Receiver) : Type 0 where
  stands : Stands profile all n i s
  part : receiver.part ≡ s.part
  next : is_next receiver.expected ((sender.channel_count + i) % 2 ^ 8) ≡ true

frame_brings : (profile : Profile) (sender : TmSender) (word : ℕ) (all : List (List ℕ)) (n i : ℕ) (s : Standing) (receiver : Receiver)
    → Follows profile sender all n i s receiver → (t : Turns (data_length profile) (i * data_length profile) s)
    → received receiver (carrying profile sender word (concat all) (starts 0 all) i) ≡ record { given = map packet t.whole; part = t.next.part }
frame_brings profile sender word all n i s receiver f t =
    let size : ℕ = data_length profile in
    let frame : TmParts = carrying profile sender word (concat all) (starts 0 all) i in
    received_next receiver frame f.next
    ∙ ap (λ l. looked_at frame.status frame.content l) f.part
    ∙ ap (λ k. looked_at (3 * 2 ^ 11 + k) frame.content s.part) (f.stands.pointers (i * size) size (omega arith))
    ∙ ap (λ l. looked_at (3 * 2 ^ 11 + pointer_in (i * size) size (starts (i * size + length s.todo) s.rest)) (take size l) s.part) f.stands.stream
    ∙ t.received

follows_on : (profile : Profile) (sender : TmSender) (word : ℕ) (all : List (List ℕ)) (n i : ℕ) (s : Standing) (receiver : Receiver)
    → Follows profile sender all (suc n) i s receiver → (t : Turns (data_length profile) (i * data_length profile) s)
    → Follows profile sender all n (i + 1) t.next (received_to receiver (carrying profile sender word (concat all) (starts 0 all) i))
follows_on profile sender word all n i s receiver f t = record {
  stands = stands_on profile all n i s f.stands t;
  part = ap (λ (r : Received). r.part) (frame_brings profile sender word all (suc n) i s receiver f t);
  next = eq-eqb ((sender.channel_count + (i + 1)) % 2 ^ 8) (((sender.channel_count + i) % 2 ^ 8 + 1) % 2 ^ 8) (omega arith);
}

comes_none : (profile : Profile) (sender : TmSender) (all : List (List ℕ)) (i : ℕ) (s : Standing) (receiver : Receiver)
    → Follows profile sender all 0 i s receiver → Comes receiver [] (pending s) (sender.channel_count + i + 0)
comes_none profile sender all i s receiver f =
    let done = none_left profile all i s f.stands in
    let same : sender.channel_count + i ≡ sender.channel_count + i + 0 = omega arith in
    record {
      given = ap (map packet) (sym done.pending);
      awaits = record {
        part = f.part ∙ done.part;
        next = subst (λ (k : ℕ). is_next receiver.expected (k % 2 ^ 8) ≡ true) same f.next;
      };
    }

comes : (profile : Profile) (sender : TmSender) (word : ℕ) (all : List (List ℕ)) (n i : ℕ) (s : Standing) (receiver : Receiver)
    → Follows profile sender all n i s receiver
    → Comes receiver (map (carrying profile sender word (concat all) (starts 0 all)) (range_with_len i n)) (pending s) (sender.channel_count + i + n)
comes profile sender word all zero i s receiver f = comes_none profile sender all i s receiver f
comes profile sender word all (suc n) i s receiver f =
    let t = turn_at profile all n i s f.stands in
    let frame : TmParts = carrying profile sender word (concat all) (starts 0 all) i in
    let more = comes profile sender word all n (i + 1) t.next (received_to receiver frame) (follows_on profile sender word all n i s receiver f t) in
    let frames : List TmParts = map (carrying profile sender word (concat all) (starts 0 all)) (range_with_len (i + 1) n) in
    let count : sender.channel_count + (i + 1) + n ≡ sender.channel_count + i + suc n = omega arith in
    record {
      given =
          ap (λ (r : Received). r.given ++ (run (received_to receiver frame) frames).given)
          (frame_brings profile sender word all (suc n) i s receiver f t)
          ∙ ap (λ l. map packet t.whole ++ l) more.given
          ∙ sym (map-append packet t.whole (pending t.next))
          ∙ ap (map packet) (sym t.pending);
      awaits = subst (λ (k : ℕ). Awaits (run (received_to receiver frame) frames).receiver (k % 2 ^ 8)) count more.awaits;
    }

-- ---- a list of packets

follows_first : (profile : Profile) (sender : TmSender) (all : List (List ℕ)) (n : ℕ) (receiver : Receiver) → AllByRecursion IsPacket all
    → length (concat all) ≡ n * data_length profile → Awaits receiver (sender.channel_count % 2 ^ 8)
    → Follows profile sender all n 0 (between all) receiver
follows_first profile sender all n receiver whole e awaits =
    let same : sender.channel_count ≡ sender.channel_count + 0 = omega arith in
    record {
      stands = stands_first profile all n whole e;
      part = awaits.part;
      next = subst (λ (k : ℕ). is_next receiver.expected (k % 2 ^ 8) ≡ true) same awaits.next;
    }

turns_of : (size octets : ℕ) → 0 < size → IsEven size octets → octets ≡ octets / size * size
turns_of size octets some even =
    let plain : octets ≡ even.count * size + 0 = omega (arith, even.is) in
    let count : octets / size ≡ even.count = ap (λ n. n / size) plain ∙ div-mul-add even.count size 0 some in
    even.is ∙ ap (λ n. n * size) (sym count)

-- packets with their fill are packets, of a whole number of data fields
pub record Fills (profile : Profile) (packets : List (List ℕ)) : Type 0 where
  pub whole : AllByRecursion IsPacket (filled (data_length profile) packets)
  pub left : length (concat (filled (data_length profile) packets))
      ≡ length (concat (filled (data_length profile) packets)) / data_length profile * data_length profile

pub fills : (profile : Profile) (packets : List (List ℕ)) → AllByRecursion IsPacket packets → Fills profile packets
fills profile packets all =
    let size : ℕ = data_length profile in
    let bounds = data_bounds profile in
    record {
      whole = all_both packets (fill_of size (length (concat packets))) all (fill_whole size (length (concat packets)) (omega arith));
      left = turns_of size (length (concat (filled size packets))) (omega arith) (filled_even size packets (omega arith));
    }

come_filled : (profile : Profile) (sender : TmSender) (word : ℕ) (first : List ℕ) (packets : List (List ℕ)) (receiver : Receiver)
    → AllByRecursion IsPacket (first ∷ packets) → Awaits receiver (sender.channel_count % 2 ^ 8)
    → ComesBack profile sender word (first ∷ packets) receiver
come_filled profile sender word first packets receiver all awaits =
    let size : ℕ = data_length profile in
    let sent : List (List ℕ) = filled size (first ∷ packets) in
    let n : ℕ = length (concat sent) / size in
    let filled_up = fills profile (first ∷ packets) all in
    let came = comes profile sender word sent n 0 (between sent) receiver
    (follows_first profile sender sent n receiver filled_up.whole filled_up.left awaits) in
    let frames = length-map-range_with_len (carrying profile sender word (concat sent) (starts 0 sent)) 0 n in
    let count : sender.channel_count + 0 + n ≡ sender.channel_count + length (frames_of profile sender word (first ∷ packets)) = omega arith in
    record {
      given = came.given;
      awaits = subst (λ (k : ℕ). Awaits (run receiver (frames_of profile sender word (first ∷ packets))).receiver (k % 2 ^ 8)) count came.awaits;
    }

idle_comes : (profile : Profile) (sender : TmSender) (word : ℕ) (receiver : Receiver) → Awaits receiver (sender.channel_count % 2 ^ 8)
    → ComesBack profile sender word [] receiver
idle_comes profile sender word receiver awaits =
    let size : ℕ = data_length profile in
    let bounds = data_bounds profile in
    let frame : TmParts = idle_frame profile sender word in
    let same : sender.channel_count ≡ sender.channel_count + 0 = omega arith in
    let over : 0 % size ≡ 0 = omega arith in
    let brings : received receiver frame ≡ quiet receiver.part =
    received_next receiver frame (subst (λ (k : ℕ). is_next receiver.expected (k % 2 ^ 8) ≡ true) same awaits.next)
    ∙ looked_idle frame.content receiver.part in
    record {
      given = ap (λ (r : Received). r.given ++ []) brings ∙ ap (map packet) (sym (fill_none size 0 over));
      awaits = record {
        part = ap (λ (r : Received). r.part) brings ∙ awaits.part;
        next = eq-eqb ((sender.channel_count + 1) % 2 ^ 8) (((sender.channel_count + 0) % 2 ^ 8 + 1) % 2 ^ 8) (omega arith);
      };
    }

-- A list of packets that is sent comes back, from a receiver that awaits its first frame.
pub packets_come_back : (profile : Profile) (sender : TmSender) (word : ℕ) (packets : List (List ℕ)) (receiver : Receiver)
    → AllByRecursion IsPacket packets → Awaits receiver (sender.channel_count % 2 ^ 8) → ComesBack profile sender word packets receiver
packets_come_back profile sender word [] receiver all awaits = idle_comes profile sender word receiver awaits
packets_come_back profile sender word (first ∷ packets) receiver all awaits = come_filled profile sender word first packets receiver all awaits

-- ---- without idle packets

reports_first : (xs ys : List (List ℕ)) → AllByRecursion (λ octets. is_idle octets ≡ false) xs
    → reports_in (map packet (xs ++ ys)) ≡ xs ++ reports_in (map packet ys)
reports_first [] ys none = refl
reports_first (x ∷ xs) ys none =
    cond-false (is_idle x) (reports_in (map packet (xs ++ ys))) (x ∷ reports_in (map packet (xs ++ ys))) none.0
    ∙ ap (λ l. x ∷ l) (reports_first xs ys none.1)

fill_idle : (size octets : ℕ) → reports_in (map packet (fill_of size octets)) ≡ []
unfolding fill_of
fill_idle size octets =
    cond_both (octets % size == 0) [] (idle_packet_of (idle_length size (size - octets % size)) ∷ [])
    (λ (l : List (List ℕ)). reports_in (map packet l) ≡ [])
    (λ e. refl) (λ e. refl)

pub reports_come_back : (profile : Profile) (sender : TmSender) (word : ℕ) (packets : List (List ℕ)) (receiver : Receiver)
    → AllByRecursion IsPacket packets → AllByRecursion (λ octets. is_idle octets ≡ false) packets → Awaits receiver (sender.channel_count % 2 ^ 8)
    → reports_in (run receiver (frames_of profile sender word packets)).given ≡ packets
reports_come_back profile sender word packets receiver all none awaits =
    let size : ℕ = data_length profile in
    let back = packets_come_back profile sender word packets receiver all awaits in
    ap reports_in back.given
    ∙ reports_first packets (fill_of size (length (concat packets))) none
    ∙ ap (λ l. packets ++ l) (fill_idle size (length (concat packets)))
    ∙ append-nil packets
