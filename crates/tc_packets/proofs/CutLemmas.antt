-- Octets of packets that a frame cuts, and what a receiver takes of them.
use Rattle.std.proofs.Common.{◌≡◌, ℕ, ◌+◌, ◌-◌, ◌*◌, ◌/◌, ◌%◌, ◌^◌, ◌<◌, ◌≤◌, Bool, true, false, List, [], ◌∷◌, ◌++◌, map, take, drop, length, get_or}
use Rattle.std.proofs.Common.{refl, sym, ap, subst, ◌∙◌, inl, inr, arith}
use Rattle.std.specs.Prelude.{if◌then◌else◌, ◌==◌, ◌&&◌, not, nat_le, nat_lt}
use Rattle.std.specs.List.{AllByRecursion, concat}
use Rattle.std.proofs.Math.Seq.{take-add}
use Rattle.std.proofs.lemmas.Bool.{and_from, and_left, and_right, cases_lt, cond-false, cond-true, eq-eqb, le-ltb, lt-leb, lt-ltb, ne_eqb}
use Rattle.std.proofs.lemmas.Bool.{not_from_true, or_from}
use Rattle.std.proofs.lemmas.List.{drop-append-le, drop-drop, drop_at, get_or-take, get_or_append_left, length-append, length-drop, length-take-le}
use Rattle.std.proofs.lemmas.List.{nil_from_length, take-append-le, take_at, take-append-drop}
use Rattle.tc_packets.specs.Carriers.{pointer_in, starts}
use Rattle.tc_packets.specs.CarrierLaws.{IsPacket}
use Rattle.tc_packets.specs.LossLaws.{all_came, cons_if, that_came}
use Rattle.tc_packets.specs.Receivers.{Received, and_then, begun, carried, continued, dropped, ended, is_skipped, looked_at, marked, packet}
use Rattle.tc_packets.specs.Receivers.{quiet, skipped}
use Rattle.tc_packets.specs.SpacePackets.{whole_length_in}
use Rattle.tc_packets.proofs.CameLemmas.{all_inside, came_on, expect_of, expect_within, lost_on, none_inside}
use Rattle.tc_packets.proofs.ReceiverLemmas.{begun_nil, begun_short, begun_whole}
use Rattle.tc_packets.proofs.SenderLemmas.{is_before, pointer_next}

-- ---- lists

-- a front that goes past the first part
pub take_past : (first rest : List ℕ) (n m : ℕ) → n ≡ length first + m → take n (first ++ rest) ≡ first ++ take m rest
take_past first rest n m e =
    ap (λ k. take k (first ++ rest)) e
    ∙ take-add (length first) m (first ++ rest)
    ∙ ap (λ l. l ++ take m (drop (length first) (first ++ rest))) (take_at first rest (length first) refl)
    ∙ ap (λ l. first ++ take m l) (drop_at first rest (length first) refl)

pub drop_past : (first rest : List ℕ) (n m : ℕ) → n ≡ length first + m → drop n (first ++ rest) ≡ drop m rest
drop_past first rest n m e =
    ap (λ k. drop k (first ++ rest)) e
    ∙ sym (drop-drop m (length first) (first ++ rest))
    ∙ ap (drop m) (drop_at first rest (length first) refl)

-- ---- the length that a packet tells

told_more : (octets more : List ℕ) → 6 ≤ length octets → whole_length_in (octets ++ more) ≡ whole_length_in octets
told_more octets more h =
    let high = get_or_append_left octets more 0 4 (omega arith) in
    let low = get_or_append_left octets more 0 5 (omega arith) in
    omega arith

told_front : (octets : List ℕ) (n : ℕ) → 6 ≤ n → whole_length_in (take n octets) ≡ whole_length_in octets
told_front octets n h =
    let high = get_or-take n octets 4 0 (omega arith) in
    let low = get_or-take n octets 5 0 (omega arith) in
    omega arith

-- a front of a packet is less than the packet that it begins
pub front_short : (octets : List ℕ) (n : ℕ) → whole_length_in octets ≡ length octets → n < length octets
    → length (take n octets) < whole_length_in (take n octets)
front_short octets n e h =
    let size = length-take-le n octets (omega arith) in
    elim (cases_lt n 6) [
      | inl few ↦ omega arith
      | inr many ↦ (let same = told_front octets n many in omega arith)
    ]

pub packet_some : (octets : List ℕ) → IsPacket octets → 7 ≤ length octets
packet_some octets h = let e = h.told in omega arith

-- ---- the packet in progress

pub ended_whole : (may_go_on : Bool) (octets : List ℕ) → whole_length_in octets ≡ length octets
    → ended may_go_on octets ≡ record { given = packet octets ∷ []; part = [] }
ended_whole may_go_on octets e =
    cond-true (length octets == whole_length_in octets) (record { given = packet octets ∷ []; part = [] })
    (if may_go_on && nat_lt (length octets) (whole_length_in octets) then quiet octets else dropped octets)
    (eq-eqb (length octets) (whole_length_in octets) (sym e))

pub ended_on : (octets : List ℕ) → length octets < whole_length_in octets → ended true octets ≡ quiet octets
ended_on octets h =
    cond-false (length octets == whole_length_in octets) (record { given = packet octets ∷ []; part = [] })
    (if true && nat_lt (length octets) (whole_length_in octets) then quiet octets else dropped octets)
    (ne_eqb (length octets) (whole_length_in octets) (λ e. omega arith))
    ∙ cond-true (true && nat_lt (length octets) (whole_length_in octets)) (quiet octets) (dropped octets)
    (and_from true (nat_lt (length octets) (whole_length_in octets)) refl (lt-ltb (length octets) (whole_length_in octets) h))

pub continued_none : (may_go_on : Bool) (octets : List ℕ) → continued may_go_on [] octets ≡ quiet []
unfolding continued
continued_none may_go_on octets = refl

pub continued_some : (may_go_on : Bool) (part octets : List ℕ) → 0 < length part → continued may_go_on part octets ≡ ended may_go_on (part ++ octets)
unfolding continued
continued_some may_go_on [] octets h = absurd (omega arith)
continued_some may_go_on (first ∷ part) octets h = refl

-- ---- a frame that is not skipped, by its pointer

carried_start : (pointer : ℕ) (content part : List ℕ) → pointer < 2046
    → carried pointer content part ≡ and_then (continued false part (take pointer content)) (λ _. begun 0 (drop pointer content))
unfolding carried
carried_start pointer content part h =
    let on : Received = and_then (continued false part (take pointer content)) (λ _. begun 0 (drop pointer content)) in
    cond-false (pointer == 2046) (quiet part) (if pointer == 2047 then continued true part content else on) (ne_eqb pointer 2046 (λ e. omega arith))
    ∙ cond-false (pointer == 2047) (continued true part content) on (ne_eqb pointer 2047 (λ e. omega arith))

carried_on : (content part : List ℕ) → carried 2047 content part ≡ continued true part content
unfolding carried
carried_on content part = refl

pub carried_idle : (content part : List ℕ) → carried 2046 content part ≡ quiet part
unfolding carried
carried_idle content part = refl

not_skipped_at : (pointer size : ℕ) → pointer < 2 ^ 11 → (nat_le size pointer && nat_lt pointer 2046) ≡ false
    → is_skipped (3 * 2 ^ 11 + pointer) size ≡ false
unfolding is_skipped
not_skipped_at pointer size h e =
    let high : (3 * 2 ^ 11 + pointer) / 2 ^ 11 ≡ 3 = omega arith in
    let low : pointer ≡ (3 * 2 ^ 11 + pointer) % 2 ^ 11 = omega arith in
    or_from (not ((3 * 2 ^ 11 + pointer) / 2 ^ 11 == 3))
    (nat_le size ((3 * 2 ^ 11 + pointer) % 2 ^ 11) && nat_lt ((3 * 2 ^ 11 + pointer) % 2 ^ 11) 2046)
    (not_from_true ((3 * 2 ^ 11 + pointer) / 2 ^ 11 == 3) (eq-eqb ((3 * 2 ^ 11 + pointer) / 2 ^ 11) 3 high))
    (subst (λ (n : ℕ). (nat_le size n && nat_lt n 2046) ≡ false) low e)

looked_by : (pointer : ℕ) (content part : List ℕ) → pointer < 2 ^ 11 → (nat_le (length content) pointer && nat_lt pointer 2046) ≡ false
    → looked_at (3 * 2 ^ 11 + pointer) content part ≡ carried pointer content part
unfolding looked_at
looked_by pointer content part h e =
    let low : (3 * 2 ^ 11 + pointer) % 2 ^ 11 ≡ pointer = omega arith in
    cond-false (is_skipped (3 * 2 ^ 11 + pointer) (length content)) (marked skipped (dropped part))
    (carried ((3 * 2 ^ 11 + pointer) % 2 ^ 11) content part)
    (not_skipped_at pointer (length content) h e)
    ∙ ap (λ n. carried n content part) low

pub looked_start : (pointer : ℕ) (content part : List ℕ) → pointer < length content → pointer < 2046
    → looked_at (3 * 2 ^ 11 + pointer) content part ≡ and_then (continued false part (take pointer content)) (λ _. begun 0 (drop pointer content))
looked_start pointer content part h k =
    looked_by pointer content part (omega arith)
    (and_left (nat_le (length content) pointer) (nat_lt pointer 2046) (lt-leb (length content) pointer h))
    ∙ carried_start pointer content part k

pub looked_on : (content part : List ℕ) → looked_at (3 * 2 ^ 11 + 2047) content part ≡ continued true part content
looked_on content part =
    looked_by 2047 content part (omega arith) (and_right (nat_le (length content) 2047) (nat_lt 2047 2046) refl) ∙ carried_on content part

pub looked_idle : (content part : List ℕ) → looked_at (3 * 2 ^ 11 + 2046) content part ≡ quiet part
looked_idle content part =
    looked_by 2046 content part (omega arith) (and_right (nat_le (length content) 2046) (nat_lt 2046 2046) refl) ∙ carried_idle content part

-- ---- where a sender stands: how much of a packet went, the octets of it that are to come, and the packets to come

pub record Standing : Type 0 where
  pub part : List ℕ
  pub todo : List ℕ
  pub rest : List (List ℕ)

abbrev pub between : List (List ℕ) → Standing
between packets = record { part = []; todo = []; rest = packets }

pub record IsStanding (s : Standing) : Type 0 where
  pub none : length s.todo ≡ 0 → length s.part ≡ 0
  pub some : 0 < length s.todo → 0 < length s.part

abbrev pending_of : List ℕ → List ℕ → List (List ℕ) → List (List ℕ)
pending_of part [] rest = rest
pending_of part (octet ∷ todo) rest = (part ++ octet ∷ todo) ∷ rest

-- the packets that have not gone whole
abbrev pub pending : Standing → List (List ℕ)
pending s = pending_of s.part s.todo s.rest

-- the packets of these that come, if all went well so far with the packet in progress, or not
abbrev pub expect : ℕ → List Bool → Bool → ℕ → Standing → List (List ℕ)
expect size came ok at s = expect_of size came ok at s.part s.todo s.rest

pub pending_none : (s : Standing) → length s.todo ≡ 0 → pending s ≡ s.rest
pending_none s e = ap (λ l. pending_of s.part l s.rest) (nil_from_length s.todo e)

pub pending_within : (part todo : List ℕ) (rest : List (List ℕ)) → 0 < length todo → pending_of part todo rest ≡ (part ++ todo) ∷ rest
pending_within part [] rest h = absurd (omega arith)
pending_within part (octet ∷ todo) rest h = refl

pub standing_between : (packets : List (List ℕ)) → IsStanding (between packets)
standing_between packets = record { none = λ e. omega arith; some = λ h. absurd (omega arith) }

-- ---- so many octets of packets, the first of which begins at a place

pub record Cuts (n at : ℕ) (packets : List (List ℕ)) : Type 0 where
  pub whole : List (List ℕ)
  pub next : Standing
  pub standing : IsStanding next
  pub pending : packets ≡ whole ++ pending next
  pub begun : begun 0 (take n (concat packets)) ≡ record { given = map packet whole; part = next.part }
  pub stream : drop n (concat packets) ≡ next.todo ++ concat next.rest
  pub pointers : (begin size : ℕ) → at + n ≤ begin → pointer_in begin size (starts at packets)
      ≡ pointer_in begin size (starts (at + n + length next.todo) next.rest)
  pub came : (size : ℕ) (came : List Bool) (i : ℕ) → i * size ≤ at → at + n ≡ i * size + size → get_or came i false ≡ true
      → that_came size came at packets ≡ whole ++ expect size came true (at + n) next
  pub lost : (size : ℕ) (came : List Bool) (i : ℕ) → i * size ≤ at → at + n ≡ i * size + size → get_or came i false ≡ false
      → that_came size came at packets ≡ expect size came false (at + n) next

cuts_none : (n at : ℕ) (packets : List (List ℕ)) → n ≡ 0 → Cuts n at packets
cuts_none n at packets e =
    let same : at + n + length {A = ℕ} [] ≡ at = omega arith in
    let here : at ≡ at + n = omega arith in
    record {
      whole = [];
      next = between packets;
      standing = standing_between packets;
      pending = refl;
      begun = ap (λ k. begun 0 (take k (concat packets))) e ∙ begun_nil;
      stream = ap (λ k. drop k (concat packets)) e;
      pointers = λ begin size h. ap (λ k. pointer_in begin size (starts k packets)) (sym same);
      came = λ size came i low high b. ap (λ k. that_came size came k packets) here;
      lost = λ size came i low high b. ap (λ k. that_came size came k packets) here;
    }

cuts_within : (n at : ℕ) (first : List ℕ) (packets : List (List ℕ)) → IsPacket first → 0 < n → n < length first → Cuts n at (first ∷ packets)
cuts_within n at first packets h some lt =
    let size = length-take-le n first (omega arith) in
    let left = length-drop n first in
    let first_octet = get_or-take n first 0 0 some in
    let version = h.version in
    let rest_at : at + length first ≡ at + n + length (drop n first) = omega arith in
    record {
      whole = [];
      next = record { part = take n first; todo = drop n first; rest = packets };
      standing = record { none = λ e. absurd (omega arith); some = λ k. omega arith };
      pending = ap (λ l. l ∷ packets) (sym (take-append-drop n first)) ∙ sym (pending_within (take n first) (drop n first) packets (omega arith));
      begun =
          ap (begun 0) (take-append-le n first (concat packets) (omega arith))
          ∙ begun_short (take n first) (omega arith) (omega arith)
          (lt-ltb (length (take n first)) (whole_length_in (take n first)) (front_short first n h.told lt));
      stream = drop-append-le n first (concat packets) (omega arith);
      pointers = λ begin size le.
          pointer_next begin size at (starts (at + length first) packets) (is_before begin size at (omega arith))
          ∙ ap (λ k. pointer_in begin size (starts k packets)) rest_at;
      came = λ wide came i low high b.
          let rest : length first ≡ n + length (drop n first) = omega arith in
          ap (λ c. cons_if c first (that_came wide came (at + length first) packets))
          (came_on wide came i at n (length (drop n first)) (length first) rest low (omega arith) b)
          ∙ ap (λ l. cons_if (all_came wide came (at + n) (length (drop n first))) l (that_came wide came (at + length first) packets))
          (sym (take-append-drop n first))
          ∙ ap (λ k. cons_if (all_came wide came (at + n) (length (drop n first))) (take n first ++ drop n first) (that_came wide came k packets))
          rest_at
          ∙ sym (expect_within wide came true (at + n) (take n first) (drop n first) packets (omega arith));
      lost = λ wide came i low high b.
          let rest : length first ≡ n + length (drop n first) = omega arith in
          ap (λ c. cons_if c first (that_came wide came (at + length first) packets))
          (lost_on wide came i at n (length (drop n first)) (length first) some rest low (omega arith) b)
          ∙ ap (λ k. that_came wide came k packets) rest_at
          ∙ sym (expect_within wide came false (at + n) (take n first) (drop n first) packets (omega arith));
    }

cuts_whole : (n at : ℕ) (first : List ℕ) (packets : List (List ℕ)) → IsPacket first → length first ≤ n
    → Cuts (n - length first) (at + length first) packets → Cuts n at (first ∷ packets)
cuts_whole n at first packets h le more =
    let some = packet_some first h in
    let version = h.version in
    let m : n ≡ length first + (n - length first) = omega arith in
    let x : List ℕ = take (n - length first) (concat packets) in
    let octets : take n (first ++ concat packets) ≡ first ++ x = take_past first (concat packets) n (n - length first) m in
    let first_octet = get_or_append_left first x 0 0 (omega arith) in
    let told : whole_length_in (first ++ x) ≡ length first = told_more first x (omega arith) ∙ h.told in
    let size = length-append first x in
    let place : at + length first + (n - length first) ≡ at + n = omega arith in
    record {
      whole = first ∷ more.whole;
      next = more.next;
      standing = more.standing;
      pending = ap (λ l. first ∷ l) more.pending;
      begun =
          ap (begun 0) octets
          ∙ begun_whole (first ++ x) (omega arith) (omega arith) (le-ltb (length (first ++ x)) (whole_length_in (first ++ x)) (omega arith))
          ∙ ap (λ k. marked (packet (take k (first ++ x))) (begun 0 (drop k (first ++ x)))) told
          ∙ ap (λ l. marked (packet l) (begun 0 (drop (length first) (first ++ x)))) (take_at first x (length first) refl)
          ∙ ap (λ l. marked (packet first) (begun 0 l)) (drop_at first x (length first) refl)
          ∙ ap (λ r. marked (packet first) r) more.begun;
      stream = drop_past first (concat packets) n (n - length first) m ∙ more.stream;
      pointers = λ begin wide k.
          let there : at + length first + (n - length first) + length more.next.todo ≡ at + n + length more.next.todo = omega arith in
          pointer_next begin wide at (starts (at + length first) packets) (is_before begin wide at (omega arith))
          ∙ more.pointers begin wide (omega arith)
          ∙ ap (λ j. pointer_in begin wide (starts j more.next.rest)) there;
      came = λ wide came i low high b.
          ap (λ c. cons_if c first (that_came wide came (at + length first) packets)) (all_inside wide came i at (length first) low (omega arith) b)
          ∙ ap (λ l. first ∷ l)
          (more.came wide came i (omega arith) (omega arith) b ∙ ap (λ k. more.whole ++ expect wide came true k more.next) place);
      lost = λ wide came i low high b.
          ap (λ c. cons_if c first (that_came wide came (at + length first) packets))
          (none_inside wide came i at (length first) (omega arith) low (omega arith) b)
          ∙ more.lost wide came i (omega arith) (omega arith) b
          ∙ ap (λ k. expect wide came false k more.next) place;
    }

pub cuts : (n at : ℕ) (packets : List (List ℕ)) → AllByRecursion IsPacket packets → n ≤ length (concat packets) → Cuts n at packets
cuts n at [] all le = cuts_none n at [] (omega arith)
cuts n at (first ∷ packets) all le =
    elim (cases_lt 0 n) [
      | inr none ↦ cuts_none n at (first ∷ packets) (omega arith)
      | inl some ↦ elim (cases_lt n (length first)) [
        | inl lt ↦ cuts_within n at first packets all.0 some lt
        | inr ge ↦ cuts_whole n at first packets all.0 ge
            (cuts (n - length first) (at + length first) packets all.1 (omega (arith, length-append first (concat packets))))
      ]
    ]
