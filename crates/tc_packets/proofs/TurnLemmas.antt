-- What one frame of a sender brings a receiver that follows it.
use Rattle.std.proofs.Common.{◌≡◌, ℕ, ◌+◌, ◌-◌, ◌*◌, ◌^◌, ◌<◌, ◌≤◌, Bool, true, false, List, [], ◌∷◌, ◌++◌, map, take, drop, length, get_or, refl}
use Rattle.std.proofs.Common.{sym, ap, subst, ◌∙◌, inl, inr, arith, append_assoc}
use Rattle.std.specs.Prelude.{◌&&◌, ◌||◌}
use Rattle.std.specs.List.{AllByRecursion, concat}
use Rattle.std.proofs.lemmas.Bool.{cases_lt}
use Rattle.std.proofs.lemmas.List.{drop-append-le, drop_at, length-append, length-drop, length-take-le, nil_from_length, take-append-le, take_at}
use Rattle.std.proofs.lemmas.List.{take-append-drop}
use Rattle.tc_packets.specs.Carriers.{pointer_in, starts}
use Rattle.tc_packets.specs.CarrierLaws.{IsPacket}
use Rattle.tc_packets.specs.LossLaws.{all_came, cons_if, that_came}
use Rattle.tc_packets.specs.Receivers.{Received, and_then, begun, continued, looked_at, packet}
use Rattle.tc_packets.specs.SpacePackets.{whole_length_in}
use Rattle.tc_packets.proofs.CameLemmas.{all_inside, came_on, chosen, cons_came, cons_lost, expect_within, live, lost_on, none_inside}
use Rattle.tc_packets.proofs.SenderLemmas.{is_behind, is_inside, pointer_first, pointer_next}
use Rattle.tc_packets.proofs.CutLemmas.{IsStanding, Standing, between, continued_none, continued_some, cuts, drop_past, ended_on, ended_whole, expect}
use Rattle.tc_packets.proofs.CutLemmas.{front_short, looked_on, looked_start, pending, pending_none, pending_within, standing_between, take_past}

-- ---- a frame's turn: so many octets from a place on

pub record Turns (size at : ℕ) (s : Standing) : Type 0 where
  pub whole : List (List ℕ)
  pub next : Standing
  pub standing : IsStanding next
  pub pending : pending s ≡ whole ++ pending next
  pub stream : drop size (s.todo ++ concat s.rest) ≡ next.todo ++ concat next.rest
  pub pointers : (begin wide : ℕ) → at + size ≤ begin
      → pointer_in begin wide (starts (at + length s.todo) s.rest) ≡ pointer_in begin wide (starts (at + size + length next.todo) next.rest)
  pub received : looked_at (3 * 2 ^ 11 + pointer_in at size (starts (at + length s.todo) s.rest)) (take size (s.todo ++ concat s.rest)) s.part
      ≡ record { given = map packet whole; part = next.part }
  -- the packet in progress, if it ends; those after it; and whether what is in progress afterwards began in this frame
  pub ended : List (List ℕ)
  pub inner : List (List ℕ)
  pub over : Bool
  pub whole_is : whole ≡ ended ++ inner
  pub missed : looked_at (3 * 2 ^ 11 + pointer_in at size (starts (at + length s.todo) s.rest)) (take size (s.todo ++ concat s.rest)) []
      ≡ record { given = map packet inner; part = live over next.part }
  pub came : (came : List Bool) (i : ℕ) (ok : Bool) → at ≡ i * size → get_or came i false ≡ true
      → expect size came ok at s ≡ (chosen ok ended ++ inner) ++ expect size came (over || ok) (at + size) next
  pub lost : (came : List Bool) (i : ℕ) (ok : Bool) → at ≡ i * size → get_or came i false ≡ false
      → expect size came ok at s ≡ expect size came false (at + size) next

pointer_none : (begin size at : ℕ) (packets : List (List ℕ)) → begin + size ≤ at → pointer_in begin size (starts at packets) ≡ 2047
pointer_none begin size at [] h = refl
pointer_none begin size at (first ∷ packets) h =
    pointer_next begin size at (starts (at + length first) packets) (is_behind begin size at h)
    ∙ pointer_none begin size (at + length first) packets (omega arith)

pointer_there : (at size m : ℕ) (packets : List (List ℕ)) → m < size → 0 < length (concat packets) → pointer_in at size (starts (at + m) packets) ≡ m
pointer_there at size m [] h some = absurd (omega arith)
pointer_there at size m (first ∷ packets) h some =
    pointer_first at size (at + m) (starts (at + m + length first) packets) (is_inside at size (at + m) (omega arith) (omega arith)) ∙ omega arith

-- no packet is in progress
turns_between : (size at : ℕ) (packets : List (List ℕ)) → AllByRecursion IsPacket packets → 0 < size → size ≤ length (concat packets)
    → Turns size at (between packets)
turns_between size at packets all some le =
    let c = cuts size at packets all le in
    let same : at + length {A = ℕ} [] ≡ at = omega arith in
    let content : List ℕ = take size (concat packets) in
    let long = length-take-le size (concat packets) le in
    let pointer : pointer_in at size (starts (at + length {A = ℕ} []) packets) ≡ 0 = pointer_there at size 0 packets some (omega arith) in
    let all_of : looked_at (3 * 2 ^ 11 + pointer_in at size (starts (at + length {A = ℕ} []) packets)) content []
    ≡ record { given = map packet c.whole; part = c.next.part } =
    ap (λ n. looked_at (3 * 2 ^ 11 + n) content []) pointer
    ∙ looked_start 0 content [] (omega arith) (omega arith)
    ∙ ap (λ r. and_then r (λ _. begun 0 (drop 0 content))) (continued_none false (take 0 content))
    ∙ c.begun in
    record {
      whole = c.whole;
      next = c.next;
      standing = c.standing;
      pending = c.pending;
      stream = c.stream;
      pointers = λ begin wide h. ap (λ k. pointer_in begin wide (starts k packets)) same ∙ c.pointers begin wide h;
      received = all_of;
      ended = [];
      inner = c.whole;
      over = true;
      whole_is = refl;
      missed = all_of;
      came = λ came i ok e b. c.came size came i (omega arith) (omega arith) b;
      lost = λ came i ok e b. c.lost size came i (omega arith) (omega arith) b;
    }

-- a packet in progress ends before the frame does
turns_over : (size at : ℕ) (part todo : List ℕ) (packets : List (List ℕ)) → IsPacket (part ++ todo) → AllByRecursion IsPacket packets
    → 0 < length part
    → 0 < length todo → length todo < size → size ≤ 2046 → size ≤ length todo + length (concat packets)
    → Turns size at (record { part = part; todo = todo; rest = packets })
turns_over size at part todo packets one all begun_part some lt few le =
    let n : ℕ = size - length todo in
    let c = cuts n (at + length todo) packets all (omega arith) in
    let split : size ≡ length todo + n = omega arith in
    let x : List ℕ = take n (concat packets) in
    let long = length-take-le n (concat packets) (omega arith) in
    let size_of = length-append todo x in
    let there : at + length todo + n + length c.next.todo ≡ at + size + length c.next.todo = omega arith in
    let ends : at + length todo + n ≡ at + size = omega arith in
    record {
      whole = (part ++ todo) ∷ c.whole;
      next = c.next;
      standing = c.standing;
      pending = pending_within part todo packets some ∙ ap (λ l. (part ++ todo) ∷ l) c.pending;
      stream = drop_past todo (concat packets) size n split ∙ c.stream;
      pointers = λ begin wide h. c.pointers begin wide (omega arith) ∙ ap (λ k. pointer_in begin wide (starts k c.next.rest)) there;
      received =
          ap (λ k. looked_at (3 * 2 ^ 11 + k) (take size (todo ++ concat packets)) part)
          (pointer_there at size (length todo) packets lt (omega arith))
          ∙ ap (λ l. looked_at (3 * 2 ^ 11 + length todo) l part) (take_past todo (concat packets) size n split)
          ∙ looked_start (length todo) (todo ++ x) part (omega arith) (omega arith)
          ∙ ap (λ l. and_then (continued false part l) (λ _. begun 0 (drop (length todo) (todo ++ x)))) (take_at todo x (length todo) refl)
          ∙ ap (λ l. and_then (continued false part todo) (λ _. begun 0 l)) (drop_at todo x (length todo) refl)
          ∙ ap (λ r. and_then r (λ _. begun 0 x)) (continued_some false part todo begun_part ∙ ended_whole false (part ++ todo) one.told)
          ∙ ap (λ (r : Received). record { given = packet (part ++ todo) ∷ r.given; part = r.part }) c.begun;
      ended = (part ++ todo) ∷ [];
      inner = c.whole;
      over = true;
      whole_is = refl;
      missed =
          ap (λ k. looked_at (3 * 2 ^ 11 + k) (take size (todo ++ concat packets)) []) (pointer_there at size (length todo) packets lt (omega arith))
          ∙ ap (λ l. looked_at (3 * 2 ^ 11 + length todo) l []) (take_past todo (concat packets) size n split)
          ∙ looked_start (length todo) (todo ++ x) [] (omega arith) (omega arith)
          ∙ ap (λ r. and_then r (λ _. begun 0 (drop (length todo) (todo ++ x)))) (continued_none false (take (length todo) (todo ++ x)))
          ∙ ap (begun 0) (drop_at todo x (length todo) refl)
          ∙ c.begun;
      came = λ came i ok e b.
          expect_within size came ok at part todo packets some
          ∙ ap (λ y. cons_if (ok && y) (part ++ todo) (that_came size came (at + length todo) packets))
          (all_inside size came i at (length todo) (omega arith) (omega arith) b)
          ∙ ap (λ l. cons_if (ok && true) (part ++ todo) l)
          (c.came size came i (omega arith) (omega arith) b ∙ ap (λ k. c.whole ++ expect size came true k c.next) ends)
          ∙ cons_came ok (part ++ todo) c.whole (expect size came true (at + size) c.next);
      lost = λ came i ok e b.
          expect_within size came ok at part todo packets some
          ∙ ap (λ y. cons_if (ok && y) (part ++ todo) (that_came size came (at + length todo) packets))
          (none_inside size came i at (length todo) some (omega arith) (omega arith) b)
          ∙ cons_lost ok (part ++ todo) (that_came size came (at + length todo) packets)
          ∙ c.lost size came i (omega arith) (omega arith) b
          ∙ ap (λ k. expect size came false k c.next) ends;
    }

-- it ends with the frame
turns_even : (size at : ℕ) (part todo : List ℕ) (packets : List (List ℕ)) → IsPacket (part ++ todo) → 0 < length part → 0 < length todo
    → length todo ≡ size
    → Turns size at (record { part = part; todo = todo; rest = packets })
turns_even size at part todo packets one begun_part some e =
    let there : at + length todo ≡ at + size + length {A = ℕ} [] = omega arith in
    let ends : at + length todo ≡ at + size = omega arith in
    record {
      whole = (part ++ todo) ∷ [];
      next = between packets;
      standing = standing_between packets;
      pending = pending_within part todo packets some;
      stream = drop_at todo (concat packets) size e;
      pointers = λ begin wide h. ap (λ k. pointer_in begin wide (starts k packets)) there;
      received =
          ap (λ k. looked_at (3 * 2 ^ 11 + k) (take size (todo ++ concat packets)) part)
          (pointer_none at size (at + length todo) packets (omega arith))
          ∙ ap (λ l. looked_at (3 * 2 ^ 11 + 2047) l part) (take_at todo (concat packets) size e)
          ∙ looked_on todo part
          ∙ continued_some true part todo begun_part
          ∙ ended_whole true (part ++ todo) one.told;
      ended = (part ++ todo) ∷ [];
      inner = [];
      over = true;
      whole_is = refl;
      missed =
          ap (λ k. looked_at (3 * 2 ^ 11 + k) (take size (todo ++ concat packets)) []) (pointer_none at size (at + length todo) packets (omega arith))
          ∙ looked_on (take size (todo ++ concat packets)) []
          ∙ continued_none true (take size (todo ++ concat packets));
      came = λ came i ok same b.
          expect_within size came ok at part todo packets some
          ∙ ap (λ y. cons_if (ok && y) (part ++ todo) (that_came size came (at + length todo) packets))
          (all_inside size came i at (length todo) (omega arith) (omega arith) b)
          ∙ ap (λ k. cons_if (ok && true) (part ++ todo) (that_came size came k packets)) ends
          ∙ cons_came ok (part ++ todo) [] (that_came size came (at + size) packets);
      lost = λ came i ok same b.
          expect_within size came ok at part todo packets some
          ∙ ap (λ y. cons_if (ok && y) (part ++ todo) (that_came size came (at + length todo) packets))
          (none_inside size came i at (length todo) some (omega arith) (omega arith) b)
          ∙ cons_lost ok (part ++ todo) (that_came size came (at + length todo) packets)
          ∙ ap (λ k. that_came size came k packets) ends;
    }

-- it goes on in the next frame
turns_on : (size at : ℕ) (part todo : List ℕ) (packets : List (List ℕ)) → IsPacket (part ++ todo) → 0 < length part → 0 < size → size < length todo
    → Turns size at (record { part = part; todo = todo; rest = packets })
turns_on size at part todo packets one begun_part some lt =
    let front = length-take-le size todo (omega arith) in
    let left = length-drop size todo in
    let joined = length-append part (take size todo) in
    let all_of = length-append part todo in
    let there : at + length todo ≡ at + size + length (drop size todo) = omega arith in
    let joins : part ++ todo ≡ (part ++ take size todo) ++ drop size todo =
    ap (λ l. part ++ l) (sym (take-append-drop size todo)) ∙ sym (append_assoc part (take size todo) (drop size todo)) in
    let cut_front : take (length part + size) (part ++ todo) ≡ part ++ take size todo = take_past part todo (length part + size) size refl in
    let short : length (part ++ take size todo) < whole_length_in (part ++ take size todo) =
    subst (λ (l : List ℕ). length l < whole_length_in l) cut_front (front_short (part ++ todo) (length part + size) one.told (omega arith)) in
    record {
      whole = [];
      next = record { part = part ++ take size todo; todo = drop size todo; rest = packets };
      standing = record { none = λ e. absurd (omega arith); some = λ h. omega arith };
      pending =
          pending_within part todo packets (omega arith)
          ∙ ap (λ l. (part ++ l) ∷ packets) (sym (take-append-drop size todo))
          ∙ ap (λ l. l ∷ packets) (sym (append_assoc part (take size todo) (drop size todo)))
          ∙ sym (pending_within (part ++ take size todo) (drop size todo) packets (omega arith));
      stream = drop-append-le size todo (concat packets) (omega arith);
      pointers = λ begin wide h. ap (λ k. pointer_in begin wide (starts k packets)) there;
      received =
          ap (λ k. looked_at (3 * 2 ^ 11 + k) (take size (todo ++ concat packets)) part)
          (pointer_none at size (at + length todo) packets (omega arith))
          ∙ ap (λ l. looked_at (3 * 2 ^ 11 + 2047) l part) (take-append-le size todo (concat packets) (omega arith))
          ∙ looked_on (take size todo) part
          ∙ continued_some true part (take size todo) begun_part
          ∙ ended_on (part ++ take size todo) short;
      ended = [];
      inner = [];
      over = false;
      whole_is = refl;
      missed =
          ap (λ k. looked_at (3 * 2 ^ 11 + k) (take size (todo ++ concat packets)) []) (pointer_none at size (at + length todo) packets (omega arith))
          ∙ looked_on (take size (todo ++ concat packets)) []
          ∙ continued_none true (take size (todo ++ concat packets));
      came = λ came i ok e b.
          expect_within size came ok at part todo packets (omega arith)
          ∙ ap (λ y. cons_if (ok && y) (part ++ todo) (that_came size came (at + length todo) packets))
          (came_on size came i at size (length (drop size todo)) (length todo) (omega arith) (omega arith) (omega arith) b)
          ∙ ap (λ l. cons_if (ok && all_came size came (at + size) (length (drop size todo))) l (that_came size came (at + length todo) packets))
          joins
          ∙ ap (λ k. cons_if (ok && all_came size came (at + size) (length (drop size todo))) ((part ++ take size todo) ++ drop size todo)
          (that_came size came k packets)) there
          ∙ sym (expect_within size came ok (at + size) (part ++ take size todo) (drop size todo) packets (omega arith));
      lost = λ came i ok e b.
          expect_within size came ok at part todo packets (omega arith)
          ∙ ap (λ y. cons_if (ok && y) (part ++ todo) (that_came size came (at + length todo) packets))
          (lost_on size came i at size (length (drop size todo)) (length todo) some (omega arith) (omega arith) (omega arith) b)
          ∙ cons_lost ok (part ++ todo) (that_came size came (at + length todo) packets)
          ∙ ap (λ k. that_came size came k packets) there
          ∙ sym (expect_within size came false (at + size) (part ++ take size todo) (drop size todo) packets (omega arith));
    }

is_between : (s : Standing) → length s.part ≡ 0 → length s.todo ≡ 0 → s ≡ between s.rest
is_between s e f =
    ap (λ (l : List ℕ). record { part = l; todo = s.todo; rest = s.rest }) (nil_from_length s.part e)
    ∙ ap (λ (l : List ℕ). record { part = []; todo = l; rest = s.rest }) (nil_from_length s.todo f)

turns_within : (size at : ℕ) (s : Standing) → 0 < size → 0 < length s.part → 0 < length s.todo → AllByRecursion IsPacket (pending s) → size ≤ 2046
    → size ≤ length (s.todo ++ concat s.rest) → Turns size at s
turns_within size at s wide begun_part some all few le =
    let both = subst (λ (l : List (List ℕ)). AllByRecursion IsPacket l) (pending_within s.part s.todo s.rest some) all in
    let joined = length-append s.todo (concat s.rest) in
    elim (cases_lt (length s.todo) size) [
      | inl lt ↦ turns_over size at s.part s.todo s.rest both.0 both.1 begun_part some lt few (omega arith)
      | inr ge ↦ elim (cases_lt size (length s.todo)) [
        | inl more ↦ turns_on size at s.part s.todo s.rest both.0 begun_part wide more
        | inr even ↦ turns_even size at s.part s.todo s.rest both.0 begun_part some (omega arith)
      ]
    ]

pub turns : (size at : ℕ) (s : Standing) → IsStanding s → AllByRecursion IsPacket (pending s) → 0 < size → size ≤ 2046
    → size ≤ length (s.todo ++ concat s.rest) → Turns size at s
turns size at s standing all some few le =
    let joined = length-append s.todo (concat s.rest) in
    elim (cases_lt 0 (length s.todo)) [
      | inl more ↦ turns_within size at s some (standing.some more) more all few le
      | inr none ↦
          let e : length s.todo ≡ 0 = omega arith in
          let same = is_between s (standing.none e) e in
          subst (λ (t : Standing). Turns size at t) (sym same)
          (turns_between size at s.rest (subst (λ (l : List (List ℕ)). AllByRecursion IsPacket l) (pending_none s e) all) some (omega arith))
    ]
