-- If frames are lost, the packets come all of whose octets came.
use Rattle.std.proofs.Common.{◌≡◌, ℕ, suc, ◌+◌, ◌*◌, ◌/◌, ◌%◌, ◌^◌, ◌<◌, Bool, true, false, List, [], ◌∷◌, ◌++◌, map, take, drop, length, get_or}
use Rattle.std.proofs.Common.{Option, Some, refl, sym, ap, subst, ◌∙◌, inl, inr, arith}
use Rattle.std.specs.Prelude.{◌||◌}
use Rattle.std.specs.List.{AllByRecursion, concat, range_with_len}
use Rattle.std.proofs.lemmas.Bool.{cases_Bool, cond-false, cond-true, eq-eqb, ne_eqb}
use Rattle.std.proofs.lemmas.List.{drop-drop, get_or-drop}
use Rattle.std.proofs.lemmas.List.FromFn.{length-map-range_with_len}
use Rattle.tc_octets.specs.TmFrames.{TmParts}
use Rattle.tc_octets.specs.declared.profiles.Profile.{Profile}
use Rattle.tc_packets.specs.Carriers.{carrying, data_length, filled, frames_of, idle_frame, pointer_in, starts}
use Rattle.tc_packets.specs.CarrierLaws.{IsPacket, run}
use Rattle.tc_packets.specs.LossLaws.{Behind, FewLost, ComesOver, LossesShow, at_rest, kept, lost_after, missing, packets_in, that_came}
use Rattle.tc_packets.specs.Receivers.{Given, Received, Receiver, and_then, counted, cut, dropped, gap, is_next, looked_at, marked, packet, quiet}
use Rattle.tc_packets.specs.Receivers.{received, received_to, skipped}
use Rattle.tc_packets.specs.declared.tm_senders.TmSender.{TmSender}
use Rattle.tc_packets.proofs.CameLemmas.{chosen, chosen_all, chosen_none, expect_of, live}
use Rattle.tc_packets.proofs.SenderLemmas.{data_bounds}
use Rattle.tc_packets.proofs.CutLemmas.{Standing, between, expect, looked_idle}
use Rattle.tc_packets.proofs.TurnLemmas.{Turns}
use Rattle.tc_packets.proofs.CarrierLawLemmas.{Stands, fill_none, fills, none_left, packets_come_back, reports_come_back, stands_first, stands_on, turn_at}

-- ---- the packets among what was given

packets_append : (xs ys : List Given) → packets_in (xs ++ ys) ≡ packets_in xs ++ packets_in ys
packets_append [] ys = refl
packets_append (packet octets ∷ xs) ys = ap (λ l. octets ∷ l) (packets_append xs ys)
packets_append (gap ∷ xs) ys = packets_append xs ys
packets_append (cut ∷ xs) ys = packets_append xs ys
packets_append (skipped ∷ xs) ys = packets_append xs ys

packets_only : (packets : List (List ℕ)) → packets_in (map packet packets) ≡ packets
packets_only [] = refl
packets_only (first ∷ packets) = ap (λ l. first ∷ l) (packets_only packets)

-- ---- the packet in progress when a frame comes

-- A frame with this count comes: what is in progress then, and no packet is given for the count.
record Arrives (receiver : Receiver) (count : ℕ) (part : List ℕ) : Type 0 where
  in_progress : (counted receiver.expected (count % 2 ^ 8) receiver.part).part ≡ part
  silent : packets_in (counted receiver.expected (count % 2 ^ 8) receiver.part).given ≡ []

counted_next : (expected : Option ℕ) (count : ℕ) (part : List ℕ) → is_next expected count ≡ true → counted expected count part ≡ quiet part
unfolding counted
counted_next expected count part e = cond-true (is_next expected count) (quiet part) (marked gap (dropped part)) e

counted_gap : (expected : Option ℕ) (count : ℕ) (part : List ℕ) → is_next expected count ≡ false
    → counted expected count part ≡ marked gap (dropped part)
unfolding counted
counted_gap expected count part e = cond-false (is_next expected count) (quiet part) (marked gap (dropped part)) e

dropped_part : (part : List ℕ) → (dropped part).part ≡ []
dropped_part [] = refl
dropped_part (octet ∷ part) = refl

dropped_silent : (part : List ℕ) → packets_in (dropped part).given ≡ []
dropped_silent [] = refl
dropped_silent (octet ∷ part) = refl

live_none : (ok : Bool) → live ok [] ≡ []
live_none true = refl
live_none false = refl

-- before a frame with this count, where so many were lost just before
data Before (receiver : Receiver) (count lost : ℕ) (ok : Bool) (part : List ℕ) : Type 0 where
  follows : lost ≡ 0 → receiver.part ≡ live ok part → receiver.expected ≡ Some (count % 2 ^ 8) → Before receiver count lost ok part
  empty : receiver.part ≡ [] → live ok part ≡ [] → Before receiver count lost ok part
  stale : (expected : ℕ) → 0 < lost → ok ≡ false → receiver.expected ≡ Some expected → expected < 2 ^ 8 → (expected + lost) % 2 ^ 8 ≡ count % 2 ^ 8
      → Before receiver count lost ok part

arrives_empty : (receiver : Receiver) (count : ℕ) → receiver.part ≡ [] → Arrives receiver count []
arrives_empty receiver count e =
    elim (cases_Bool (is_next receiver.expected (count % 2 ^ 8))) [
      | inl next ↦
          let brings = counted_next receiver.expected (count % 2 ^ 8) receiver.part next in
          record { in_progress = ap (λ (r : Received). r.part) brings ∙ e; silent = ap (λ (r : Received). packets_in r.given) brings }
      | inr other ↦
          let brings = counted_gap receiver.expected (count % 2 ^ 8) receiver.part other in
          record {
            in_progress = ap (λ (r : Received). r.part) brings ∙ dropped_part receiver.part;
            silent = ap (λ (r : Received). packets_in r.given) brings ∙ dropped_silent receiver.part;
          }
    ]

arrives : (receiver : Receiver) (count lost : ℕ) (ok : Bool) (part : List ℕ) → lost < 2 ^ 8 → Before receiver count lost ok part
    → Arrives receiver count (live ok part)
arrives receiver count lost ok part few (follows none e expects) =
    let next : is_next receiver.expected (count % 2 ^ 8) ≡ true =
    ap (λ (x : Option ℕ). is_next x (count % 2 ^ 8)) expects ∙ eq-eqb (count % 2 ^ 8) (count % 2 ^ 8) refl in
    let brings = counted_next receiver.expected (count % 2 ^ 8) receiver.part next in
    record { in_progress = ap (λ (r : Received). r.part) brings ∙ e; silent = ap (λ (r : Received). packets_in r.given) brings }
arrives receiver count lost ok part few (empty e none) = subst (λ (l : List ℕ). Arrives receiver count l) (sym none) (arrives_empty receiver count e)
arrives receiver count lost ok part few (stale expected some no_more expects small late) =
    let other : is_next receiver.expected (count % 2 ^ 8) ≡ false =
    ap (λ (x : Option ℕ). is_next x (count % 2 ^ 8)) expects ∙ ne_eqb (count % 2 ^ 8) expected (λ same. omega arith) in
    let brings = counted_gap receiver.expected (count % 2 ^ 8) receiver.part other in
    record {
      in_progress = ap (λ (r : Received). r.part) brings ∙ dropped_part receiver.part ∙ sym (ap (λ b. live b part) no_more);
      silent = ap (λ (r : Received). packets_in r.given) brings ∙ dropped_silent receiver.part;
    }

lost_one : (receiver : Receiver) (count lost : ℕ) (ok : Bool) (part later : List ℕ) → Before receiver count lost ok part
    → Before receiver (count + 1) (lost + 1) false later
lost_one receiver count lost ok part later (follows none e expects) = stale (count % 2 ^ 8) (omega arith) refl expects (omega arith) (omega arith)
lost_one receiver count lost ok part later (empty e none) = empty e refl
lost_one receiver count lost ok part later (stale expected some no_more expects small late) =
    stale expected (omega arith) refl expects small (omega arith)

-- ---- a frame that comes

or_true : (b : Bool) → (b || true) ≡ true
or_true true = refl
or_true false = refl

or_false : (b : Bool) → (b || false) ≡ b
or_false true = refl
or_false false = refl

seen : (size at : ℕ) (s : Standing) (t : Turns size at s) (ok : Bool)
    → looked_at (3 * 2 ^ 11 + pointer_in at size (starts (at + length s.todo) s.rest)) (take size (s.todo ++ concat s.rest)) (live ok s.part)
    ≡ record { given = map packet (chosen ok t.ended ++ t.inner); part = live (t.over || ok) t.next.part }
seen size at s t true =
    t.received
    ∙ ap (λ l. record { given = map packet l; part = t.next.part }) (t.whole_is ∙ ap (λ l. l ++ t.inner) (sym (chosen_all t.ended)))
    ∙ ap (λ b. record { given = map packet (chosen true t.ended ++ t.inner); part = live b t.next.part }) (sym (or_true t.over))
seen size at s t false =
    t.missed
    ∙ ap (λ l. record { given = map packet (l ++ t.inner); part = live t.over t.next.part }) (sym (chosen_none t.ended))
    ∙ ap (λ b. record { given = map packet (chosen false t.ended ++ t.inner); part = live b t.next.part }) (sym (or_false t.over))

received_is : (receiver : Receiver) (frame : TmParts)
    → received receiver frame ≡ and_then (counted receiver.expected frame.channel_count receiver.part)
    (λ part. looked_at frame.status frame.content part)
unfolding received
received_is receiver frame = refl

record Brings (receiver : Receiver) (frame : TmParts) (packets : List (List ℕ)) (part : List ℕ) : Type 0 where
  packets_are : packets_in (received receiver frame).given ≡ packets
  part_is : (received receiver frame).part ≡ part

brings_by : (receiver : Receiver) (frame : TmParts) (part left : List ℕ) (packets : List (List ℕ))
    → (counted receiver.expected frame.channel_count receiver.part).part ≡ part
    → packets_in (counted receiver.expected frame.channel_count receiver.part).given ≡ []
    → looked_at frame.status frame.content part ≡ record { given = map packet packets; part = left } → Brings receiver frame packets left
brings_by receiver frame part left packets e silent looked =
    let count : Received = counted receiver.expected frame.channel_count receiver.part in
    let here : looked_at frame.status frame.content count.part ≡ record { given = map packet packets; part = left } =
    ap (λ l. looked_at frame.status frame.content l) e ∙ looked in
    record {
      packets_are =
          ap (λ (r : Received). packets_in r.given) (received_is receiver frame)
          ∙ packets_append count.given (looked_at frame.status frame.content count.part).given
          ∙ ap (λ l. l ++ packets_in (looked_at frame.status frame.content count.part).given) silent
          ∙ ap (λ (r : Received). packets_in r.given) here
          ∙ packets_only packets;
      part_is = ap (λ (r : Received). r.part) (received_is receiver frame) ∙ ap (λ (r : Received). r.part) here;
    }

frame_comes : (profile : Profile) (sender : TmSender) (word : ℕ) (all : List (List ℕ)) (n i : ℕ) (s : Standing) (receiver : Receiver) (ok : Bool)
    → Stands profile all n i s → (t : Turns (data_length profile) (i * data_length profile) s)
    → Arrives receiver (sender.channel_count + i) (live ok s.part)
    → Brings receiver (carrying profile sender word (concat all) (starts 0 all) i) (chosen ok t.ended ++ t.inner) (live (t.over || ok) t.next.part)
frame_comes profile sender word all n i s receiver ok f t a =
    let size : ℕ = data_length profile in
    let frame : TmParts = carrying profile sender word (concat all) (starts 0 all) i in
    brings_by receiver frame (live ok s.part) (live (t.over || ok) t.next.part) (chosen ok t.ended ++ t.inner) a.in_progress a.silent
    (ap (λ k. looked_at (3 * 2 ^ 11 + k) frame.content (live ok s.part)) (f.pointers (i * size) size (omega arith))
    ∙ ap (λ l. looked_at (3 * 2 ^ 11 + pointer_in (i * size) size (starts (i * size + length s.todo) s.rest)) (take size l) (live ok s.part)) f.stream
    ∙ seen size (i * size) s t ok)

-- ---- one frame after the other

flag_at : (came : List Bool) (i : ℕ) (b : Bool) (more : List Bool) → drop i came ≡ b ∷ more → get_or came i false ≡ b
flag_at came i b more e =
    let here : i ≡ i + 0 = omega arith in
    ap (λ k. get_or came k false) here ∙ sym (get_or-drop i came 0 false) ∙ ap (λ (l : List Bool). get_or l 0 false) e

flags_on : (came : List Bool) (i : ℕ) (b : Bool) (more : List Bool) → drop i came ≡ b ∷ more → drop (i + 1) came ≡ more
flags_on came i b more e = sym (drop-drop 1 i came) ∙ ap (λ (l : List Bool). drop 1 l) e

expect_none : (size : ℕ) (came : List Bool) (ok : Bool) (at : ℕ) (s : Standing) → s.todo ≡ [] → s.rest ≡ [] → expect size came ok at s ≡ []
expect_none size came ok at s e f =
    ap (λ l. expect_of size came ok at s.part l s.rest) e ∙ ap (λ l. that_came size came at l) f

-- what a receiver knows at the end of a list
behind_of : (receiver : Receiver) (count lost : ℕ) (ok : Bool) (part : List ℕ) → part ≡ [] → Before receiver count lost ok part
    → Behind receiver count lost
behind_of receiver count lost ok part e (follows none is expects) = at_rest (is ∙ ap (live ok) e ∙ live_none ok)
behind_of receiver count lost ok part e (empty is none) = at_rest is
behind_of receiver count lost ok part e (stale expected some no_more expects small late) = missing expected some expects small late

before_of : (receiver : Receiver) (count lost : ℕ) → Behind receiver count lost → Before receiver count lost false []
before_of receiver count lost (at_rest is) = empty is refl
before_of receiver count lost (missing expected some expects small late) = stale expected some refl expects small late

record Losses (receiver : Receiver) (flags : List Bool) (frames : List TmParts) (packets : List (List ℕ)) (count lost : ℕ) : Type 0 where
  packets_are : packets_in (run receiver (kept flags frames)).given ≡ packets
  ready : Behind (run receiver (kept flags frames)).receiver count (lost_after lost flags)

losses : (profile : Profile) (sender : TmSender) (word : ℕ) (all : List (List ℕ)) (came flags : List Bool) (i lost : ℕ) (ok : Bool) (s : Standing)
    (receiver : Receiver) → Stands profile all (length flags) i s → drop i came ≡ flags → FewLost lost flags
    → Before receiver (sender.channel_count + i) lost ok s.part
    → Losses receiver flags (map (carrying profile sender word (concat all) (starts 0 all)) (range_with_len i (length flags)))
    (expect (data_length profile) came ok (i * data_length profile) s) (sender.channel_count + i + length flags) lost
losses profile sender word all came [] i lost ok s receiver f e few before =
    let done = none_left profile all i s f in
    let count : sender.channel_count + i ≡ sender.channel_count + i + length {A = Bool} [] = omega arith in
    record {
      packets_are = sym (expect_none (data_length profile) came ok (i * data_length profile) s done.todo done.rest);
      ready = subst (λ (k : ℕ). Behind receiver k lost) count (behind_of receiver (sender.channel_count + i) lost ok s.part done.part before);
    }
losses profile sender word all came (true ∷ flags) i lost ok s receiver f e few before =
    let size : ℕ = data_length profile in
    let t = turn_at profile all (length flags) i s f in
    let frame : TmParts = carrying profile sender word (concat all) (starts 0 all) i in
    let frames : List TmParts = kept flags (map (carrying profile sender word (concat all) (starts 0 all)) (range_with_len (i + 1) (length flags))) in
    let brings =
    frame_comes profile sender word all (suc (length flags)) i s receiver ok f t
    (arrives receiver (sender.channel_count + i) lost ok s.part few.0 before) in
    let counts : ((sender.channel_count + i) % 2 ^ 8 + 1) % 2 ^ 8 ≡ (sender.channel_count + (i + 1)) % 2 ^ 8 = omega arith in
    let count : sender.channel_count + (i + 1) + length flags ≡ sender.channel_count + i + suc (length flags) = omega arith in
    let turn : i * size + size ≡ (i + 1) * size = omega arith in
    let more =
    losses profile sender word all came flags (i + 1) 0 (t.over || ok) t.next (received_to receiver frame)
    (stands_on profile all (length flags) i s f t)
    (flags_on came i true flags e) few.1 (follows refl brings.part_is (ap (λ (n : ℕ). Some n) counts)) in
    record {
      packets_are =
          packets_append (received receiver frame).given (run (received_to receiver frame) frames).given
          ∙ ap (λ l. l ++ packets_in (run (received_to receiver frame) frames).given) brings.packets_are
          ∙ ap (λ l. (chosen ok t.ended ++ t.inner) ++ l) more.packets_are
          ∙ ap (λ k. (chosen ok t.ended ++ t.inner) ++ expect size came (t.over || ok) k t.next) (sym turn)
          ∙ sym (t.came came i ok refl (flag_at came i true flags e));
      ready = subst (λ (k : ℕ). Behind (run (received_to receiver frame) frames).receiver k (lost_after 0 flags)) count more.ready;
    }
losses profile sender word all came (false ∷ flags) i lost ok s receiver f e few before =
    let size : ℕ = data_length profile in
    let t = turn_at profile all (length flags) i s f in
    let frames : List TmParts = kept flags (map (carrying profile sender word (concat all) (starts 0 all)) (range_with_len (i + 1) (length flags))) in
    let turn : i * size + size ≡ (i + 1) * size = omega arith in
    let next_count : sender.channel_count + i + 1 ≡ sender.channel_count + (i + 1) = omega arith in
    let count : sender.channel_count + (i + 1) + length flags ≡ sender.channel_count + i + suc (length flags) = omega arith in
    let more =
    losses profile sender word all came flags (i + 1) (lost + 1) false t.next receiver (stands_on profile all (length flags) i s f t)
    (flags_on came i false flags e) few
    (subst (λ (k : ℕ). Before receiver k (lost + 1) false t.next.part) next_count
    (lost_one receiver (sender.channel_count + i) lost ok s.part t.next.part before)) in
    record {
      packets_are =
          more.packets_are
          ∙ ap (λ k. expect size came false k t.next) (sym turn)
          ∙ sym (t.lost came i ok refl (flag_at came i false flags e));
      ready = subst (λ (k : ℕ). Behind (run receiver frames).receiver k (lost_after (lost + 1) flags)) count more.ready;
    }

-- ---- a list of packets

losses_filled : (profile : Profile) (sender : TmSender) (word : ℕ) (first : List ℕ) (packets : List (List ℕ)) (receiver : Receiver) (lost : ℕ)
    (came : List Bool)
    → AllByRecursion IsPacket (first ∷ packets) → Behind receiver sender.channel_count lost
    → length came ≡ length (frames_of profile sender word (first ∷ packets)) → FewLost lost came
    → LossesShow profile sender word (first ∷ packets) receiver lost came
losses_filled profile sender word first packets receiver lost came all behind long few =
    let size : ℕ = data_length profile in
    let sent : List (List ℕ) = filled size (first ∷ packets) in
    let turn : ℕ → TmParts = carrying profile sender word (concat sent) (starts 0 sent) in
    let filled_up = fills profile (first ∷ packets) all in
    let turns : length (frames_of profile sender word (first ∷ packets)) ≡ length (concat sent) / size =
    length-map-range_with_len turn 0 (length (concat sent) / size) in
    let count : length came ≡ length (concat sent) / size = long ∙ turns in
    let start : 0 * size ≡ 0 = omega arith in
    let first_count : sender.channel_count ≡ sender.channel_count + 0 = omega arith in
    let last_count : sender.channel_count + 0 + length came ≡ sender.channel_count + length (frames_of profile sender word (first ∷ packets)) =
    omega arith in
    let shown =
    losses profile sender word sent came came 0 lost false (between sent) receiver
    (stands_first profile sent (length came) filled_up.whole (filled_up.left ∙ ap (λ k. k * size) (sym count))) refl few
    (subst (λ (k : ℕ). Before receiver k lost false []) first_count (before_of receiver sender.channel_count lost behind)) in
    record {
      packets_are =
          ap (λ k. packets_in (run receiver (kept came (map turn (range_with_len 0 k)))).given) (sym count)
          ∙ shown.packets_are
          ∙ ap (λ k. that_came size came k sent) start;
      ready =
          subst (λ (k : ℕ). Behind (run receiver (kept came (map turn (range_with_len 0 k)))).receiver
          (sender.channel_count + length (frames_of profile sender word (first ∷ packets))) (lost_after lost came)) count
          (subst (λ (k : ℕ). Behind (run receiver (kept came (map turn (range_with_len 0 (length came))))).receiver k (lost_after lost came))
          last_count shown.ready);
    }

kept_none : (flags : List Bool) → kept flags [] ≡ []
kept_none [] = refl
kept_none (b ∷ flags) = refl

idle_brings : (profile : Profile) (sender : TmSender) (word : ℕ) (receiver : Receiver) (lost : ℕ) → lost < 2 ^ 8
    → Behind receiver sender.channel_count lost → Brings receiver (idle_frame profile sender word) [] []
idle_brings profile sender word receiver lost few behind =
    let frame : TmParts = idle_frame profile sender word in
    let count : sender.channel_count ≡ sender.channel_count + 0 = omega arith in
    let a =
    arrives receiver (sender.channel_count + 0) lost false [] few
    (subst (λ (k : ℕ). Before receiver k lost false []) count (before_of receiver sender.channel_count lost behind)) in
    brings_by receiver frame [] [] [] a.in_progress a.silent (looked_idle frame.content [])

losses_idle : (profile : Profile) (sender : TmSender) (word : ℕ) (receiver : Receiver) (lost : ℕ) (b : Bool)
    → Behind receiver sender.channel_count lost → FewLost lost (b ∷ []) → LossesShow profile sender word [] receiver lost (b ∷ [])
losses_idle profile sender word receiver lost true behind few =
    let size : ℕ = data_length profile in
    let bounds = data_bounds profile in
    let over : 0 % size ≡ 0 = omega arith in
    let frame : TmParts = idle_frame profile sender word in
    let brings = idle_brings profile sender word receiver lost few.0 behind in
    record {
      packets_are =
          packets_append (received receiver frame).given []
          ∙ ap (λ l. l ++ []) brings.packets_are
          ∙ ap (λ l. that_came size (true ∷ []) 0 l) (sym (fill_none size 0 over));
      ready = at_rest brings.part_is;
    }
losses_idle profile sender word receiver lost false behind few =
    let size : ℕ = data_length profile in
    let bounds = data_bounds profile in
    let over : 0 % size ≡ 0 = omega arith in
    record {
      packets_are = ap (λ l. that_came size (false ∷ []) 0 l) (sym (fill_none size 0 over));
      ready =
          behind_of receiver (sender.channel_count + 1) (lost + 1) false [] refl
          (lost_one receiver sender.channel_count lost false [] [] (before_of receiver sender.channel_count lost behind));
    }

whole_packets_come : (profile : Profile) (sender : TmSender) (word : ℕ) (packets : List (List ℕ)) (receiver : Receiver) (lost : ℕ) (came : List Bool)
    → AllByRecursion IsPacket packets → Behind receiver sender.channel_count lost → length came ≡ length (frames_of profile sender word packets)
    → FewLost lost came → LossesShow profile sender word packets receiver lost came
whole_packets_come profile sender word [] receiver lost [] all behind long few = absurd (omega arith)
whole_packets_come profile sender word [] receiver lost (b ∷ []) all behind long few = losses_idle profile sender word receiver lost b behind few
whole_packets_come profile sender word [] receiver lost (b ∷ c ∷ more) all behind long few = absurd (omega arith)
whole_packets_come profile sender word (first ∷ packets) receiver lost came all behind long few =
    losses_filled profile sender word first packets receiver lost came all behind long few

pub comes_over : (profile : Profile) (sender : TmSender) (word : ℕ) (packets : List (List ℕ)) → ComesOver profile sender word packets
comes_over profile sender word packets = record {
  whole = λ receiver all awaits. packets_come_back profile sender word packets receiver all awaits;
  reports = λ receiver all none awaits. reports_come_back profile sender word packets receiver all none awaits;
  losses = λ receiver lost came all behind long few. whole_packets_come profile sender word packets receiver lost came all behind long few;
}
