-- The packets that begin one after the other in octets.
use Rattle.std.proofs.Common.{◌≡◌, ℕ, zero, suc, ◌+◌, ◌-◌, ◌/◌, ◌%◌, ◌^◌, ◌<◌, ◌≤◌, List, [], ◌∷◌, ◌++◌, take, drop, length, get_or, refl, sym, ap}
use Rattle.std.proofs.Common.{◌∙◌, arith, append_assoc, inl, inr}
use Rattle.std.specs.Prelude.{Bool, true, false, map, not, ◌&&◌, ◌==◌, nat_le, nat_lt, if◌then◌else◌, Option}
use borrow.Author.Tests.{ltb-false, ltb-true}
use Rattle.std.proofs.lemmas.Bool.{and_cases, and_parts, cond-true, cond-false, cond_both, cases_lt, le-leb, lt-leb, lt-ltb, or_parts, true≢false}
use Rattle.std.proofs.lemmas.List.{append-nil, drop-drop, drop_all, length-drop, map_push}
use Rattle.tc_octets.specs.TmFrames.{TmParts}
use Rattle.tc_packets.specs.declared.packet_readers.Item.{Item}
use Rattle.tc_packets.specs.declared.packet_readers.Item.TheVariants as item
use Rattle.tc_packets.specs.Receivers.{IsPart, IsShortPart, Received, Receiver, and_then, begun, carried, continued, counted, cut, dropped, ended, from_start}
use Rattle.tc_packets.specs.Receivers.{given_of, gap, is_next, is_skipped, looked_at, marked, packet, quiet, received, skipped}
use Rattle.tc_packets.specs.SpacePackets.{whole_length_in}

passed : (n : ℕ) (octets : List ℕ) → begun n octets ≡ begun 0 (drop n octets)
unfolding begun
passed zero octets = refl
passed (suc n) [] = refl
passed (suc n) (octet ∷ octets) = passed n octets

pub begun_nil : begun 0 [] ≡ quiet []
unfolding begun
begun_nil = refl

-- the first packet, and what begins after it
begun_cons : (octet : ℕ) (octets : List ℕ)
    → begun 0 (octet ∷ octets) ≡ from_start (octet ∷ octets) (begun 0 (drop (whole_length_in (octet ∷ octets)) (octet ∷ octets)))
unfolding begun
begun_cons octet octets =
    let one : whole_length_in (octet ∷ octets) ≡ suc (whole_length_in (octet ∷ octets) - 1) = omega arith in
    ap (λ r. from_start (octet ∷ octets) r)
    (passed (whole_length_in (octet ∷ octets) - 1) octets ∙ sym (ap (λ n. begun 0 (drop n (octet ∷ octets))) one))

begun_at : (octets : List ℕ) → 0 < length octets → begun 0 octets ≡ from_start octets (begun 0 (drop (whole_length_in octets) octets))
begun_at [] h = absurd (omega arith)
begun_at (octet ∷ octets) h = begun_cons octet octets

abbrev cut_off : Received
cut_off = record { given = cut ∷ []; part = [] }

abbrev later : List ℕ → Received → Received
later octets rest = if nat_lt (length octets) (whole_length_in octets) then quiet octets else marked (packet (take (whole_length_in octets) octets))
    rest

begun_none : (octets : List ℕ) → 0 < length octets → 2 ^ 5 ≤ get_or octets 0 0 → begun 0 octets ≡ cut_off
begun_none octets h k =
    begun_at octets h
    ∙ cond-true (nat_le (2 ^ 5) (get_or octets 0 0)) cut_off (later octets (begun 0 (drop (whole_length_in octets) octets)))
    (le-leb (2 ^ 5) (get_or octets 0 0) k)

begun_one : (octets : List ℕ) → 0 < length octets → get_or octets 0 0 < 2 ^ 5
    → begun 0 octets ≡ later octets (begun 0 (drop (whole_length_in octets) octets))
begun_one octets h k =
    begun_at octets h
    ∙ cond-false (nat_le (2 ^ 5) (get_or octets 0 0)) cut_off (later octets (begun 0 (drop (whole_length_in octets) octets)))
    (lt-leb (2 ^ 5) (get_or octets 0 0) k)

pub begun_short : (octets : List ℕ) → 0 < length octets → get_or octets 0 0 < 2 ^ 5 → nat_lt (length octets) (whole_length_in octets) ≡ true
    → begun 0 octets ≡ quiet octets
begun_short octets h k short =
    begun_one octets h k
    ∙ cond-true (nat_lt (length octets) (whole_length_in octets)) (quiet octets)
    (marked (packet (take (whole_length_in octets) octets)) (begun 0 (drop (whole_length_in octets) octets))) short

pub begun_whole : (octets : List ℕ) → 0 < length octets → get_or octets 0 0 < 2 ^ 5 → nat_lt (length octets) (whole_length_in octets) ≡ false
    → begun 0 octets ≡ marked (packet (take (whole_length_in octets) octets)) (begun 0 (drop (whole_length_in octets) octets))
begun_whole octets h k whole =
    begun_one octets h k
    ∙ cond-false (nat_lt (length octets) (whole_length_in octets)) (quiet octets)
    (marked (packet (take (whole_length_in octets) octets)) (begun 0 (drop (whole_length_in octets) octets))) whole

-- ---- a loop that takes them: what came so far, and what begins from here on, are all

pub record Begins {A : Type 0} (octets : List ℕ) (at : ℕ) (old out : List (Item A)) : Type 0 where
  pub bound : at ≤ length octets
  pub given : map given_of old ++ (begun 0 octets).given ≡ map given_of out ++ (begun 0 (drop at octets)).given
  pub part : (begun 0 octets).part ≡ (begun 0 (drop at octets)).part

-- all of it came, and this is left
pub record Began {A : Type 0} (octets : List ℕ) (old out : List (Item A)) (left : List ℕ) : Type 0 where
  pub given : map given_of out ≡ map given_of old ++ (begun 0 octets).given
  pub part : left ≡ (begun 0 octets).part

rest_some : (octets : List ℕ) (at : ℕ) → at < length octets → 0 < length (drop at octets)
rest_some octets at h = omega (arith, length-drop at octets)

begins_to : {A : Type 0} (octets : List ℕ) (at : ℕ) (old out : List (Item A)) (here : Received) → Begins octets at old out
    → begun 0 (drop at octets) ≡ here
    → (map given_of old ++ (begun 0 octets).given ≡ map given_of out ++ here.given) × ((begun 0 octets).part ≡ here.part)
begins_to octets at old out here h e =
    (h.given ∙ ap (λ (r : Received). map given_of out ++ r.given) e, h.part ∙ ap (λ (r : Received). r.part) e)

pub begins_cut : {A : Type 0} (octets : List ℕ) (at : ℕ) (old out new : List (Item A)) → Begins octets at old out → at < length octets
    → 2 ^ 5 ≤ get_or (drop at octets) 0 0 → new ≡ out ++ item.Cut ∷ [] → Began octets old new []
begins_cut octets at old out new h lt high e =
    let here = begins_to octets at old out cut_off h (begun_none (drop at octets) (rest_some octets at lt) high) in
    record { given = ap (map given_of) e ∙ map_push given_of out item.Cut ∙ sym here.0; part = sym here.1 }

pub begins_short : {A : Type 0} (octets : List ℕ) (at : ℕ) (old out : List (Item A)) → Begins octets at old out → at < length octets
    → get_or (drop at octets) 0 0 < 2 ^ 5 → nat_lt (length (drop at octets)) (whole_length_in (drop at octets)) ≡ true
    → Began octets old out (drop at octets)
begins_short octets at old out h lt low short =
    let here = begins_to octets at old out (quiet (drop at octets)) h (begun_short (drop at octets) (rest_some octets at lt) low short) in
    record { given = sym (append-nil (map given_of out)) ∙ sym here.0; part = sym here.1 }

pub begins_end : {A : Type 0} (octets : List ℕ) (at : ℕ) (old out : List (Item A)) → Begins octets at old out → length octets ≤ at
    → Began octets old out []
begins_end octets at old out h le =
    let here = begins_to octets at old out (quiet []) h (ap (begun 0) (drop_all at octets le) ∙ begun_nil) in
    record { given = sym (append-nil (map given_of out)) ∙ sym here.0; part = sym here.1 }

pub begins_whole : {A : Type 0} (octets : List ℕ) (at size : ℕ) (old out new : List (Item A)) → Begins octets at old out → at < length octets
    → get_or (drop at octets) 0 0 < 2 ^ 5 → nat_lt (length (drop at octets)) (whole_length_in (drop at octets)) ≡ false
    → size ≡ whole_length_in (drop at octets)
    → map given_of new ≡ map given_of out ++ packet (take size (drop at octets)) ∷ [] → Begins octets (at + size) old new
begins_whole octets at size old out new h lt low whole told e =
    let rest = drop at octets in
    let next : Received = marked (packet (take size rest)) (begun 0 (drop (at + size) octets)) in
    let on : begun 0 rest ≡ next =
    begun_whole rest (rest_some octets at lt) low whole
    ∙ ap (λ n. marked (packet (take n rest)) (begun 0 (drop n rest))) (sym told)
    ∙ ap (λ l. marked (packet (take size rest)) (begun 0 l)) (drop-drop size at octets) in
    let here = begins_to octets at old out next h on in
    let fits = ltb-false (length rest) (whole_length_in rest) whole in
    record {
      bound = omega (arith, length-drop at octets);
      given = here.0
          ∙ sym (append_assoc (map given_of out) (packet (take size rest) ∷ []) (begun 0 (drop (at + size) octets)).given)
          ∙ ap (λ l. l ++ (begun 0 (drop (at + size) octets)).given) (sym e);
      part = here.1;
    }

-- ---- pointers of frames that are not skipped

pub not_skipped : (status size : ℕ) → is_skipped status size ≡ false → status % 2 ^ 11 < 2046 → status % 2 ^ 11 ≤ size
unfolding is_skipped
not_skipped status size e h =
    let past = or_parts (not (status / 2 ^ 11 == 3)) (nat_le size (status % 2 ^ 11) && nat_lt (status % 2 ^ 11) 2046) e in
    elim (cases_lt (status % 2 ^ 11) size) [
      | inl lt ↦ omega arith
      | inr ge ↦ elim (and_cases (nat_le size (status % 2 ^ 11)) (nat_lt (status % 2 ^ 11) 2046) past.1) [
        | inl a ↦ absurd (true≢false (sym (le-leb size (status % 2 ^ 11) ge) ∙ a))
        | inr b ↦ absurd (true≢false (sym (lt-ltb (status % 2 ^ 11) 2046 h) ∙ b))
      ]
    ]

-- ---- the packet in progress is less than a whole one

none_small : IsPart []
none_small = omega arith

dropped_small : (part : List ℕ) → IsPart (dropped part).part
dropped_small [] = none_small
dropped_small (octet ∷ octets) = none_small

counted_small : (expected : Option ℕ) (count : ℕ) (part : List ℕ) → IsPart part → IsPart (counted expected count part).part
unfolding counted
counted_small expected count part h =
    cond_both (is_next expected count) (quiet part) (marked gap (dropped part)) (λ (r : Received). IsPart r.part) (λ e. h) (λ e. dropped_small part)

ended_small : (may_go_on : Bool) (octets : List ℕ) → IsPart (ended may_go_on octets).part
ended_small may_go_on octets =
    cond_both (length octets == whole_length_in octets) (record { given = packet octets ∷ []; part = [] })
    (if may_go_on && nat_lt (length octets) (whole_length_in octets) then quiet octets else dropped octets) (λ (r : Received). IsPart r.part)
    (λ e. none_small)
    (λ e. cond_both (may_go_on && nat_lt (length octets) (whole_length_in octets)) (quiet octets) (dropped octets) (λ (r : Received). IsPart r.part)
    (λ f. ltb-true (length octets) (whole_length_in octets) (and_parts may_go_on (nat_lt (length octets) (whole_length_in octets)) f).1)
    (λ f. dropped_small octets))

continued_small : (may_go_on : Bool) (part octets : List ℕ) → IsPart (continued may_go_on part octets).part
unfolding continued
continued_small may_go_on [] octets = none_small
continued_small may_go_on (first ∷ part) octets = ended_small may_go_on (first ∷ part ++ octets)

begun_small : (passed : ℕ) (octets : List ℕ) → IsPart (begun passed octets).part
unfolding begun
begun_small passed [] = none_small
begun_small (suc passed) (octet ∷ octets) = begun_small passed octets
begun_small zero (octet ∷ octets) =
    cond_both (nat_le (2 ^ 5) octet) cut_off (later (octet ∷ octets) (begun (whole_length_in (octet ∷ octets) - 1) octets))
    (λ (r : Received). IsPart r.part)
    (λ e. none_small)
    (λ e. cond_both (nat_lt (length (octet ∷ octets)) (whole_length_in (octet ∷ octets))) (quiet (octet ∷ octets))
    (marked (packet (take (whole_length_in (octet ∷ octets)) (octet ∷ octets))) (begun (whole_length_in (octet ∷ octets) - 1) octets))
    (λ (r : Received). IsPart r.part)
    (λ f. ltb-true (length (octet ∷ octets)) (whole_length_in (octet ∷ octets)) f)
    (λ f. begun_small (whole_length_in (octet ∷ octets) - 1) octets))

carried_small : (pointer : ℕ) (content part : List ℕ) → IsPart part → IsPart (carried pointer content part).part
unfolding carried
carried_small pointer content part h =
    let on : Received = and_then (continued false part (take pointer content)) (λ _. begun 0 (drop pointer content)) in
    cond_both (pointer == 2046) (quiet part) (if pointer == 2047 then continued true part content else on) (λ (r : Received). IsPart r.part) (λ e. h)
    (λ e. cond_both (pointer == 2047) (continued true part content) on (λ (r : Received). IsPart r.part) (λ f. continued_small true part content)
    (λ f. begun_small 0 (drop pointer content)))

looked_small : (status : ℕ) (content part : List ℕ) → IsPart part → IsPart (looked_at status content part).part
unfolding looked_at
looked_small status content part h =
    cond_both (is_skipped status (length content)) (marked skipped (dropped part)) (carried (status % 2 ^ 11) content part)
    (λ (r : Received). IsPart r.part)
    (λ e. dropped_small part) (λ e. carried_small (status % 2 ^ 11) content part h)

pub received_small : (receiver : Receiver) (frame : TmParts) → IsPart receiver.part → IsPart (received receiver frame).part
unfolding received
received_small receiver frame h =
    looked_small frame.status frame.content (counted receiver.expected frame.channel_count receiver.part).part
    (counted_small receiver.expected frame.channel_count receiver.part h)

pub short_part : (part : List ℕ) → IsPart part → IsShortPart part
short_part part h = record {
  less = h;
  most = λ small.
      let high = small 4 in
      let low = small 5 in
      omega arith;
}
