-- Markers are searched in a stream: one octet more, and one place more.
use Rattle.std.proofs.Common.{◌≡◌, ℕ, zero, suc, ◌+◌, ◌-◌, ◌<◌, ◌≤◌, Bool, true, false, List, [], ◌∷◌, ◌++◌, take, drop, length, get_or, refl, sym}
use Rattle.std.proofs.Common.{ap, ◌∙◌, inl, inr, arith, zero-add}
use Rattle.std.specs.Prelude.{◌==◌, ◌&&◌, ◌||◌, nat_lt, if◌then◌else◌}
use Rattle.std.specs.List.{copy_within}
use Rattle.std.proofs.lemmas.Bool.{and_from, and_parts, cases_Bool, cases_lt, cond-true, cond-false, false_from_ne_true, le-leb, le-ltb, lt-leb}
use Rattle.std.proofs.lemmas.Bool.{lt-ltb, true≢false}
use Rattle.std.proofs.lemmas.List.{drop-take, drop_all, drop_more, get_or_append_left, length-append, length-drop, take_all, take_rest}
use Rattle.std.proofs.lemmas.List.Edits.{take-paste}
use Rattle.tc_octets.specs.Markers.{Heard, IsWaiting, behind, first_heard, fits, from_marker, from_place, heard, heard_in, is_tm_frame, marker}
use Rattle.tc_octets.specs.Markers.{may_begin, waiting}
use Rattle.tc_octets.specs.declared.profiles.Profile.{Profile}

-- ---- where a marker may begin

fits_past : (octets : List ℕ) (place mark : ℕ) → length octets ≤ place → fits octets place mark ≡ true
fits_past octets place mark h = ap (λ b. b || (get_or octets place 0 == mark)) (le-leb (length octets) place h)

fits_come : (octets : List ℕ) (place mark : ℕ) → place < length octets → fits octets place mark ≡ (get_or octets place 0 == mark)
fits_come octets place mark h = ap (λ b. b || (get_or octets place 0 == mark)) (lt-leb (length octets) place h)

fits_more : (octets more : List ℕ) (place mark : ℕ) → place < length octets → fits (octets ++ more) place mark ≡ fits octets place mark
fits_more octets more place mark h =
    fits_come (octets ++ more) place mark (omega (arith, length-append octets more))
    ∙ ap (λ n. n == mark) (get_or_append_left octets more 0 place h)
    ∙ sym (fits_come octets place mark h)

fits_front : (octets more : List ℕ) (place mark : ℕ) → fits (octets ++ more) place mark ≡ true → fits octets place mark ≡ true
fits_front octets more place mark e =
    elim (cases_lt place (length octets)) [
      | inl h ↦ sym (fits_more octets more place mark h) ∙ e
      | inr h ↦ fits_past octets place mark h
    ]

four_same : (a b c d p q r s : Bool) → a ≡ p → b ≡ q → c ≡ r → d ≡ s → (a && (b && (c && d))) ≡ (p && (q && (r && s)))
four_same a b c d p q r s e f g h =
    ap (λ x. x && (b && (c && d))) e ∙ ap (λ x. p && (x && (c && d))) f ∙ ap (λ x. p && (q && (x && d))) g ∙ ap (λ x. p && (q && (r && x))) h

pub begins_more : (octets more : List ℕ) → 4 ≤ length octets → may_begin (octets ++ more) ≡ may_begin octets
unfolding may_begin
begins_more octets more h =
    four_same (fits (octets ++ more) 0 0x1a) (fits (octets ++ more) 1 0xcf) (fits (octets ++ more) 2 0xfc) (fits (octets ++ more) 3 0x1d)
    (fits octets 0 0x1a) (fits octets 1 0xcf) (fits octets 2 0xfc) (fits octets 3 0x1d)
    (fits_more octets more 0 0x1a (omega arith)) (fits_more octets more 1 0xcf (omega arith))
    (fits_more octets more 2 0xfc (omega arith)) (fits_more octets more 3 0x1d (omega arith))

begins_front : (octets more : List ℕ) → may_begin (octets ++ more) ≡ true → may_begin octets ≡ true
unfolding may_begin
begins_front octets more e =
    let whole = octets ++ more in
    let first = and_parts (fits whole 0 0x1a) (fits whole 1 0xcf && (fits whole 2 0xfc && fits whole 3 0x1d)) e in
    let second = and_parts (fits whole 1 0xcf) (fits whole 2 0xfc && fits whole 3 0x1d) first.1 in
    let third = and_parts (fits whole 2 0xfc) (fits whole 3 0x1d) second.1 in
    and_from (fits octets 0 0x1a) (fits octets 1 0xcf && (fits octets 2 0xfc && fits octets 3 0x1d)) (fits_front octets more 0 0x1a first.0)
    (and_from (fits octets 1 0xcf) (fits octets 2 0xfc && fits octets 3 0x1d) (fits_front octets more 1 0xcf second.0)
    (and_from (fits octets 2 0xfc) (fits octets 3 0x1d) (fits_front octets more 2 0xfc third.0) (fits_front octets more 3 0x1d third.1)))

pub begins_not : (octets more : List ℕ) → may_begin octets ≡ false → may_begin (octets ++ more) ≡ false
begins_not octets more e = false_from_ne_true (may_begin (octets ++ more)) (λ good. true≢false (sym (begins_front octets more good) ∙ e))

none_begins : may_begin [] ≡ true
unfolding may_begin
none_begins = refl

whole_begins : may_begin marker ≡ true
unfolding may_begin
whole_begins = refl

pub marker_begins : (more : List ℕ) → may_begin (marker ++ more) ≡ true
marker_begins more = begins_more marker more (omega arith) ∙ whole_begins

from_here : (octet : ℕ) (octets : List ℕ) → may_begin (octet ∷ octets) ≡ true → from_marker (octet ∷ octets) ≡ octet ∷ octets
from_here octet octets e = cond-true (may_begin (octet ∷ octets)) (octet ∷ octets) (from_marker octets) e

from_next : (octet : ℕ) (octets : List ℕ) → may_begin (octet ∷ octets) ≡ false → from_marker (octet ∷ octets) ≡ from_marker octets
from_next octet octets e = cond-false (may_begin (octet ∷ octets)) (octet ∷ octets) (from_marker octets) e

from_begins : (octets : List ℕ) → may_begin (from_marker octets) ≡ true
from_begins [] = none_begins
from_begins (octet ∷ octets) =
    elim (cases_Bool (may_begin (octet ∷ octets))) [
      | inl good ↦ ap may_begin (from_here octet octets good) ∙ good
      | inr not_here ↦ ap may_begin (from_next octet octets not_here) ∙ from_begins octets
    ]

from_length : (octets : List ℕ) → length (from_marker octets) ≤ length octets
from_length [] = omega arith
from_length (octet ∷ octets) =
    elim (cases_Bool (may_begin (octet ∷ octets))) [
      | inl good ↦ (let same = ap (λ (l : List ℕ). length l) (from_here octet octets good) in omega arith)
      | inr not_here ↦ (let same = ap (λ (l : List ℕ). length l) (from_next octet octets not_here) in let few = from_length octets in omega arith)
    ]

-- ---- a loop that looks for it

pub begins_here : (octets : List ℕ) (start at : ℕ) → from_marker (drop start octets) ≡ from_marker (drop at octets) → at < length octets
    → may_begin (take (length octets - at) (drop at octets)) ≡ true → drop at octets ≡ from_marker (drop start octets)
begins_here octets start at same h good =
    let front = drop_more octets at 0 h in
    let here : may_begin (get_or octets at 0 ∷ drop (at + 1) octets) ≡ true = ap may_begin (sym (take_rest octets at ∙ front)) ∙ good in
    front ∙ sym (same ∙ ap from_marker front ∙ from_here (get_or octets at 0) (drop (at + 1) octets) here)

pub begins_later : (octets : List ℕ) (start at : ℕ) → from_marker (drop start octets) ≡ from_marker (drop at octets) → at < length octets
    → may_begin (take (length octets - at) (drop at octets)) ≡ false → from_marker (drop start octets) ≡ from_marker (drop (at + 1) octets)
begins_later octets start at same h not_here =
    let front = drop_more octets at 0 h in
    let later : may_begin (get_or octets at 0 ∷ drop (at + 1) octets) ≡ false = ap may_begin (sym (take_rest octets at ∙ front)) ∙ not_here in
    same ∙ ap from_marker front ∙ from_next (get_or octets at 0) (drop (at + 1) octets) later

pub begins_never : (octets : List ℕ) (start at : ℕ) → from_marker (drop start octets) ≡ from_marker (drop at octets) → length octets ≤ at
    → drop (length octets) octets ≡ from_marker (drop start octets)
begins_never octets start at same h =
    drop_all (length octets) octets (omega arith) ∙ sym (same ∙ ap from_marker (drop_all at octets h))

pub moved : (old now_there : List ℕ) (at end : ℕ) → at ≤ end → end ≤ length old → now_there ≡ copy_within old at end 0
    → take (end - at) now_there ≡ drop at (take end old)
moved old now_there at end h k e =
    let count = end - at in
    let sum : end ≡ at + count = omega arith in
    ap (take count) e
    ∙ ap (λ n. take n (copy_within old at end 0)) (sym (zero-add count))
    ∙ take-paste old 0 (drop at old) count (omega arith) (omega (arith, length-drop at old))
    ∙ sym (ap (λ n. drop at (take n old)) sum ∙ drop-take at count old)

-- ---- what is heard at a place

abbrev later : Profile → List ℕ → Heard → Heard → Heard
later profile octets next after = if is_tm_frame profile (behind profile octets) then first_heard (behind profile octets) after else next

abbrev begun : Profile → List ℕ → Heard → Heard → Heard
begun profile octets next after = if nat_lt (length octets) (profile.tm.length + 4) then waiting octets else later profile octets next after

pub place_passed : (profile : Profile) (octets : List ℕ) (next after : Heard) → may_begin octets ≡ false → from_place profile octets next after ≡ next
place_passed profile octets next after e = cond-false (may_begin octets) (begun profile octets next after) next e

pub place_waits : (profile : Profile) (octets : List ℕ) (next after : Heard) → may_begin octets ≡ true → length octets < profile.tm.length + 4
    → from_place profile octets next after ≡ waiting octets
place_waits profile octets next after e h =
    cond-true (may_begin octets) (begun profile octets next after) next e
    ∙ cond-true (nat_lt (length octets) (profile.tm.length + 4)) (waiting octets) (later profile octets next after)
    (lt-ltb (length octets) (profile.tm.length + 4) h)

place_whole : (profile : Profile) (octets : List ℕ) (next after : Heard) → may_begin octets ≡ true → profile.tm.length + 4 ≤ length octets
    → from_place profile octets next after ≡ later profile octets next after
place_whole profile octets next after e h =
    cond-true (may_begin octets) (begun profile octets next after) next e
    ∙ cond-false (nat_lt (length octets) (profile.tm.length + 4)) (waiting octets) (later profile octets next after)
    (le-ltb (length octets) (profile.tm.length + 4) h)

pub place_found : (profile : Profile) (octets : List ℕ) (next after : Heard) → may_begin octets ≡ true → profile.tm.length + 4 ≤ length octets
    → is_tm_frame profile (behind profile octets) ≡ true → from_place profile octets next after ≡ first_heard (behind profile octets) after
place_found profile octets next after e h good =
    place_whole profile octets next after e h
    ∙ cond-true (is_tm_frame profile (behind profile octets)) (first_heard (behind profile octets) after) next good

pub place_fault : (profile : Profile) (octets : List ℕ) (next after : Heard) → may_begin octets ≡ true → profile.tm.length + 4 ≤ length octets
    → is_tm_frame profile (behind profile octets) ≡ false → from_place profile octets next after ≡ next
place_fault profile octets next after e h fault =
    place_whole profile octets next after e h
    ∙ cond-false (is_tm_frame profile (behind profile octets)) (first_heard (behind profile octets) after) next fault

pub heard_at : (profile : Profile) (octet : ℕ) (rest : List ℕ)
    → heard profile 0 (octet ∷ rest) ≡ from_place profile (octet ∷ rest) (heard profile 0 rest) (heard profile (profile.tm.length + 3) rest)
unfolding heard
heard_at profile octet rest = refl

pub nothing_heard : (profile : Profile) → heard profile 0 [] ≡ waiting []
unfolding heard
nothing_heard profile = refl

all_passed : (profile : Profile) (passed : ℕ) (octets : List ℕ) → length octets ≤ passed → heard profile passed octets ≡ waiting []
unfolding heard
all_passed profile passed [] h = refl
all_passed profile zero (octet ∷ octets) h = absurd (omega arith)
all_passed profile (suc passed) (octet ∷ octets) h = all_passed profile passed octets (omega arith)

-- octets that are too few for a frame
heard_few : (profile : Profile) (octets : List ℕ) → length octets < profile.tm.length + 4 → heard profile 0 octets ≡ waiting (from_marker octets)
heard_few profile [] h = nothing_heard profile
heard_few profile (octet ∷ octets) h =
    let next = heard profile 0 octets in
    let after = heard profile (profile.tm.length + 3) octets in
    elim (cases_Bool (may_begin (octet ∷ octets))) [
      | inl good ↦ heard_at profile octet octets ∙ place_waits profile (octet ∷ octets) next after good h
          ∙ ap waiting (sym (from_here octet octets good))
      | inr not_here ↦ heard_at profile octet octets ∙ place_passed profile (octet ∷ octets) next after not_here
          ∙ heard_few profile octets (omega arith)
          ∙ ap waiting (sym (from_next octet octets not_here))
    ]

heard_begun : (profile : Profile) (octets : List ℕ) → may_begin octets ≡ true → length octets < profile.tm.length + 4
    → heard profile 0 octets ≡ waiting octets
heard_begun profile [] e h = nothing_heard profile
heard_begun profile (octet ∷ octets) e h =
    heard_at profile octet octets
    ∙ place_waits profile (octet ∷ octets) (heard profile 0 octets) (heard profile (profile.tm.length + 3) octets) e h

all_behind : (profile : Profile) (octets : List ℕ) → length octets ≡ profile.tm.length + 4 → behind profile octets ≡ drop 4 octets
all_behind profile octets e = take_all profile.tm.length (drop 4 octets) (omega (arith, length-drop 4 octets))

heard_whole : (profile : Profile) (octets : List ℕ) → may_begin octets ≡ true → length octets ≡ profile.tm.length + 4
    → is_tm_frame profile (drop 4 octets) ≡ true → heard profile 0 octets ≡ heard_in true octets
heard_whole profile [] e h good = absurd (omega arith)
heard_whole profile (octet ∷ octets) e h good =
    let all = all_behind profile (octet ∷ octets) h in
    heard_at profile octet octets
    ∙ place_found profile (octet ∷ octets) (heard profile 0 octets) (heard profile (profile.tm.length + 3) octets) e (omega arith)
    (ap (is_tm_frame profile) all ∙ good)
    ∙ ap (λ r. first_heard (behind profile (octet ∷ octets)) r) (all_passed profile (profile.tm.length + 3) octets (omega arith))
    ∙ ap (λ l. first_heard l (waiting [])) all

heard_fault : (profile : Profile) (octets : List ℕ) → may_begin octets ≡ true → length octets ≡ profile.tm.length + 4
    → is_tm_frame profile (drop 4 octets) ≡ false → heard profile 0 octets ≡ waiting (from_marker (drop 1 octets))
heard_fault profile [] e h fault = absurd (omega arith)
heard_fault profile (octet ∷ octets) e h fault =
    heard_at profile octet octets
    ∙ place_fault profile (octet ∷ octets) (heard profile 0 octets) (heard profile (profile.tm.length + 3) octets) e (omega arith)
    (ap (is_tm_frame profile) (all_behind profile (octet ∷ octets) h) ∙ fault)
    ∙ heard_few profile octets (omega arith)

-- ---- one octet more

one_longer : (waits : List ℕ) (octet : ℕ) → length (waits ++ octet ∷ []) ≡ length waits + 1
one_longer waits octet = length-append waits (octet ∷ [])

still_begun : (profile : Profile) (waits : List ℕ) (octet : ℕ) → IsWaiting profile waits → 4 < length (waits ++ octet ∷ [])
    → may_begin (waits ++ octet ∷ []) ≡ true
still_begun profile waits octet wait h = begins_more waits (octet ∷ []) (omega (arith, one_longer waits octet)) ∙ wait.begun

pub few_taken : (profile : Profile) (waits : List ℕ) (octet : ℕ) → length (waits ++ octet ∷ []) ≤ 4
    → heard_in false (from_marker (drop 0 (waits ++ octet ∷ []))) ≡ heard profile 0 (waits ++ octet ∷ [])
few_taken profile waits octet h = let stands = profile.tm.length_stands in sym (heard_few profile (waits ++ octet ∷ []) (omega arith))

pub more_taken : (profile : Profile) (waits : List ℕ) (octet : ℕ) → IsWaiting profile waits → 4 < length (waits ++ octet ∷ [])
    → length (waits ++ octet ∷ []) < profile.tm.length + 4 → heard_in false (waits ++ octet ∷ []) ≡ heard profile 0 (waits ++ octet ∷ [])
more_taken profile waits octet wait h k = sym (heard_begun profile (waits ++ octet ∷ []) (still_begun profile waits octet wait h) k)

whole_length : (profile : Profile) (waits : List ℕ) (octet : ℕ) → IsWaiting profile waits → profile.tm.length + 4 ≤ length (waits ++ octet ∷ [])
    → length (waits ++ octet ∷ []) ≡ profile.tm.length + 4
whole_length profile waits octet wait h = let few = wait.few in omega (arith, one_longer waits octet)

pub frame_taken : (profile : Profile) (waits : List ℕ) (octet : ℕ) → IsWaiting profile waits → 4 < length (waits ++ octet ∷ [])
    → profile.tm.length + 4 ≤ length (waits ++ octet ∷ [])
    → is_tm_frame profile (take (length (waits ++ octet ∷ []) - 4) (drop 4 (waits ++ octet ∷ []))) ≡ true
    → heard_in true (waits ++ octet ∷ []) ≡ heard profile 0 (waits ++ octet ∷ [])
frame_taken profile waits octet wait h k good =
    sym
    (heard_whole profile (waits ++ octet ∷ []) (still_begun profile waits octet wait h) (whole_length profile waits octet wait k)
    (ap (is_tm_frame profile) (sym (take_rest (waits ++ octet ∷ []) 4)) ∙ good))

pub fault_taken : (profile : Profile) (waits : List ℕ) (octet : ℕ) → IsWaiting profile waits → 4 < length (waits ++ octet ∷ [])
    → profile.tm.length + 4 ≤ length (waits ++ octet ∷ [])
    → is_tm_frame profile (take (length (waits ++ octet ∷ []) - 4) (drop 4 (waits ++ octet ∷ []))) ≡ false
    → heard_in false (from_marker (drop 1 (waits ++ octet ∷ []))) ≡ heard profile 0 (waits ++ octet ∷ [])
fault_taken profile waits octet wait h k fault =
    sym
    (heard_fault profile (waits ++ octet ∷ []) (still_begun profile waits octet wait h) (whole_length profile waits octet wait k)
    (ap (is_tm_frame profile) (sym (take_rest (waits ++ octet ∷ []) 4)) ∙ fault))

pub none_wait : (profile : Profile) → IsWaiting profile []
none_wait profile = record { few = omega arith; begun = none_begins }

pub few_wait : (profile : Profile) (added left : List ℕ) → left ≡ from_marker (drop 0 added) → length added ≤ 4 → IsWaiting profile left
few_wait profile added left e h =
    let stands = profile.tm.length_stands in
    let same = ap (λ (l : List ℕ). length l) e in
    let short = from_length added in
    record { few = omega arith; begun = ap may_begin e ∙ from_begins added }

pub more_wait : (profile : Profile) (waits added : List ℕ) (octet : ℕ) → IsWaiting profile waits → added ≡ waits ++ octet ∷ [] → 4 < length added
    → length added < profile.tm.length + 4 → IsWaiting profile added
more_wait profile waits added octet wait e h k =
    let same = ap (λ (l : List ℕ). length l) e in
    record { few = k; begun = ap may_begin e ∙ still_begun profile waits octet wait (omega arith) }

pub fault_waits : (profile : Profile) (waits added left : List ℕ) (octet : ℕ) → IsWaiting profile waits → added ≡ waits ++ octet ∷ []
    → left ≡ from_marker (drop 1 added) → IsWaiting profile left
fault_waits profile waits added left octet wait e f =
    let few = wait.few in
    let same = ap (λ (l : List ℕ). length l) e in
    let longer = one_longer waits octet in
    let moved_on = ap (λ (l : List ℕ). length l) f in
    let fewer = from_length (drop 1 added) in
    let one_less = length-drop 1 added in
    record { few = omega arith; begun = ap may_begin f ∙ from_begins (drop 1 added) }
