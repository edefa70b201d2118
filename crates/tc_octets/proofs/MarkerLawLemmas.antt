-- Streams of marked frames: pieces, whole streams, and what waits.
use Rattle.std.proofs.Common.{◌≡◌, ℕ, zero, suc, ◌+◌, ◌<◌, ◌≤◌, true, List, [], ◌∷◌, ◌++◌, take, drop, length, refl, sym, ap, ◌∙◌, subst, inl, inr}
use Rattle.std.proofs.Common.{arith}
use Rattle.std.proofs.lemmas.Bool.{cases_Bool, cases_lt}
use Rattle.std.proofs.lemmas.List.{drop-append-le, length-append, length-drop, take-append-le, take_at}
use Rattle.tc_octets.specs.Markers.{GoesOn, Heard, IsHeard, Listener, after, behind, first_heard, heard, is_tm_frame, marker, may_begin}
use Rattle.tc_octets.specs.TmFrames.{IsTmFrame, TmParts, tm_frame_of}
use Rattle.tc_octets.specs.declared.profiles.Profile.{Profile}
use Rattle.tc_octets.proofs.MarkerLemmas.{begins_more, begins_not, heard_at, marker_begins, place_fault, place_found, place_passed}
use Rattle.tc_octets.proofs.MarkerLemmas.{place_waits}
use Rattle.tc_octets.proofs.MarkerFrameLemmas.{frame_is, frame_length}

-- ---- pieces

-- what is heard once more octets came
abbrev joined : Profile → Heard → List ℕ → Heard
joined profile before octets =
    record { frames = before.frames ++ (heard profile 0 (before.waits ++ octets)).frames; waits = (heard profile 0 (before.waits ++ octets)).waits }

behind_more : (profile : Profile) (octets more : List ℕ) → profile.tm.length + 4 ≤ length octets
    → behind profile (octets ++ more) ≡ behind profile octets
behind_more profile octets more h =
    ap (take profile.tm.length) (drop-append-le 4 octets more (omega arith))
    ∙ take-append-le profile.tm.length (drop 4 octets) more (omega (arith, length-drop 4 octets))

-- what is heard once the octets of a stream are passed over that belong to a frame
pieces_from : (profile : Profile) (passed : ℕ) (first rest : List ℕ) → passed ≤ length first
    → heard profile passed (first ++ rest) ≡ joined profile (heard profile passed first) rest
unfolding heard
pieces_from profile zero [] rest h = refl
pieces_from profile (suc passed) [] rest h = absurd (omega arith)
pieces_from profile (suc passed) (octet ∷ first) rest h = pieces_from profile passed first rest (omega arith)
pieces_from profile zero (octet ∷ first) rest h =
    let some = octet ∷ first in
    let next = heard profile 0 first in
    let after = heard profile (profile.tm.length + 3) first in
    let all_next = heard profile 0 (first ++ rest) in
    let all_after = heard profile (profile.tm.length + 3) (first ++ rest) in
    elim (cases_Bool (may_begin some)) [
      | inl good ↦ elim (cases_lt (length some) (profile.tm.length + 4)) [
        | inl short ↦ ap (λ r. joined profile r rest) (sym (place_waits profile some next after good short))
        | inr long ↦ (let still : may_begin (some ++ rest) ≡ true = begins_more some rest (omega arith) ∙ good in
            let longer : profile.tm.length + 4 ≤ length (some ++ rest) = omega (arith, length-append some rest) in
            let same = behind_more profile some rest long in
            elim (cases_Bool (is_tm_frame profile (behind profile some))) [
              | inl frame ↦ place_found profile (some ++ rest) all_next all_after still longer (ap (is_tm_frame profile) same ∙ frame)
                  ∙ ap (λ l. first_heard l all_after) same
                  ∙ ap (λ r. first_heard (behind profile some) r) (pieces_from profile (profile.tm.length + 3) first rest (omega arith))
                  ∙ ap (λ r. joined profile r rest) (sym (place_found profile some next after good long frame))
              | inr fault ↦ place_fault profile (some ++ rest) all_next all_after still longer (ap (is_tm_frame profile) same ∙ fault)
                  ∙ pieces_from profile 0 first rest (omega arith)
                  ∙ ap (λ r. joined profile r rest) (sym (place_fault profile some next after good long fault))
            ])
      ]
      | inr not_here ↦ place_passed profile (some ++ rest) all_next all_after (begins_not some rest not_here)
          ∙ pieces_from profile 0 first rest (omega arith)
          ∙ ap (λ r. joined profile r rest) (sym (place_passed profile some next after not_here))
    ]

-- However a stream is cut into pieces, the same is heard.
pieces : (profile : Profile) (first rest : List ℕ) → heard profile 0 (first ++ rest) ≡ joined profile (heard profile 0 first) rest
pieces profile first rest = pieces_from profile 0 first rest (omega arith)

-- ---- octet by octet

pub goes_on : (old new : Listener) (octet : ℕ) → new ≡ after old octet → GoesOn old new octet
goes_on old new octet e =
    let one : GoesOn old (after old octet) octet =
    record {
      hears =
          λ stream same. pieces old.profile stream (octet ∷ [])
          ∙ ap (λ (l : List ℕ). record {
            frames = (heard old.profile 0 stream).frames ++ (heard old.profile 0 (l ++ octet ∷ [])).frames;
            waits = (heard old.profile 0 (l ++ octet ∷ [])).waits;
          })
          (sym same);
    } in
    subst (λ (l : Listener). GoesOn old l octet) (sym e) one

-- ---- what waits

few_from : (profile : Profile) (passed : ℕ) (stream : List ℕ) → length (heard profile passed stream).waits < profile.tm.length + 4
unfolding heard
few_from profile passed [] = omega arith
few_from profile (suc passed) (octet ∷ rest) = few_from profile passed rest
few_from profile zero (octet ∷ rest) =
    let some = octet ∷ rest in
    let next = heard profile 0 rest in
    let after = heard profile (profile.tm.length + 3) rest in
    elim (cases_Bool (may_begin some)) [
      | inl good ↦ elim (cases_lt (length some) (profile.tm.length + 4)) [
        | inl short ↦ subst (λ (r : Heard). length r.waits < profile.tm.length + 4) (sym (place_waits profile some next after good short)) short
        | inr long ↦ elim (cases_Bool (is_tm_frame profile (behind profile some))) [
          | inl frame ↦ subst (λ (r : Heard). length r.waits < profile.tm.length + 4) (sym (place_found profile some next after good long frame))
              (few_from profile (profile.tm.length + 3) rest)
          | inr fault ↦ subst (λ (r : Heard). length r.waits < profile.tm.length + 4) (sym (place_fault profile some next after good long fault))
              (few_from profile 0 rest)
        ]
      ]
      | inr not_here ↦ subst (λ (r : Heard). length r.waits < profile.tm.length + 4) (sym (place_passed profile some next after not_here))
          (few_from profile 0 rest)
    ]

pub few_after : (old new : Listener) (octet : ℕ) → new ≡ after old octet → length new.last.waits < new.profile.tm.length + 4
few_after old new octet e =
    subst (λ (l : Listener). length l.last.waits < l.profile.tm.length + 4) (sym e) (few_from old.profile 0 (old.last.waits ++ octet ∷ []))

-- ---- marked frames

passed_over : (profile : Profile) (passed : ℕ) (first rest : List ℕ) → length first ≡ passed
    → heard profile passed (first ++ rest) ≡ heard profile 0 rest
unfolding heard
passed_over profile passed [] rest e = ap (λ n. heard profile n rest) (sym e)
passed_over profile zero (octet ∷ first) rest e = absurd (omega arith)
passed_over profile (suc passed) (octet ∷ first) rest e = passed_over profile passed first rest (omega arith)

one_heard : (profile : Profile) (frame : TmParts) (rest : List ℕ) → IsTmFrame profile frame
    → heard profile 0 (marker ++ tm_frame_of profile frame ++ rest) ≡ first_heard (tm_frame_of profile frame) (heard profile 0 rest)
one_heard profile frame rest is =
    let octets = tm_frame_of profile frame in
    let long = frame_length profile frame is in
    let all = marker ++ octets ++ rest in
    let behind_it : behind profile all ≡ octets = take_at octets rest profile.tm.length long in
    let sum = length-append octets rest in
    heard_at profile 0x1a (0xcf ∷ 0xfc ∷ 0x1d ∷ (octets ++ rest))
    ∙ place_found profile all (heard profile 0 (0xcf ∷ 0xfc ∷ 0x1d ∷ (octets ++ rest)))
    (heard profile (profile.tm.length + 3) (0xcf ∷ 0xfc ∷ 0x1d ∷ (octets ++ rest))) (marker_begins (octets ++ rest)) (omega arith)
    (ap (is_tm_frame profile) behind_it ∙ frame_is profile frame is)
    ∙ ap (λ l. first_heard l (heard profile (profile.tm.length + 3) (0xcf ∷ 0xfc ∷ 0x1d ∷ (octets ++ rest)))) behind_it
    ∙ ap (λ r. first_heard octets r) (passed_over profile (profile.tm.length + 3) (0xcf ∷ 0xfc ∷ 0x1d ∷ octets) rest (omega arith))

pub first_there : (profile : Profile) (frame : TmParts) (octets : List ℕ) → IsTmFrame profile frame → octets ≡ tm_frame_of profile frame
    → IsHeard profile octets
first_there profile frame octets is e =
    let there : IsHeard profile (tm_frame_of profile frame) = record { first = λ rest. one_heard profile frame rest is } in
    subst (λ (l : List ℕ). IsHeard profile l) (sym e) there
