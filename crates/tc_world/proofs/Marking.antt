-- What flies and asks, piece by piece.
use Rattle.std.proofs.Common.{◌≡◌, ◌≢◌, ℕ, ◌+◌, ◌*◌, ◌/◌, ◌%◌, ◌<◌, ◌≤◌, ◌==◌, ◌⊎◌, inl, inr, ⊎_elim, Bool, true, false, List, [], ◌∷◌, ◌++◌, map, refl, sym, ◌∙◌, ap, subst, arith}
use Rattle.std.specs.Int.{from_bool}
use Rattle.std.proofs.lemmas.Bool.{false≢true}
use Rattle.tc_types.specs.declared.link.frames.Frame.{Frame}
use Rattle.tc_types.specs.declared.link.frames.Frame.TheVariants.{Ad, Unlock, SetVr}
use Rattle.tc_types.specs.declared.link.reports.Report.{Report}
use Rattle.tc_types.specs.declared.link.reports.Report.TheVariants.{Word, Telemetry}
use Rattle.tc_farm.specs.declared.clcws.Clcw.{Clcw}
use Rattle.tc_farm.specs.declared.farms.FarmView.{FarmView}
use Rattle.tc_farm.specs.ControlWord.{word_of}
use Rattle.tc_fop.specs.Machine.{Machine}
use Rattle.tc_fop.specs.Fair.{is_retransmitting}
use Rattle.tc_world.specs.Sublist.{IsSublist}
use Rattle.tc_world.specs.Abstraction.{report_value}
use Rattle.tc_world.specs.Kept.{Each, Pairs, AreWords, AreControls}
use Rattle.tc_world.specs.Fair.{words_of, is_set, asks, NoneAsks, NoControl, ControlsFirst, has_control, IsMarked, IsCalming, IsLevel}
use Rattle.tc_world.proofs.Lists.{each_sub, each_append, each_map, pairs_sub, pairs_push}

-- ---- the words of the downlink

pub words_of_sub : (xs ys : List Report) → IsSublist xs ys → IsSublist (words_of xs) (words_of ys)
words_of_sub xs [] h = ap words_of h
words_of_sub xs (Word word ∷ ys) h =
    elim h [
      | inl k ↦ inl (words_of_sub xs ys k)
      | inr k ↦ inr (words_of k.0, ap words_of k.1, words_of_sub k.0 ys k.2)
    ]
words_of_sub xs (Telemetry telemetry ∷ ys) h =
    elim h [
      | inl k ↦ words_of_sub xs ys k
      | inr k ↦ subst (λ (l : List Report). IsSublist (words_of l) (words_of ys)) (sym k.1) (words_of_sub k.0 ys k.2)
    ]

pub words_of_append : (xs ys : List Report) → words_of (xs ++ ys) ≡ words_of xs ++ words_of ys
words_of_append [] ys = refl
words_of_append (Word word ∷ xs) ys = ap (λ (l : List ℕ). word ∷ l) (words_of_append xs ys)
words_of_append (Telemetry telemetry ∷ xs) ys = words_of_append xs ys

-- a flag of a word
bit_11 : (vc lockout wait retransmit farm_b report : ℕ) → retransmit ≤ 1 → farm_b ≤ 3 → report < 256
    → (16777216 + vc * 262144 + lockout * 8192 + wait * 4096 + retransmit * 2048 + farm_b * 512 + report) / 2048 % 2 ≡ retransmit
bit_11 vc lockout wait retransmit farm_b report a b c = omega (arith, a, b, c)

bit_12 : (vc lockout wait retransmit farm_b report : ℕ) → wait ≤ 1 → retransmit ≤ 1 → farm_b ≤ 3 → report < 256
    → (16777216 + vc * 262144 + lockout * 8192 + wait * 4096 + retransmit * 2048 + farm_b * 512 + report) / 4096 % 2 ≡ wait
bit_12 vc lockout wait retransmit farm_b report w a b c = omega (arith, w, a, b, c)

bit_13 : (vc lockout wait retransmit farm_b report : ℕ) → lockout ≤ 1 → wait ≤ 1 → retransmit ≤ 1 → farm_b ≤ 3 → report < 256
    → (16777216 + vc * 262144 + lockout * 8192 + wait * 4096 + retransmit * 2048 + farm_b * 512 + report) / 8192 % 2 ≡ lockout
bit_13 vc lockout wait retransmit farm_b report l w a b c = omega (arith, l, w, a, b, c)

flag_le : (b : Bool) → from_bool b ≤ 1
flag_le true = omega arith
flag_le false = omega arith

flag_is : (b : Bool) → (from_bool b == 1) ≡ b
flag_is true = refl
flag_is false = refl

pub asks_is : (c : Clcw) → c.report < 256 → asks (word_of c) ≡ c.retransmit
asks_is c small =
    ap (λ (n : ℕ). n == 1) (bit_11 c.vc (from_bool c.lockout) (from_bool c.wait) (from_bool c.retransmit) c.farm_b c.report (flag_le c.retransmit) c.farm_b_fits small)
    ∙ flag_is c.retransmit

pub waits_is : (c : Clcw) → c.report < 256 → is_set 12 (word_of c) ≡ c.wait
waits_is c small =
    ap (λ (n : ℕ). n == 1) (bit_12 c.vc (from_bool c.lockout) (from_bool c.wait) (from_bool c.retransmit) c.farm_b c.report (flag_le c.wait) (flag_le c.retransmit) c.farm_b_fits small)
    ∙ flag_is c.wait

pub locks_is : (c : Clcw) → c.report < 256 → is_set 13 (word_of c) ≡ c.lockout
locks_is c small =
    ap (λ (n : ℕ). n == 1) (bit_13 c.vc (from_bool c.lockout) (from_bool c.wait) (from_bool c.retransmit) c.farm_b c.report (flag_le c.lockout) (flag_le c.wait) (flag_le c.retransmit) c.farm_b_fits small)
    ∙ flag_is c.lockout

-- ---- the frames of the uplink

no_control_sub : (fs gs : List Frame) → IsSublist fs gs → NoControl gs → NoControl fs
no_control_sub fs [] h a = subst (λ (l : List Frame). NoControl l) (sym h) tt
no_control_sub fs (Ad number request body ∷ gs) h a =
    elim h [
      | inl k ↦ no_control_sub fs gs k a
      | inr k ↦ subst (λ (l : List Frame). NoControl l) (sym k.1) (no_control_sub k.0 gs k.2 a)
    ]
no_control_sub fs (Unlock ∷ gs) h a = absurd a
no_control_sub fs (SetVr v ∷ gs) h a = absurd a

no_control_first : (fs : List Frame) → NoControl fs → ControlsFirst fs
no_control_first [] a = tt
no_control_first (Ad number request body ∷ fs) a = a
no_control_first (Unlock ∷ fs) a = absurd a
no_control_first (SetVr v ∷ fs) a = absurd a

pub first_sub : (fs gs : List Frame) → IsSublist fs gs → ControlsFirst gs → ControlsFirst fs
first_sub fs [] h a = subst (λ (l : List Frame). ControlsFirst l) (sym h) tt
first_sub fs (Ad number request body ∷ gs) h a =
    elim h [
      | inl k ↦ no_control_first fs (no_control_sub fs gs k a)
      | inr k ↦ subst (λ (l : List Frame). ControlsFirst l) (sym k.1) (no_control_sub k.0 gs k.2 a)
    ]
first_sub fs (Unlock ∷ gs) h a =
    elim h [
      | inl k ↦ first_sub fs gs k a
      | inr k ↦ subst (λ (l : List Frame). ControlsFirst l) (sym k.1) (first_sub k.0 gs k.2 a)
    ]
first_sub fs (SetVr v ∷ gs) h a =
    elim h [
      | inl k ↦ first_sub fs gs k a
      | inr k ↦ subst (λ (l : List Frame). ControlsFirst l) (sym k.1) (first_sub k.0 gs k.2 a)
    ]

no_control_append : (fs gs : List Frame) → NoControl fs → NoControl gs → NoControl (fs ++ gs)
no_control_append [] gs a b = b
no_control_append (Ad number request body ∷ fs) gs a b = no_control_append fs gs a b
no_control_append (Unlock ∷ fs) gs a b = absurd a
no_control_append (SetVr v ∷ fs) gs a b = absurd a

pub first_append : (fs gs : List Frame) → ControlsFirst fs → NoControl gs → ControlsFirst (fs ++ gs)
first_append [] gs a b = no_control_first gs b
first_append (Ad number request body ∷ fs) gs a b = no_control_append fs gs a b
first_append (Unlock ∷ fs) gs a b = first_append fs gs a b
first_append (SetVr v ∷ fs) gs a b = first_append fs gs a b

pub controls_first : (base : ℕ) (fs : List Frame) → AreControls base fs → ControlsFirst fs
controls_first base [] a = tt
controls_first base (Ad number request body ∷ fs) a = absurd a
controls_first base (Unlock ∷ fs) a = controls_first base fs a
controls_first base (SetVr v ∷ fs) a = controls_first base fs a.1

pub none_has : (fs : List Frame) → NoControl fs → has_control fs ≡ false
none_has [] a = refl
none_has (Ad number request body ∷ fs) a = none_has fs a
none_has (Unlock ∷ fs) a = absurd a
none_has (SetVr v ∷ fs) a = absurd a

pub has_sub : (fs gs : List Frame) → IsSublist fs gs → has_control fs ≡ true → has_control gs ≡ true
has_sub fs [] h e = ap has_control (sym h) ∙ e
has_sub fs (Ad number request body ∷ gs) h e =
    elim h [
      | inl k ↦ has_sub fs gs k e
      | inr k ↦ has_sub k.0 gs k.2 (ap has_control (sym k.1) ∙ e)
    ]
has_sub fs (Unlock ∷ gs) h e = refl
has_sub fs (SetVr v ∷ gs) h e = refl

pub has_append : (fs gs : List Frame) → NoControl gs → has_control (fs ++ gs) ≡ true → has_control fs ≡ true
has_append [] gs a e = sym (none_has gs a) ∙ e
has_append (Ad number request body ∷ fs) gs a e = has_append fs gs a e
has_append (Unlock ∷ fs) gs a e = refl
has_append (SetVr v ∷ fs) gs a e = refl

pub map_no_control : {T : Type 0} (f : T → Frame) → ((x : T) → NoControl (f x ∷ [])) → (xs : List T) → NoControl (map f xs)
map_no_control f h [] = tt
map_no_control f h (x ∷ xs) = no_control_append (f x ∷ []) (map f xs) (h x) (map_no_control f h xs)

pub no_control_both : (fs gs : List Frame) → NoControl fs → NoControl gs → NoControl (fs ++ gs)
no_control_both fs gs a b = no_control_append fs gs a b

-- ---- report values, and the reports for which the words fly

-- two numbers less than 256 apart are not the same
pub apart : (base n r m : ℕ) → n ≤ r → r < m → m ≤ n + 255 → (base + r) % 256 ≢ (base + m) % 256
apart base n r m low high near = λ e. absurd (omega (arith, low, high, near, e))

-- no word reports the number of a position that lies above its own
pub not_beyond : (base n m : ℕ) (xs : List Report) (rs : List ℕ) → AreWords base xs rs → Each (λ (r : ℕ). n ≤ r) rs → Each (λ (r : ℕ). r < m) rs
    → m ≤ n + 255 → Each (λ (x : ℕ). report_value x ≢ (base + m) % 256) (words_of xs)
not_beyond base n m [] rs words low high near = tt
not_beyond base n m (Word word ∷ xs) rs words low high near =
    let lows : Each (λ (r : ℕ). n ≤ r) (words.0 ∷ words.1) = subst (Each (λ (r : ℕ). n ≤ r)) words.2 low in
    let highs : Each (λ (r : ℕ). r < m) (words.0 ∷ words.1) = subst (Each (λ (r : ℕ). r < m)) words.2 high in (
      (λ e. apart base n words.0 m lows.0 highs.0 near (sym words.3 ∙ e)),
      not_beyond base n m xs words.1 words.4 lows.1 highs.1 near,
    )
not_beyond base n m (Telemetry telemetry ∷ xs) rs words low high near = not_beyond base n m xs rs words low high near

-- ---- the marks, kept

-- each pair, from what holds of each
pairs_each : (P : ℕ → Type 0) (R : ℕ → ℕ → Type 0) (xs : List ℕ) → ((x y : ℕ) → P x → P y → R x y) → Each P xs → Pairs R xs
pairs_each P R [] f e = tt
pairs_each P R (x ∷ xs) f e = (each_map P (R x) xs (λ y p. f x y e.0 p) e.1, pairs_each P R xs f e.1)

-- nothing asks
pub marked_calm : (m : Machine) (farm : FarmView) (up : List Frame) (words : List ℕ) → NoneAsks words → farm.retransmit ≡ false
    → is_retransmitting m.state ≡ false → ControlsFirst up → IsMarked m farm up words
marked_calm m farm up words none calm state first = record {
  below = each_map (λ (x : ℕ). asks x ≡ false) (λ (x : ℕ). asks x ≡ true → report_value x ≢ m.vs) words (λ x n a. absurd (false≢true (sym n ∙ a))) none;
  below_farm = λ a. absurd (false≢true (sym calm ∙ a));
  on = pairs_each (λ (x : ℕ). asks x ≡ false) (λ (x y : ℕ). asks x ≡ true → report_value x ≡ report_value y → asks y ≡ true) words (λ x y n k a. absurd (false≢true (sym n ∙ a))) none;
  on_farm = each_map (λ (x : ℕ). asks x ≡ false) (λ (x : ℕ). asks x ≡ true → report_value x ≡ farm.vr → farm.retransmit ≡ true) words (λ x n a. absurd (false≢true (sym n ∙ a))) none;
  asked = λ s. absurd (false≢true (sym state ∙ s));
  asked_farm = λ s. absurd (false≢true (sym state ∙ s));
  first = first;
  quiet = λ c. (none, calm);
}

-- words are left out and frames; the FARM has the same V(R) and Retransmit
pub marked_sub : (m : Machine) (farm new : FarmView) (up left : List Frame) (words some : List ℕ) → IsMarked m farm up words
    → new.vr ≡ farm.vr → new.retransmit ≡ farm.retransmit → IsSublist left up → IsSublist some words → IsMarked m new left some
marked_sub m farm new up left words some h vr retransmit sub_up sub = record {
  below = each_sub (λ (x : ℕ). asks x ≡ true → report_value x ≢ m.vs) some words sub h.below;
  below_farm = λ a e. h.below_farm (sym retransmit ∙ a) (sym vr ∙ e);
  on = pairs_sub (λ (x y : ℕ). asks x ≡ true → report_value x ≡ report_value y → asks y ≡ true) some words sub h.on;
  on_farm = each_map (λ (x : ℕ). asks x ≡ true → report_value x ≡ farm.vr → farm.retransmit ≡ true) (λ (x : ℕ). asks x ≡ true → report_value x ≡ new.vr → new.retransmit ≡ true) some
      (λ x f a e. retransmit ∙ f a (e ∙ vr))
      (each_sub (λ (x : ℕ). asks x ≡ true → report_value x ≡ farm.vr → farm.retransmit ≡ true) some words sub h.on_farm);
  asked = λ s. each_sub (λ (x : ℕ). report_value x ≡ m.nn → asks x ≡ true) some words sub (h.asked s);
  asked_farm = λ s e. retransmit ∙ h.asked_farm s (sym vr ∙ e);
  first = first_sub left up sub_up h.first;
  quiet = λ c. let q = h.quiet (has_sub left up sub_up c) in
      (each_sub (λ (x : ℕ). asks x ≡ false) some words sub q.0, retransmit ∙ q.1);
}

-- the FARM's word is put behind
pub marked_tell : (m : Machine) (farm : FarmView) (up : List Frame) (words : List ℕ) (word : ℕ) → IsMarked m farm up words
    → report_value word ≡ farm.vr → asks word ≡ farm.retransmit → IsMarked m farm up (words ++ word ∷ [])
marked_tell m farm up words word h value flag = record {
  below = each_append (λ (x : ℕ). asks x ≡ true → report_value x ≢ m.vs) words (word ∷ []) h.below
      ((λ a e. h.below_farm (sym flag ∙ a) (sym value ∙ e)), tt);
  below_farm = h.below_farm;
  on = pairs_push (λ (x y : ℕ). asks x ≡ true → report_value x ≡ report_value y → asks y ≡ true) words word h.on
      (each_map (λ (x : ℕ). asks x ≡ true → report_value x ≡ farm.vr → farm.retransmit ≡ true) (λ (x : ℕ). asks x ≡ true → report_value x ≡ report_value word → asks word ≡ true) words
      (λ x f a e. flag ∙ f a (e ∙ value)) h.on_farm);
  on_farm = each_append (λ (x : ℕ). asks x ≡ true → report_value x ≡ farm.vr → farm.retransmit ≡ true) words (word ∷ []) h.on_farm
      ((λ a e. sym flag ∙ a), tt);
  asked = λ s. each_append (λ (x : ℕ). report_value x ≡ m.nn → asks x ≡ true) words (word ∷ []) (h.asked s)
      ((λ e. flag ∙ h.asked_farm s (sym value ∙ e)), tt);
  asked_farm = h.asked_farm;
  first = h.first;
  quiet = λ c. let q = h.quiet c in
      (each_append (λ (x : ℕ). asks x ≡ false) words (word ∷ []) q.0 ((flag ∙ q.1), tt), q.1);
}

-- a type-AD frame was accepted: no word reports the next number
pub marked_accept : (m : Machine) (farm new : FarmView) (up rest : List Frame) (words : List ℕ) → IsMarked m farm up words
    → new.retransmit ≡ false → Each (λ (x : ℕ). report_value x ≢ new.vr) words → new.vr ≢ m.nn → NoControl rest → IsMarked m new rest words
marked_accept m farm new up rest words h flag beyond ahead none = record {
  below = h.below;
  below_farm = λ a. absurd (false≢true (sym flag ∙ a));
  on = h.on;
  on_farm = each_map (λ (x : ℕ). report_value x ≢ new.vr) (λ (x : ℕ). asks x ≡ true → report_value x ≡ new.vr → new.retransmit ≡ true) words
      (λ x f a e. absurd (f e)) beyond;
  asked = h.asked;
  asked_farm = λ s e. absurd (ahead e);
  first = no_control_first rest none;
  quiet = λ c. absurd (false≢true (sym (none_has rest none) ∙ c));
}

-- a type-AD frame was discarded, and perhaps Retransmit was set
pub marked_discard : (m : Machine) (farm new : FarmView) (up rest : List Frame) (words : List ℕ) → IsMarked m farm up words
    → new.vr ≡ farm.vr → (farm.retransmit ≡ true → new.retransmit ≡ true) → (new.retransmit ≡ true → (farm.retransmit ≡ true) ⊎ (farm.vr ≢ m.vs))
    → NoControl rest → IsMarked m new rest words
marked_discard m farm new up rest words h vr grows where_from none = record {
  below = h.below;
  below_farm = λ a e. ⊎_elim (λ (old : farm.retransmit ≡ true). h.below_farm old (sym vr ∙ e)) (λ (apart : farm.vr ≢ m.vs). apart (sym vr ∙ e)) (where_from a);
  on = h.on;
  on_farm = each_map (λ (x : ℕ). asks x ≡ true → report_value x ≡ farm.vr → farm.retransmit ≡ true) (λ (x : ℕ). asks x ≡ true → report_value x ≡ new.vr → new.retransmit ≡ true) words
      (λ x f a e. grows (f a (e ∙ vr))) h.on_farm;
  asked = h.asked;
  asked_farm = λ s e. grows (h.asked_farm s (sym vr ∙ e));
  first = no_control_first rest none;
  quiet = λ c. absurd (false≢true (sym (none_has rest none) ∙ c));
}

-- a call of the FOP in S1 to S3 that goes on there
pub marked_call : (m new : Machine) (farm : FarmView) (up left frames : List Frame) (words : List ℕ) → IsMarked m farm up words
    → Each (λ (x : ℕ). asks x ≡ true → report_value x ≢ new.vs) words → (farm.retransmit ≡ true → farm.vr ≢ new.vs)
    → (is_retransmitting new.state ≡ true → Each (λ (x : ℕ). report_value x ≡ new.nn → asks x ≡ true) words × (farm.vr ≡ new.nn → farm.retransmit ≡ true))
    → NoControl frames → IsSublist left (up ++ frames) → IsMarked new farm left words
marked_call m new farm up left frames words h below below_farm asked none sub = record {
  below = below;
  below_farm = below_farm;
  on = h.on;
  on_farm = h.on_farm;
  asked = λ s. (asked s).0;
  asked_farm = λ s. (asked s).1;
  first = first_sub left (up ++ frames) sub (first_append up frames h.first none);
  quiet = λ c. h.quiet (has_append up frames none (has_sub left (up ++ frames) sub c));
}

-- ---- before the service begins

pub calming_sub : (farm new : FarmView) (words some : List ℕ) → IsCalming farm words → (farm.retransmit ≡ false → new.retransmit ≡ false)
    → IsSublist some words → IsCalming new some
calming_sub farm new words some h stays sub = record {
  on = pairs_sub (λ (x y : ℕ). asks x ≡ false → asks y ≡ false) some words sub h.on;
  on_farm = each_map (λ (x : ℕ). asks x ≡ false → farm.retransmit ≡ false) (λ (x : ℕ). asks x ≡ false → new.retransmit ≡ false) some (λ x f a. stays (f a))
      (each_sub (λ (x : ℕ). asks x ≡ false → farm.retransmit ≡ false) some words sub h.on_farm);
}

pub calming_tell : (farm : FarmView) (words : List ℕ) (word : ℕ) → IsCalming farm words → asks word ≡ farm.retransmit → IsCalming farm (words ++ word ∷ [])
calming_tell farm words word h flag = record {
  on = pairs_push (λ (x y : ℕ). asks x ≡ false → asks y ≡ false) words word h.on
      (each_map (λ (x : ℕ). asks x ≡ false → farm.retransmit ≡ false) (λ (x : ℕ). asks x ≡ false → asks word ≡ false) words (λ x f a. flag ∙ f a) h.on_farm);
  on_farm = each_append (λ (x : ℕ). asks x ≡ false → farm.retransmit ≡ false) words (word ∷ []) h.on_farm ((λ a. sym flag ∙ a), tt);
}

-- ---- after a level start with check

pub level_sub : (m new : Machine) (farm after : FarmView) (up left : List Frame) (words some : List ℕ) → IsLevel m farm up words → new.vs ≡ m.vs
    → after.vr ≡ farm.vr → (farm.wait ≡ false → after.wait ≡ false) → after.retransmit ≡ farm.retransmit → IsSublist left up → IsSublist some words → IsLevel new after left some
level_sub m new farm after up left words some h vs vr wait retransmit sub_up sub = record {
  nothing_up = subst (λ (l : List Frame). IsSublist left l) h.nothing_up sub_up;
  vr = vr ∙ h.vr ∙ sym vs;
  wait = wait h.wait;
  retransmit = retransmit ∙ h.retransmit;
  level_words = each_map (λ (x : ℕ). (report_value x ≡ m.vs) × (is_set 12 x ≡ false) × (asks x ≡ false)) (λ (x : ℕ). (report_value x ≡ new.vs) × (is_set 12 x ≡ false) × (asks x ≡ false)) some
      (λ x f. (f.0 ∙ sym vs, f.1, f.2))
      (each_sub (λ (x : ℕ). (report_value x ≡ m.vs) × (is_set 12 x ≡ false) × (asks x ≡ false)) some words sub h.level_words);
}

pub level_tell : (m : Machine) (farm : FarmView) (up : List Frame) (words : List ℕ) (word : ℕ) → IsLevel m farm up words
    → report_value word ≡ farm.vr → is_set 12 word ≡ farm.wait → asks word ≡ farm.retransmit → IsLevel m farm up (words ++ word ∷ [])
level_tell m farm up words word h value wait flag = record {
  nothing_up = h.nothing_up;
  vr = h.vr;
  wait = h.wait;
  retransmit = h.retransmit;
  level_words = each_append (λ (x : ℕ). (report_value x ≡ m.vs) × (is_set 12 x ≡ false) × (asks x ≡ false)) words (word ∷ []) h.level_words
      ((value ∙ h.vr, wait ∙ h.wait, flag ∙ h.retransmit), tt);
}
