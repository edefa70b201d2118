-- A text has one answer, and that of a printed profile is the profile.
use Rattle.std.proofs.Common.{◌≡◌, ◌⊎◌, inl, inr, ℕ, ℤ, pos, negsuc, ◌-◌, ◌%◌, ◌<◌, ◌≤◌, ◌^◌, Bool, true, false, Option, Some, None, Result, Ok, Err}
use Rattle.std.proofs.Common.{List, length, take, get_or, refl, subst, ap, ◌∙◌, sym, ⊎_elim, arith}
use Rattle.std.specs.Prelude.{codes, IsNone, IsSome}
use Rattle.std.specs.List.{slice_index_or}
use Rattle.std.specs.Fmt.{decimal}
use Rattle.std.proofs.lemmas.Bool.{cases_lt}
use Rattle.std.proofs.lemmas.Fmt.{decimal_injective, signed_decimal_injective}
use Rattle.std.proofs.lemmas.Int.{ints}
use lib.Signed.{mag}
use mathlib.Core.HLevel.{is_prop→PathP}
use native.Mathlib.Bridge.{le_prop}
use denote.Struct.Props.{props}
use native.Mathlib.Nat.{ℕ_set}
use Rattle.tc_octets.specs.declared.profiles.Map.{Map}
use Rattle.tc_octets.specs.declared.profiles.TcChannel.{TcChannel}
use Rattle.tc_octets.specs.declared.profiles.TmChannel.{TmChannel}
use Rattle.tc_octets.specs.declared.profiles.Profile.{Profile}
use Rattle.tc_octets.specs.declared.keys.Key.{Key}
use Rattle.tc_octets.specs.declared.keys.Key.TheVariants as keys
use Rattle.tc_octets.specs.declared.profile_texts.ProfileWord.{ProfileWord}
use Rattle.tc_octets.specs.declared.profile_texts.ProfileWord.TheVariants as words
use Rattle.tc_octets.specs.declared.profile_texts.ProfileFault.{ProfileFault}
use Rattle.tc_octets.specs.Epochs.{IsEpoch}
use Rattle.tc_octets.specs.ProfileKeys.{name_of, spelled, IsValue, IsNumber, yes_no, map_word, fine_word}
use Rattle.tc_octets.specs.ProfileTexts.{Said, blank, setting, bad, statements, value_in, Says, AreSound, IsFirstFault, Clashes, IsReadable}
use Rattle.tc_octets.specs.ProfileTexts.{IsProfile, ProfileReads, Refuses, profile_text, IsOnly, ReadsPrinted}
use Rattle.tc_octets.proofs.ProfileTextLemmas.{name_tells}
use Rattle.tc_octets.proofs.ProfileValueLemmas.{no_word}
use Rattle.tc_octets.proofs.ProfileLineLemmas.{value_word, text_short, text_says, settings_give, settings_sound, settings_with}

-- ---- profiles with the same values

same_choice : (a b : Bool) → yes_no a ≡ yes_no b → a ≡ b
same_choice true true e = refl
same_choice true false e = absurd (cc)
same_choice false true e = absurd (cc)
same_choice false false e = refl

same_fine : (a b : Bool) → fine_word a ≡ fine_word b → a ≡ b
same_fine true true e = refl
same_fine true false e = absurd (let wrong : 50 ≡ 48 = ap (λ octets. get_or octets 0 0) e in omega arith)
same_fine false true e = absurd (let wrong : 48 ≡ 50 = ap (λ octets. get_or octets 0 0) e in omega arith)
same_fine false false e = refl

same_map : (a b : Map) → a.id ≡ b.id → a ≡ b
same_map a b e = λ i. record { id = e i; id_fits = is_prop→PathP (λ j. e j ≤ 63) (λ j. le_prop) a.id_fits b.id_fits i }

same_maps : (a b : Option Map) → map_word a ≡ map_word b → a ≡ b
same_maps None None e = refl
same_maps None (Some b) e = absurd (no_word b.id (let fits = b.id_fits in omega arith) e)
same_maps (Some a) None e = absurd (no_word a.id (let fits = a.id_fits in omega arith) (sym e))
same_maps (Some a) (Some b) e =
    let fits = a.id_fits in
    let other = b.id_fits in
    ap Some (same_map a b (decimal_injective a.id b.id (omega arith) (omega arith) e))

same_tc : (a b : TcChannel) → a.vcid ≡ b.vcid → a.map ≡ b.map → a.window ≡ b.window → a.fecf ≡ b.fecf → a.randomizer ≡ b.randomizer → a.idle ≡ b.idle
    → a.correct ≡ b.correct → a ≡ b
same_tc a b v m w f r n c = λ i. record {
  vcid = v i;
  map = m i;
  window = w i;
  fecf = f i;
  randomizer = r i;
  idle = n i;
  correct = c i;
  vcid_fits = is_prop→PathP (λ j. v j ≤ 63) (λ j. le_prop) a.vcid_fits b.vcid_fits i;
  window_fits = is_prop→PathP (λ j. w j ≤ 254) (λ j. le_prop) a.window_fits b.window_fits i;
  window_stands = is_prop→PathP (λ j. 2 ≤ w j) (λ j. le_prop) a.window_stands b.window_stands i;
  window_even = is_prop→PathP (λ j. w j % 2 ≡ 0) (λ j. ℕ_set (w j % 2) 0) a.window_even b.window_even i;
}

same_tm : (a b : TmChannel) → a.length ≡ b.length → a.vcid ≡ b.vcid → a.fecf ≡ b.fecf → a ≡ b
same_tm a b n v f = λ i. record {
  length = n i;
  vcid = v i;
  fecf = f i;
  length_fits = is_prop→PathP (λ j. n j ≤ 2048) (λ j. le_prop) a.length_fits b.length_fits i;
  length_stands = is_prop→PathP (λ j. 32 ≤ n j) (λ j. le_prop) a.length_stands b.length_stands i;
  vcid_fits = is_prop→PathP (λ j. v j ≤ 7) (λ j. le_prop) a.vcid_fits b.vcid_fits i;
}

same_parts : (a b : Profile) → a.scid ≡ b.scid → a.tc ≡ b.tc → a.tm ≡ b.tm → a.apid ≡ b.apid → a.source ≡ b.source → a.epoch ≡ b.epoch
    → a.fine ≡ b.fine → a.rehearsal ≡ b.rehearsal → a ≡ b
same_parts a b s t m n o e f r = λ i. record {
  scid = s i;
  tc = t i;
  tm = m i;
  apid = n i;
  source = o i;
  epoch = e i;
  fine = f i;
  rehearsal = r i;
  scid_fits = is_prop→PathP (λ j. s j ≤ 1023) (λ j. le_prop) a.scid_fits b.scid_fits i;
  apid_fits = is_prop→PathP (λ j. n j ≤ 2046) (λ j. le_prop) a.apid_fits b.apid_fits i;
  apid_stands = is_prop→PathP (λ j. 1 ≤ n j) (λ j. le_prop) a.apid_stands b.apid_stands i;
  epoch_fits = is_prop→PathP (λ j. IsEpoch (e j)) (λ j. hlevel props) a.epoch_fits b.epoch_fits i;
}

same_number : (m n : ℕ) → m ≤ 65535 → n ≤ 65535 → decimal m ≡ decimal n → m ≡ n
same_number m n h k e = decimal_injective m n (omega arith) (omega arith) e

small_mag : (seconds : ℤ) → IsEpoch seconds → mag seconds < 2 ^ 63
small_mag (pos n) h = let most : n ≤ 4102444799 = omega (arith, ints, h.1) in omega arith
small_mag (negsuc n) h = let most : n ≤ 378691199 = omega (arith, ints, h.0) in omega arith

same_profile : (a b : Profile) → IsProfile a → IsProfile b → ((key : Key) → spelled a key ≡ spelled b key) → a ≡ b
same_profile a b h k each =
    let scid = a.scid_fits in
    let scid' = b.scid_fits in
    let apid = a.apid_fits in
    let apid' = b.apid_fits in
    let vcid = a.tc.vcid_fits in
    let vcid' = b.tc.vcid_fits in
    let window = a.tc.window_fits in
    let window' = b.tc.window_fits in
    let size = a.tm.length_fits in
    let size' = b.tm.length_fits in
    let channel = a.tm.vcid_fits in
    let channel' = b.tm.vcid_fits in
    let idle = h.idle in
    let idle' = k.idle in
    let tc : a.tc ≡ b.tc =
    same_tc a.tc b.tc (same_number a.tc.vcid b.tc.vcid (omega arith) (omega arith) (each keys.TcVcid)) (same_maps a.tc.map b.tc.map (each keys.TcMap))
    (same_number a.tc.window b.tc.window (omega arith) (omega arith) (each keys.TcWindow)) (same_choice a.tc.fecf b.tc.fecf (each keys.TcFecf))
    (same_choice a.tc.randomizer b.tc.randomizer (each keys.TcRandomizer))
    (same_number a.tc.idle b.tc.idle (omega arith) (omega arith) (each keys.TcIdle))
    (same_choice a.tc.correct b.tc.correct (each keys.TcCorrect)) in
    let tm : a.tm ≡ b.tm =
    same_tm a.tm b.tm (same_number a.tm.length b.tm.length (omega arith) (omega arith) (each keys.TmLength))
    (same_number a.tm.vcid b.tm.vcid (omega arith) (omega arith) (each keys.TmVcid)) (same_choice a.tm.fecf b.tm.fecf (each keys.TmFecf)) in
    same_parts a b (same_number a.scid b.scid (omega arith) (omega arith) (each keys.Scid)) tc tm
    (same_number a.apid b.apid (omega arith) (omega arith) (each keys.Apid)) (same_number a.source b.source h.source k.source (each keys.Source))
    (signed_decimal_injective a.epoch b.epoch (small_mag a.epoch a.epoch_fits) (small_mag b.epoch b.epoch_fits) (each keys.TimeEpoch))
    (same_fine a.fine b.fine (each keys.TimeFine)) (same_choice a.rehearsal b.rehearsal (each keys.Rehearsal))

-- ---- one answer

some_none : (given : Option (List ℕ)) → IsNone given → IsSome given → ⊥
some_none None h k = absurd (cc)
some_none (Some value) h k = absurd (cc)

one_key : (name : List ℕ) (a b : Key) → name ≡ name_of a → name ≡ name_of b → a ≡ b
one_key name a b h k = name_tells a b (sym h ∙ k)

-- a key that is given twice is not given once
twice_or_once : (earlier : List Said) (name : List ℕ) (a b : Key) → name ≡ name_of a → name ≡ name_of b → IsNone (value_in a earlier)
    → IsSome (value_in b earlier) → ⊥
twice_or_once earlier name a b h k none some = some_none (value_in a earlier) none (rw (one_key name a b h k) some)

good_or_bad : (name value : List ℕ) (a b : Key) → name ≡ name_of a → name ≡ name_of b → IsValue a value → (IsValue b value → ⊥) → ⊥
good_or_bad name value a b h k good wrong = wrong (rw (← one_key name a b h k) good)

-- a statement that is taken has no fault
never_both : (earlier : List Said) (said : Said) (word : ProfileWord) → Says earlier said None → Says earlier said (Some word) → ⊥
never_both earlier blank word h k = k
never_both earlier bad word h k = h
never_both earlier (setting name value) words.TooLong h k = k
never_both earlier (setting name value) words.BadText h k = k
never_both earlier (setting name value) words.UnknownKey h k = k h.0 h.1
never_both earlier (setting name value) words.KeyTwice h k = twice_or_once earlier name h.0 k.0 h.1 k.1 h.2 k.2
never_both earlier (setting name value) words.BadValue h k = good_or_bad name value h.0 k.0 h.1 k.1 h.3 k.3
never_both earlier (setting name value) words.Clash h k = k

-- a statement is refused for one word
one_word : (earlier : List Said) (said : Said) (v w : ProfileWord) → Says earlier said (Some v) → Says earlier said (Some w) → v ≡ w
one_word earlier blank v w h k = absurd h
one_word earlier bad words.TooLong w h k = absurd h
one_word earlier bad words.BadText words.TooLong h k = absurd k
one_word earlier bad words.BadText words.BadText h k = refl
one_word earlier bad words.BadText words.UnknownKey h k = absurd k
one_word earlier bad words.BadText words.KeyTwice h k = absurd k
one_word earlier bad words.BadText words.BadValue h k = absurd k
one_word earlier bad words.BadText words.Clash h k = absurd k
one_word earlier bad words.UnknownKey w h k = absurd h
one_word earlier bad words.KeyTwice w h k = absurd h
one_word earlier bad words.BadValue w h k = absurd h
one_word earlier bad words.Clash w h k = absurd h
one_word earlier (setting name value) words.TooLong w h k = absurd h
one_word earlier (setting name value) words.BadText w h k = absurd h
one_word earlier (setting name value) words.UnknownKey words.TooLong h k = absurd k
one_word earlier (setting name value) words.UnknownKey words.BadText h k = absurd k
one_word earlier (setting name value) words.UnknownKey words.UnknownKey h k = refl
one_word earlier (setting name value) words.UnknownKey words.KeyTwice h k = absurd (h k.0 k.1)
one_word earlier (setting name value) words.UnknownKey words.BadValue h k = absurd (h k.0 k.1)
one_word earlier (setting name value) words.UnknownKey words.Clash h k = absurd k
one_word earlier (setting name value) words.KeyTwice words.TooLong h k = absurd k
one_word earlier (setting name value) words.KeyTwice words.BadText h k = absurd k
one_word earlier (setting name value) words.KeyTwice words.UnknownKey h k = absurd (k h.0 h.1)
one_word earlier (setting name value) words.KeyTwice words.KeyTwice h k = refl
one_word earlier (setting name value) words.KeyTwice words.BadValue h k = absurd (twice_or_once earlier name k.0 h.0 k.1 h.1 k.2 h.2)
one_word earlier (setting name value) words.KeyTwice words.Clash h k = absurd k
one_word earlier (setting name value) words.BadValue words.TooLong h k = absurd k
one_word earlier (setting name value) words.BadValue words.BadText h k = absurd k
one_word earlier (setting name value) words.BadValue words.UnknownKey h k = absurd (k h.0 h.1)
one_word earlier (setting name value) words.BadValue words.KeyTwice h k = absurd (twice_or_once earlier name h.0 k.0 h.1 k.1 h.2 k.2)
one_word earlier (setting name value) words.BadValue words.BadValue h k = refl
one_word earlier (setting name value) words.BadValue words.Clash h k = absurd k
one_word earlier (setting name value) words.Clash w h k = absurd h

-- how a text is refused: as too long, for a clash, or for the first fault
data How (text : List ℕ) (line : ℕ) (word : ProfileWord) : Type 0 where
  long : line ≡ 0 → word ≡ words.TooLong → 4096 < length text → How text line word
  clash : line ≡ 0 → word ≡ words.Clash → IsReadable text → Clashes (statements text) → How text line word
  fault : length text ≤ 4096 → IsFirstFault (statements text) line word → How text line word

how : (text : List ℕ) (line : ℕ) (word : ProfileWord) → Refuses text line word → How text line word
how text line words.TooLong h = long h.0 refl h.1
how text line words.Clash h = clash h.0 refl h.1 h.2
how text line words.BadText h = fault h.0 h.1
how text line words.UnknownKey h = fault h.0 h.1
how text line words.KeyTwice h = fault h.0 h.1
how text line words.BadValue h = fault h.0 h.1

first_line : (said : List Said) (a b : ℕ) (v w : ProfileWord) → IsFirstFault said a v → IsFirstFault said b w → a < b → ⊥
first_line said a b v w h k less =
    let least = h.least in
    never_both (take (a - 1) said) (slice_index_or said (a - 1) blank) v (k.before (a - 1) (omega arith)) h.here

one_line : (said : List Said) (a b : ℕ) (v w : ProfileWord) → IsFirstFault said a v → IsFirstFault said b w → a ≡ b
one_line said a b v w h k =
    ⊎_elim (λ less. absurd (first_line said a b v w h k less))
    (λ more. ⊎_elim (λ less. absurd (first_line said b a w v k h less)) (λ (other : a ≤ b). omega arith) (cases_lt b a))
    (cases_lt a b)

not_sound : (text : List ℕ) (line : ℕ) (word : ProfileWord) → IsReadable text → IsFirstFault (statements text) line word → ⊥
not_sound text line word h k =
    let least = k.least in
    let most = k.most in
    never_both (take (line - 1) (statements text)) (slice_index_or (statements text) (line - 1) blank) word (h.sound (line - 1) (omega arith)) k.here

one_how : (text : List ℕ) (a b : ℕ) (v w : ProfileWord) → How text a v → How text b w → (a ≡ b) × (v ≡ w)
one_how text a b v w (long h e l) (long k f m) = (h ∙ sym k, e ∙ sym f)
one_how text a b v w (long h e l) (clash k f m c) = let short = m.short in absurd (omega arith)
one_how text a b v w (long h e l) (fault k f) = absurd (omega arith)
one_how text a b v w (clash h e l c) (long k f m) = let short = l.short in absurd (omega arith)
one_how text a b v w (clash h e l c) (clash k f m d) = (h ∙ sym k, e ∙ sym f)
one_how text a b v w (clash h e l c) (fault k f) = absurd (not_sound text b w l f)
one_how text a b v w (fault h e) (long k f m) = absurd (omega arith)
one_how text a b v w (fault h e) (clash k f m c) = absurd (not_sound text a v m e)
one_how text a b v w (fault h e) (fault k f) =
    let same : a ≡ b = one_line (statements text) a b v w e f in
    (same, one_word (take (b - 1) (statements text)) (slice_index_or (statements text) (b - 1) blank) v w (rw same at e.here) f.here)

yes_true : (b : Bool) → yes_no b ≡ codes "yes" → b ≡ true
yes_true true e = refl
yes_true false e = absurd (cc)

no_false : (b : Bool) → yes_no b ≡ codes "no" → b ≡ false
no_false true e = absurd (cc)
no_false false e = refl

-- what is read is not refused
not_refused : (text : List ℕ) (profile : Profile) (line : ℕ) (word : ProfileWord) → ProfileReads text (Ok profile) → How text line word → ⊥
not_refused text profile line word h (long e f l) = let short = h.0.short in omega arith
not_refused text profile line word h (clash e f l c) =
    let correct : profile.tc.correct ≡ true = yes_true profile.tc.correct (h.2 keys.TcCorrect ∙ c.0) in
    let fecf : profile.tc.fecf ≡ false = no_false profile.tc.fecf (h.2 keys.TcFecf ∙ c.1) in
    let checked : profile.tc.fecf ≡ true = h.1.checked correct in
    let bad : false ≡ true = sym fecf ∙ checked in absurd (cc)
not_refused text profile line word h (fault e f) = not_sound text line word h.0 f

-- a text has one answer
one_answer : (text : List ℕ) (a b : Result Profile ProfileFault) → ProfileReads text a → ProfileReads text b → a ≡ b
one_answer text (Ok a) (Ok b) h k = ap Ok (same_profile a b h.1 k.1 (λ key. h.2 key ∙ sym (k.2 key)))
one_answer text (Ok a) (Err g) h k = absurd (not_refused text a g.line g.word h (how text g.line g.word k))
one_answer text (Err f) (Ok b) h k = absurd (not_refused text b f.line f.word k (how text f.line f.word h))
one_answer text (Err f) (Err g) h k =
    let same = one_how text f.line g.line f.word g.word (how text f.line f.word h) (how text g.line g.word k) in
    ap Err (same_fault f g same.0 same.1)
  where
    same_fault : (f g : ProfileFault) → f.line ≡ g.line → f.word ≡ g.word → f ≡ g
    same_fault f g l w = λ i. record { line = l i; word = w i }

-- ---- what is printed reads back

map_value : (map : Option Map) → (map_word map ≡ codes "none") ⊎ IsNumber 0 63 (map_word map)
map_value None = inl refl
map_value (Some map) = inr (map.id, omega arith, map.id_fits, refl)

fine_value : (fine : Bool) → (fine_word fine ≡ codes "0") ⊎ (fine_word fine ≡ codes "2")
fine_value true = inr refl
fine_value false = inl refl

profile_values : (profile : Profile) → IsProfile profile → (key : Key) → IsValue key (spelled profile key)
profile_values profile h keys.Scid = (profile.scid, omega arith, profile.scid_fits, refl)
profile_values profile h keys.TcVcid = (profile.tc.vcid, omega arith, profile.tc.vcid_fits, refl)
profile_values profile h keys.TcMap = map_value profile.tc.map
profile_values profile h keys.TcWindow = (profile.tc.window, profile.tc.window_stands, profile.tc.window_fits, profile.tc.window_even, refl)
profile_values profile h keys.TcFecf = (profile.tc.fecf, refl)
profile_values profile h keys.TcRandomizer = (profile.tc.randomizer, refl)
profile_values profile h keys.TcIdle = (profile.tc.idle, omega arith, h.idle, refl)
profile_values profile h keys.TcCorrect = (profile.tc.correct, refl)
profile_values profile h keys.TmLength = (profile.tm.length, profile.tm.length_stands, profile.tm.length_fits, refl)
profile_values profile h keys.TmVcid = (profile.tm.vcid, omega arith, profile.tm.vcid_fits, refl)
profile_values profile h keys.TmFecf = (profile.tm.fecf, refl)
profile_values profile h keys.Apid = (profile.apid, profile.apid_stands, profile.apid_fits, refl)
profile_values profile h keys.Source = (profile.source, omega arith, h.source, refl)
profile_values profile h keys.TimeEpoch = (profile.epoch, profile.epoch_fits, refl)
profile_values profile h keys.TimeFine = fine_value profile.fine
profile_values profile h keys.Rehearsal = (profile.rehearsal, refl)

reads_back : (profile : Profile) → IsProfile profile → ProfileReads (profile_text profile) (Ok profile)
reads_back profile h =
    let values = profile_values profile h in
    let words = λ (key : Key). value_word key (spelled profile key) (values key) in
    let said : statements (profile_text profile) ≡ settings_with (spelled profile) = text_says (spelled profile) words in
    let sixteen : length (settings_with (spelled profile)) ≡ 16 = refl in
    let sound : AreSound (length (settings_with (spelled profile))) (settings_with (spelled profile)) =
    λ place below. settings_sound (spelled profile) values place (omega arith) in
    (record { short = text_short (spelled profile) words; sound = rw said sound }, h, λ key. rw said (sym (settings_give (spelled profile) key)))

-- ---- what holds of an answer

pub is_only : (text : List ℕ) (answer : Result Profile ProfileFault) → ProfileReads text answer → IsOnly text answer
is_only text answer says = record { only = λ other h. one_answer text other answer h says }

pub reads_printed : (text : List ℕ) (answer : Result Profile ProfileFault) → ProfileReads text answer → ReadsPrinted text answer
reads_printed text answer says = record {
  printed =
      λ profile h e. one_answer (profile_text profile) answer (Ok profile) (subst (λ (l : List ℕ). ProfileReads l answer) e says)
      (reads_back profile h);
}
