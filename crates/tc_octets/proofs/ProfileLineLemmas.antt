-- What is printed of a profile reads back.
use Rattle.std.proofs.Common.{◌≡◌, ◌≢◌, ℕ, ℤ, pos, negsuc, ◌-◌, ◌*◌, ◌<◌, ◌≤◌, ◌^◌, zero, suc, Bool, true, false, ◌&&◌, None, List, [], ◌∷◌}
use Rattle.std.proofs.Common.{◌++◌, length, map, get_or, refl, ap, ◌∙◌, sym, ⊎_elim, arith, lit≤, lit<, ◌≤ℤ◌}
use Rattle.std.specs.Prelude.{codes, nat_le}
use Rattle.std.specs.List.{list_all, flat_map, slice_split, All}
use Rattle.std.specs.Fmt.{decimal, signed_decimal}
use Rattle.std.specs.Str.Lines.{lines, lines_of_parts, strip_carriage_return}
use Rattle.std.specs.Str.Parse.{AllDigits}
use Rattle.std.proofs.lemmas.Bool.{ne_eqb, le-leb, leb-true, and_parts}
use Rattle.std.proofs.lemmas.Fmt.{decimal_nonempty, digits_decimal, length-decimal-le}
use Rattle.std.proofs.lemmas.Int.{ints}
use Rattle.std.proofs.lemmas.List.{length-append, append_assoc}
use Rattle.std.proofs.lemmas.List.Sums.{AllPass-from_list_all}
use Rattle.std.proofs.lemmas.List.Splits.{slice_split_at}
use Rattle.std.proofs.lemmas.Str.Parse.{digit_from_value}
use Rattle.tc_octets.specs.declared.keys.Key.{Key}
use Rattle.tc_octets.specs.declared.keys.Key.TheVariants as keys
use Rattle.tc_octets.specs.ProfileKeys.{all_keys, name_of, IsValue, IsNumber, IsWindow, yes_no}
use Rattle.tc_octets.specs.ProfileTexts.{Said, setting, is_printable, trimmed, trimmed_start, statement_in, statement_of, statements, value_of}
use Rattle.tc_octets.specs.ProfileTexts.{SaysAt}
use Rattle.tc_octets.proofs.NumberWords.{numeral}
use Rattle.tc_octets.proofs.LineLemmas.{is_end, parts_nonempty, more_parts, start_stays, end_stays}

-- ---- values have no spaces

abbrev pub is_solid : ℕ → Bool
is_solid octet = nat_le 33 octet && nat_le octet 126

-- a word without spaces, of 1 to 20 octets
pub record IsWord (word : List ℕ) : Type 0 where
  pub some : 0 < length word
  pub short : length word ≤ 20
  pub solid : list_all is_solid word ≡ true

solid_digit : (octet : ℕ) → 48 ≤ octet → octet ≤ 57 → is_solid octet ≡ true
solid_digit octet least most = rw (le-leb 33 octet (omega arith), le-leb octet 126 (omega arith)) refl

solid_digits : (octets : List ℕ) → AllDigits 10 octets → list_all is_solid octets ≡ true
solid_digits [] h = refl
solid_digits (octet ∷ octets) h =
    let range = digit_from_value octet h.0 in rw (solid_digit octet range.0 range.1, solid_digits octets h.1) refl

decimal_word : (n : ℕ) → n < 2 ^ 33 → IsWord (decimal n)
decimal_word n small = record {
  some = decimal_nonempty n (omega arith);
  short = let ten : length (decimal n) ≤ 10 = length-decimal-le 10 n (omega arith) (omega arith) (omega arith) in omega arith;
  solid = solid_digits (decimal n) (digits_decimal numeral n (omega arith));
}

minus_word : (n : ℕ) → n < 2 ^ 33 → IsWord (45 ∷ decimal n)
minus_word n small =
    let digits = decimal_word n small in
    let ten : length (decimal n) ≤ 10 = length-decimal-le 10 n (omega arith) (omega arith) (omega arith) in
    record { some = omega arith; short = omega arith; solid = digits.solid }

number_word : (least most : ℕ) (value : List ℕ) → most ≤ 65535 → IsNumber least most value → IsWord value
number_word least most value below h = let most = h.2 in rw h.3 (decimal_word h.0 (omega arith))

window_word : (value : List ℕ) → IsWindow value → IsWord value
window_word value h = let most = h.2 in rw h.4 (decimal_word h.0 (omega arith))

choice_word : (b : Bool) → IsWord (yes_no b)
choice_word true = record { some = lit< tt; short = lit≤ tt; solid = refl }
choice_word false = record { some = lit< tt; short = lit≤ tt; solid = refl }

none_word : IsWord (codes "none")
none_word = record { some = lit< tt; short = lit≤ tt; solid = refl }

zero_word : IsWord (codes "0")
zero_word = record { some = lit< tt; short = lit≤ tt; solid = refl }

two_word : IsWord (codes "2")
two_word = record { some = lit< tt; short = lit≤ tt; solid = refl }

seconds_of : (seconds : ℤ) → negsuc 378691199 ≤ℤ seconds → seconds ≤ℤ pos 4102444799 → IsWord (signed_decimal seconds)
seconds_of (pos n) least most = decimal_word n (omega (arith, ints, most))
seconds_of (negsuc n) least most = minus_word (suc n) (omega (arith, ints, least))

-- what a key may have is a word
pub value_word : (key : Key) (value : List ℕ) → IsValue key value → IsWord value
value_word keys.Scid value h = number_word 0 1023 value (lit≤ tt) h
value_word keys.TcVcid value h = number_word 0 63 value (lit≤ tt) h
value_word keys.TcMap value h = ⊎_elim (λ e. rw e none_word) (λ (n : IsNumber 0 63 value). number_word 0 63 value (lit≤ tt) n) h
value_word keys.TcWindow value h = window_word value h
value_word keys.TcFecf value h = rw h.1 (choice_word h.0)
value_word keys.TcRandomizer value h = rw h.1 (choice_word h.0)
value_word keys.TcIdle value h = number_word 0 255 value (lit≤ tt) h
value_word keys.TcCorrect value h = rw h.1 (choice_word h.0)
value_word keys.TmLength value h = number_word 32 2048 value (lit≤ tt) h
value_word keys.TmVcid value h = number_word 0 7 value (lit≤ tt) h
value_word keys.TmFecf value h = rw h.1 (choice_word h.0)
value_word keys.Apid value h = number_word 1 2046 value (lit≤ tt) h
value_word keys.Source value h = number_word 0 65535 value (lit≤ tt) h
value_word keys.TimeEpoch value h = rw h.2 (seconds_of h.0 h.1.0 h.1.1)
value_word keys.TimeFine value h = ⊎_elim (λ e. rw e zero_word) (λ e. rw e two_word) h
value_word keys.Rehearsal value h = rw h.1 (choice_word h.0)

-- ---- a line with a word as its value

abbrev pub line_with : Key → List ℕ → List ℕ
line_with key value = name_of key ++ codes " = " ++ value

printable_line : (key : Key) (value : List ℕ) → list_all is_printable (line_with key value) ≡ list_all is_printable value
printable_line keys.Scid value = refl
printable_line keys.TcVcid value = refl
printable_line keys.TcMap value = refl
printable_line keys.TcWindow value = refl
printable_line keys.TcFecf value = refl
printable_line keys.TcRandomizer value = refl
printable_line keys.TcIdle value = refl
printable_line keys.TcCorrect value = refl
printable_line keys.TmLength value = refl
printable_line keys.TmVcid value = refl
printable_line keys.TmFecf value = refl
printable_line keys.Apid value = refl
printable_line keys.Source value = refl
printable_line keys.TimeEpoch value = refl
printable_line keys.TimeFine value = refl
printable_line keys.Rehearsal value = refl

start_line : (key : Key) (value : List ℕ) → trimmed_start (line_with key value) ≡ line_with key value
start_line keys.Scid value = refl
start_line keys.TcVcid value = refl
start_line keys.TcMap value = refl
start_line keys.TcWindow value = refl
start_line keys.TcFecf value = refl
start_line keys.TcRandomizer value = refl
start_line keys.TcIdle value = refl
start_line keys.TcCorrect value = refl
start_line keys.TmLength value = refl
start_line keys.TmVcid value = refl
start_line keys.TmFecf value = refl
start_line keys.Apid value = refl
start_line keys.Source value = refl
start_line keys.TimeEpoch value = refl
start_line keys.TimeFine value = refl
start_line keys.Rehearsal value = refl

setting_line : (key : Key) (value : List ℕ) → statement_in (line_with key value) ≡ setting (name_of key) (trimmed value)
setting_line keys.Scid value = refl
setting_line keys.TcVcid value = refl
setting_line keys.TcMap value = refl
setting_line keys.TcWindow value = refl
setting_line keys.TcFecf value = refl
setting_line keys.TcRandomizer value = refl
setting_line keys.TcIdle value = refl
setting_line keys.TcCorrect value = refl
setting_line keys.TmLength value = refl
setting_line keys.TmVcid value = refl
setting_line keys.TmFecf value = refl
setting_line keys.Apid value = refl
setting_line keys.Source value = refl
setting_line keys.TimeEpoch value = refl
setting_line keys.TimeFine value = refl
setting_line keys.Rehearsal value = refl

name_short : (key : Key) → length (name_of key ++ codes " = ") ≤ 16
name_short keys.Scid = lit≤ tt
name_short keys.TcVcid = lit≤ tt
name_short keys.TcMap = lit≤ tt
name_short keys.TcWindow = lit≤ tt
name_short keys.TcFecf = lit≤ tt
name_short keys.TcRandomizer = lit≤ tt
name_short keys.TcIdle = lit≤ tt
name_short keys.TcCorrect = lit≤ tt
name_short keys.TmLength = lit≤ tt
name_short keys.TmVcid = lit≤ tt
name_short keys.TmFecf = lit≤ tt
name_short keys.Apid = lit≤ tt
name_short keys.Source = lit≤ tt
name_short keys.TimeEpoch = lit≤ tt
name_short keys.TimeFine = lit≤ tt
name_short keys.Rehearsal = lit≤ tt

solid_plain : (octet : ℕ) → is_solid octet ≡ true → is_printable octet ≡ true
solid_plain octet h =
    let parts = and_parts (nat_le 33 octet) (nat_le octet 126) h in
    let least : 33 ≤ octet = leb-true 33 octet parts.0 in
    rw (le-leb 32 octet (omega arith), parts.1) refl

solid_printable : (word : List ℕ) → list_all is_solid word ≡ true → list_all is_printable word ≡ true
solid_printable [] h = refl
solid_printable (octet ∷ word) h =
    let parts = and_parts (is_solid octet) (list_all is_solid word) h in
    rw (solid_plain octet parts.0, solid_printable word parts.1) refl

not_space : (octet : ℕ) → is_solid octet ≡ true → octet ≢ 32
not_space octet h e = let bad : is_solid 32 ≡ true = rw e at h in absurd (cc)

-- the last octet of a word
last_solid : (word : List ℕ) → 0 < length word → list_all is_solid word ≡ true
    → (front : List ℕ) × (last : ℕ) × (word ≡ front ++ (last ∷ [])) × (last ≢ 32)
last_solid [] some all = absurd (omega arith)
last_solid (octet ∷ []) some all = ([], octet, refl, not_space octet (and_parts (is_solid octet) true all).0)
last_solid (octet ∷ next ∷ word) some all =
    let rest = last_solid (next ∷ word) (omega arith) (and_parts (is_solid octet) (list_all is_solid (next ∷ word)) all).1 in
    (octet ∷ rest.0, rest.1, ap (λ octets. octet ∷ octets) rest.2, rest.3)

word_start : (word : List ℕ) → 0 < length word → list_all is_solid word ≡ true → trimmed_start word ≡ word
word_start [] some all = refl
word_start (octet ∷ word) some all = start_stays octet word (not_space octet (and_parts (is_solid octet) (list_all is_solid word) all).0)

word_trimmed : (word : List ℕ) → IsWord word → trimmed word ≡ word
word_trimmed word h =
    let last = last_solid word h.some h.solid in
    rw (word_start word h.some h.solid) (end_stays word last.0 last.1 last.2 last.3)

line_trimmed : (key : Key) (word : List ℕ) → IsWord word → trimmed (line_with key word) ≡ line_with key word
line_trimmed key word h =
    let last = last_solid word h.some h.solid in
    let ends : line_with key word ≡ (name_of key ++ codes " = " ++ last.0) ++ (last.1 ∷ []) =
    ap (λ octets. name_of key ++ codes " = " ++ octets) last.2 ∙ sym (append_assoc (name_of key ++ codes " = ") last.0 (last.1 ∷ [])) in
    rw (start_line key word) (end_stays (line_with key word) (name_of key ++ codes " = " ++ last.0) last.1 ends last.3)

line_printable : (key : Key) (word : List ℕ) → IsWord word → list_all is_printable (line_with key word) ≡ true
line_printable key word h = printable_line key word ∙ solid_printable word h.solid

line_says : (key : Key) (word : List ℕ) → IsWord word → statement_of (line_with key word) ≡ setting (name_of key) word
line_says key word h =
    rw (line_printable key word h, line_trimmed key word h, setting_line key word, word_trimmed word h) refl

line_some : (key : Key) (word : List ℕ) → IsWord word → 0 < length (line_with key word)
line_some key word h =
    let some = h.some in omega (arith, length-append (name_of key ++ codes " = ") word)

line_short : (key : Key) (word : List ℕ) → IsWord word → length (line_with key word) ≤ 36
line_short key word h =
    let short = h.short in
    let name = name_short key in omega (arith, length-append (name_of key ++ codes " = ") word)

-- ---- lines, each ended by an LF

ends_no_line : (octet : ℕ) → is_printable octet ≡ true → is_end octet ≡ false
ends_no_line octet h = ne_eqb octet 10 (λ e. let bad : is_printable 10 ≡ true = rw e at h in absurd (cc))

no_end : (line : List ℕ) → list_all is_printable line ≡ true → All (λ octet. is_end octet ≡ false) line
no_end line all = λ k d h. ends_no_line (get_or line k d) (AllPass-from_list_all is_printable line all k d h)

no_return : (line : List ℕ) → 0 < length line → list_all is_printable line ≡ true → strip_carriage_return line ≡ line
no_return line some all =
    let here : is_printable (get_or line (length line - 1) 0) ≡ true =
    AllPass-from_list_all is_printable line all (length line - 1) 0 (omega arith) in
    rw (ne_eqb (get_or line (length line - 1) 0) 13 (λ e. let bad : is_printable 13 ≡ true = rw e at here in absurd (cc))) refl

pub lines_back : (line : Key → List ℕ) → ((key : Key) → 0 < length (line key)) → ((key : Key) → list_all is_printable (line key) ≡ true)
    → (all : List Key)
    → lines (flat_map (λ key. line key ++ (10 ∷ [])) all) ≡ map line all
lines_back line some printable [] = refl
lines_back line some printable (key ∷ others) =
    let rest : List ℕ = flat_map (λ key. line key ++ (10 ∷ [])) others in
    let parts : slice_split is_end ((line key ++ (10 ∷ [])) ++ rest) ≡ line key ∷ slice_split is_end rest =
    ap (slice_split is_end) (append_assoc (line key) (10 ∷ []) rest)
    ∙ slice_split_at is_end (line key) 10 rest (no_end (line key) (printable key)) refl in
    ap lines_of_parts parts ∙ more_parts (line key) (slice_split is_end rest) (parts_nonempty rest)
    ∙ rw (no_return (line key) (some key) (printable key), lines_back line some printable others) refl

few_octets : (line : Key → List ℕ) → ((key : Key) → length (line key) ≤ 36) → (all : List Key)
    → length (flat_map (λ key. line key ++ (10 ∷ [])) all) ≤ 37 * length all
few_octets line short [] = omega arith
few_octets line short (key ∷ others) =
    let here = short key in
    let more = few_octets line short others in
    omega (arith, length-append (line key ++ (10 ∷ [])) (flat_map (λ key. line key ++ (10 ∷ [])) others), length-append (line key) (10 ∷ []))

-- ---- the text of words, one for each key

abbrev pub text_with : (Key → List ℕ) → List ℕ
text_with words = flat_map (λ key. line_with key (words key) ++ (10 ∷ [])) all_keys

abbrev pub settings_with : (Key → List ℕ) → List Said
settings_with words = map (λ key. setting (name_of key) (words key)) all_keys

pub text_short : (words : Key → List ℕ) → ((key : Key) → IsWord (words key)) → length (text_with words) ≤ 4096
text_short words h =
    let few : length (text_with words) ≤ 37 * length all_keys =
    few_octets (λ key. line_with key (words key)) (λ key. line_short key (words key) (h key)) all_keys in
    let sixteen : length all_keys ≡ 16 = refl in omega arith

lines_say : (words : Key → List ℕ) → ((key : Key) → IsWord (words key)) → (all : List Key)
    → map statement_of (map (λ key. line_with key (words key)) all) ≡ map (λ key. setting (name_of key) (words key)) all
lines_say words h [] = refl
lines_say words h (key ∷ others) = rw (line_says key (words key) (h key), lines_say words h others) refl

pub text_says : (words : Key → List ℕ) → ((key : Key) → IsWord (words key)) → statements (text_with words) ≡ settings_with words
text_says words h =
    ap (map statement_of) (lines_back (λ key. line_with key (words key)) (λ key. line_some key (words key) (h key))
    (λ key. line_printable key (words key) (h key)) all_keys)
    ∙ lines_say words h all_keys

pub settings_give : (words : Key → List ℕ) (key : Key) → value_of key (settings_with words) ≡ words key
settings_give words keys.Scid = refl
settings_give words keys.TcVcid = refl
settings_give words keys.TcMap = refl
settings_give words keys.TcWindow = refl
settings_give words keys.TcFecf = refl
settings_give words keys.TcRandomizer = refl
settings_give words keys.TcIdle = refl
settings_give words keys.TcCorrect = refl
settings_give words keys.TmLength = refl
settings_give words keys.TmVcid = refl
settings_give words keys.TmFecf = refl
settings_give words keys.Apid = refl
settings_give words keys.Source = refl
settings_give words keys.TimeEpoch = refl
settings_give words keys.TimeFine = refl
settings_give words keys.Rehearsal = refl

pub settings_sound : (words : Key → List ℕ) → ((key : Key) → IsValue key (words key)) → (place : ℕ) → place < 16
    → SaysAt (settings_with words) place None
settings_sound words h zero below = (keys.Scid, refl, refl, h keys.Scid)
settings_sound words h (suc zero) below = (keys.TcVcid, refl, refl, h keys.TcVcid)
settings_sound words h (suc (suc zero)) below = (keys.TcMap, refl, refl, h keys.TcMap)
settings_sound words h (suc (suc (suc zero))) below = (keys.TcWindow, refl, refl, h keys.TcWindow)
settings_sound words h (suc (suc (suc (suc zero)))) below = (keys.TcFecf, refl, refl, h keys.TcFecf)
settings_sound words h (suc (suc (suc (suc (suc zero))))) below = (keys.TcRandomizer, refl, refl, h keys.TcRandomizer)
settings_sound words h (suc (suc (suc (suc (suc (suc zero)))))) below = (keys.TcIdle, refl, refl, h keys.TcIdle)
settings_sound words h (suc (suc (suc (suc (suc (suc (suc zero))))))) below = (keys.TcCorrect, refl, refl, h keys.TcCorrect)
settings_sound words h (suc (suc (suc (suc (suc (suc (suc (suc zero)))))))) below = (keys.TmLength, refl, refl, h keys.TmLength)
settings_sound words h (suc (suc (suc (suc (suc (suc (suc (suc (suc zero))))))))) below = (keys.TmVcid, refl, refl, h keys.TmVcid)
settings_sound words h (suc (suc (suc (suc (suc (suc (suc (suc (suc (suc zero)))))))))) below = (keys.TmFecf, refl, refl, h keys.TmFecf)
settings_sound words h (suc (suc (suc (suc (suc (suc (suc (suc (suc (suc (suc zero))))))))))) below = (keys.Apid, refl, refl, h keys.Apid)
settings_sound words h (suc (suc (suc (suc (suc (suc (suc (suc (suc (suc (suc (suc zero)))))))))))) below = (keys.Source, refl, refl, h keys.Source)
settings_sound words h (suc (suc (suc (suc (suc (suc (suc (suc (suc (suc (suc (suc (suc zero))))))))))))) below =
    (keys.TimeEpoch, refl, refl, h keys.TimeEpoch)
settings_sound words h (suc (suc (suc (suc (suc (suc (suc (suc (suc (suc (suc (suc (suc (suc zero)))))))))))))) below =
    (keys.TimeFine, refl, refl, h keys.TimeFine)
settings_sound words h (suc (suc (suc (suc (suc (suc (suc (suc (suc (suc (suc (suc (suc (suc (suc zero))))))))))))))) below =
    (keys.Rehearsal, refl, refl, h keys.Rehearsal)
settings_sound words h (suc (suc (suc (suc (suc (suc (suc (suc (suc (suc (suc (suc (suc (suc (suc (suc place)))))))))))))))) below =
    absurd (omega arith)
