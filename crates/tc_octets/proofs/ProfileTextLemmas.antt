-- What lines give and are refused for, one after the other.
use Rattle.std.proofs.Common.{◌≡◌, inl, ℕ, pos, ◌+◌, ◌-◌, ◌<◌, ◌≤◌, add-one, below_more, zero, suc, Bool, true, false, nat_eq, Option, Some, None}
use Rattle.std.proofs.Common.{List, [], ◌∷◌, length, take, drop, get_or, refl, ap, ◌∙◌, sym, arith}
use Rattle.std.specs.Prelude.{if◌then◌else◌, ⊤, IfSome}
use Rattle.std.specs.List.{find}
use Rattle.std.specs.Option.{unwrap_or}
use Rattle.std.specs.Fmt.{digits}
use Rattle.std.proofs.lemmas.Int.{ints}
use Rattle.std.specs.Str.Lines.{lines}
use Rattle.std.specs.Cmp.Lexicographic.{pointwise, bytes_decides}
use Rattle.std.proofs.lemmas.List.{take_all, length-map}
use Rattle.tc_octets.specs.declared.keys.Key.{Key}
use Rattle.tc_octets.specs.declared.keys.Key.TheVariants as keys
use Rattle.tc_octets.specs.declared.keys.TheConstants.{KEYS}
use Rattle.tc_octets.specs.declared.profile_texts.ProfileWord.{ProfileWord}
use Rattle.tc_octets.specs.ProfileKeys.{name_of, default_of, IsValue, ReadsWord}
use Rattle.tc_octets.specs.ProfileTexts.{Said, blank, setting, bad, statement_of, statements, value_given, value_in, value_of, or_later, Says, SaysAt}
use Rattle.tc_octets.specs.ProfileTexts.{AreSound, IsFirstFault}
use Rattle.tc_octets.specs.ProfileParts.{AreValues}
use Rattle.tc_octets.proofs.LineLemmas.{few_lines}

pub few_statements : (text : List ℕ) → length (statements text) ≤ length text
few_statements text = let few = few_lines text in omega (arith, length-map (lines text) statement_of)

-- ---- the value that lines give

pub stepped : (key : Key) (count : ℕ) (said : Said) (later : List Said) → 0 < count → value_given key said ≡ None
    → value_in key (take count (said ∷ later)) ≡ value_in key (take (count - 1) later)
stepped key zero said later some h = absurd (omega arith)
stepped key (suc count) said later some h =
    let same : suc count - 1 ≡ count = omega arith in rw (h, same) refl

pub found : (key : Key) (count : ℕ) (said : Said) (later : List Said) (value : List ℕ) → 0 < count → value_given key said ≡ Some value
    → value_in key (take count (said ∷ later)) ≡ Some value
found key zero said later value some h = absurd (omega arith)
found key (suc count) said later value some h = rw h refl

pub ended : (key : Key) (count : ℕ) (later : List Said) → later ≡ [] → value_in key (take count later) ≡ None
ended key zero later e = refl
ended key (suc count) later e = rw e refl

pub all_said : (text : List ℕ) → take (length text) (statements text) ≡ statements text
all_said text = take_all (length text) (statements text) (few_statements text)

pub given_is : (key : Key) (text value : List ℕ) → Some value ≡ value_in key (take (length text) (statements text))
    → value ≡ value_of key (statements text)
given_is key text value e =
    let given : value_in key (statements text) ≡ Some value = sym (e ∙ ap (value_in key) (all_said text)) in rw given refl

pub default_is : (key : Key) (text : List ℕ) → None ≡ value_in key (take (length text) (statements text))
    → default_of key ≡ value_of key (statements text)
default_is key text e =
    let given : value_in key (statements text) ≡ None = sym (e ∙ ap (value_in key) (all_said text)) in rw given refl

-- ---- keys by name

-- the key that a name names, among these
key_among : List ℕ → List Key → Option Key
key_among name keys = find (λ key. pointwise nat_eq name (name_of key)) keys

found_key : (name : List ℕ) (all : List Key) → IfSome (key_among name all) (λ key. (name ≡ name_of key) × ⊤)
unfolding key_among
found_key name [] = tt
found_key name (key ∷ others) = by_test (pointwise nat_eq name (name_of key)) (bytes_decides name (name_of key)).0 (found_key name others)
  where
    by_test : (test : Bool) → (test ≡ true → name ≡ name_of key)
        → IfSome (find (λ at. pointwise nat_eq name (name_of at)) others) (λ at. (name ≡ name_of at) × ⊤)
        → IfSome (if test then Some key else find (λ at. pointwise nat_eq name (name_of at)) others) (λ at. (name ≡ name_of at) × ⊤)
    by_test true same others = (same refl, tt)
    by_test false same others = others

only_key : (key : Key) → key_among (name_of key) KEYS ≡ Some key
unfolding key_among
only_key keys.Scid = refl
only_key keys.TcVcid = refl
only_key keys.TcMap = refl
only_key keys.TcWindow = refl
only_key keys.TcFecf = refl
only_key keys.TcRandomizer = refl
only_key keys.TcIdle = refl
only_key keys.TcCorrect = refl
only_key keys.TmLength = refl
only_key keys.TmVcid = refl
only_key keys.TmFecf = refl
only_key keys.Apid = refl
only_key keys.Source = refl
only_key keys.TimeEpoch = refl
only_key keys.TimeFine = refl
only_key keys.Rehearsal = refl

pub key_read : (name : List ℕ) (read : Option Key) → read ≡ find (λ key. pointwise nat_eq name (name_of key)) KEYS
    → ReadsWord name_of (λ key. ⊤) name read
unfolding key_among
key_read name read e = record {
  found = rw e (found_key name KEYS);
  only = λ key inside is. rw (e, is) (only_key key);
}

-- different keys have different names
pub name_tells : (a b : Key) → name_of a ≡ name_of b → a ≡ b
name_tells a b e =
    let same : Some a ≡ Some b = sym (only_key a) ∙ ap (λ name. key_among name KEYS) e ∙ only_key b in cc

-- ---- the first fault

-- the statement at a place, of what is left from there on
left_at : {X : Type 0} (xs : List X) (place : ℕ) (other first : X) (later : List X) → drop place xs ≡ first ∷ later
    → (get_or xs place other ≡ first) × (drop (suc place) xs ≡ later) × (place < length xs)
left_at [] zero other first later e = absurd (cc)
left_at [] (suc place) other first later e = absurd (cc)
left_at (x ∷ xs) zero other first later e = (cc, cc, omega arith)
left_at (x ∷ xs) (suc place) other first later e =
    let there = left_at xs place other first later e in (there.0, there.1, omega (arith, there.2))

none_left : {X : Type 0} (xs : List X) (place : ℕ) → drop place xs ≡ [] → length xs ≤ place
none_left [] place e = omega arith
none_left (x ∷ xs) zero e = absurd (cc)
none_left (x ∷ xs) (suc place) e = omega (arith, none_left xs place e)

pub left_more : (said later : List Said) (count : ℕ) (first : Said) → drop count said ≡ first ∷ later → drop (count + 1) said ≡ later
left_more said later count first e = rw add-one (left_at said count blank first later e).1

pub said_at : (said later : List Said) (count : ℕ) (first : Said) (answer : Option ProfileWord) → drop count said ≡ first ∷ later
    → Says (take count said) first answer → SaysAt said count answer
said_at said later count first answer e h = rw (left_at said count blank first later e).0 h

pub sound_more : (said later : List Said) (count : ℕ) (first : Said) → drop count said ≡ first ∷ later → AreSound count said
    → Says (take count said) first None → AreSound (count + 1) said
sound_more said later count first e sound h = below_more (λ place. SaysAt said place None) count sound (said_at said later count first None e h)

pub sound_all : (said : List Said) (count : ℕ) → drop count said ≡ [] → AreSound count said → AreSound (length said) said
sound_all said count e sound = λ place below. sound place (omega (arith, none_left said count e))

pub fault_here : (said later : List Said) (count line : ℕ) (first : Said) (word : ProfileWord) → line ≡ count + 1 → drop count said ≡ first ∷ later
    → AreSound count said
    → Says (take count said) first (Some word) → IsFirstFault said line word
fault_here said later count line first word is e sound h =
    let there = left_at said count blank first later e in
    let least = there.2 in
    let before : line - 1 ≡ count = omega arith in
    record {
      least = omega arith;
      most = omega arith;
      before = rw before sound;
      here = rw before (said_at said later count first (Some word) e h);
    }

pub few_left : (text : List ℕ) (count : ℕ) (first : Said) (later : List Said) → drop count (statements text) ≡ first ∷ later → count < length text
few_left text count first later e =
    let there = (left_at (statements text) count blank first later e).2 in
    let few = few_statements text in omega arith

-- ---- texts without a fault

-- a statement that is taken somewhere
abbrev IsTaken : Said → Type 0
IsTaken said = (earlier : List Said) × Says earlier said None

given_by : (test : Bool) (key named : Key) (name value given : List ℕ) → (test ≡ true → name ≡ name_of key) → name ≡ name_of named
    → IsValue named value
    → (if test then Some value else None) ≡ Some given → IsValue key given
given_by true key named name value given same is h e =
    let one : named ≡ key = name_tells named key (sym is ∙ same refl) in
    let here : value ≡ given = cc in
    rw (← one, ← here) h
given_by false key named name value given same is h e = absurd (cc)

taken_value : (key : Key) (said : Said) (given : List ℕ) → IsTaken said → value_given key said ≡ Some given → IsValue key given
taken_value key blank given h e = absurd (cc)
taken_value key (setting name value) given h e =
    given_by (pointwise nat_eq name (name_of key)) key h.1.0 name value given (bytes_decides name (name_of key)).0 h.1.1 h.1.3 e
taken_value key bad given h e = absurd (cc)

values_later : (key : Key) (later : List Said) (given : List ℕ) → ((place : ℕ) → place < length later → IsTaken (get_or later place blank))
    → value_in key later ≡ Some given → IsValue key given
values_later key [] given each e = absurd (cc)
values_later key (said ∷ later) given each e =
    by_first (value_given key said) refl (λ rest. values_later key later given (λ place below. each (suc place) (omega arith)) rest) e
  where
    by_first : (first : Option (List ℕ)) → value_given key said ≡ first → (value_in key later ≡ Some given → IsValue key given)
        → or_later first (value_in key later) ≡ Some given → IsValue key given
    by_first None is others rest = others rest
    by_first (Some value) is others rest = taken_value key said given (each 0 (omega arith)) (is ∙ rest)

default_value : (key : Key) → IsValue key (default_of key)
unfolding digits
default_value keys.Scid = (1, omega arith, omega arith, refl)
default_value keys.TcVcid = (3, omega arith, omega arith, refl)
default_value keys.TcMap = inl refl
default_value keys.TcWindow = (20, omega arith, omega arith, refl, refl)
default_value keys.TcFecf = (true, refl)
default_value keys.TcRandomizer = (false, refl)
default_value keys.TcIdle = (0, omega arith, omega arith, refl)
default_value keys.TcCorrect = (false, refl)
default_value keys.TmLength = (1115, omega arith, omega arith, refl)
default_value keys.TmVcid = (0, omega arith, omega arith, refl)
default_value keys.TmFecf = (true, refl)
default_value keys.Apid = (1, omega arith, omega arith, refl)
default_value keys.Source = (0, omega arith, omega arith, refl)
default_value keys.TimeEpoch = (pos 0, (omega (arith, ints), omega (arith, ints)), refl)
default_value keys.TimeFine = inl refl
default_value keys.Rehearsal = (true, refl)

value_by : (key : Key) (given : Option (List ℕ)) → ((value : List ℕ) → given ≡ Some value → IsValue key value)
    → IsValue key (unwrap_or given (default_of key))
value_by key None each = default_value key
value_by key (Some value) each = each value refl

pub values_sound : (text : List ℕ) → AreSound (length (statements text)) (statements text) → AreValues text
values_sound text sound = record {
  each = λ key. value_by key (value_in key (statements text))
      (λ value e. values_later key (statements text) value (λ place below. (take place (statements text), sound place below)) e);
}
