-- The text of a profile: what its lines say, what a reader answers, and what is printed (this project's own).
use Rattle.std.specs.Prelude.{◌≡◌, ◌≢◌, ℕ, ◌-◌, ◌<◌, ◌≤◌, ◌==◌, nat_le, nat_eq, ◌&&◌, Bool, true, if◌then◌else◌, List, [], ◌∷◌, ◌++◌, length}
use Rattle.std.specs.Prelude.{take, map, reverse, Option, Some, None, Result, Ok, Err, IsNone, IsSome, codes, ⊤}
use Rattle.std.specs.List.{slice_index_or, list_all, list_any, before_first, after_first, flat_map}
use Rattle.std.specs.Fmt.{decimal}
use Rattle.std.specs.Option.{unwrap_or}
use Rattle.std.specs.Str.Lines.{lines}
use Rattle.std.specs.Cmp.Lexicographic.{pointwise}
use Rattle.tc_octets.specs.declared.profiles.Profile.{Profile}
use Rattle.tc_octets.specs.declared.keys.Key.{Key}
use Rattle.tc_octets.specs.declared.keys.Key.TheVariants as keys
use Rattle.tc_octets.specs.declared.statements.Statement.{Statement}
use Rattle.tc_octets.specs.declared.statements.Statement.TheVariants as forms
use Rattle.tc_octets.specs.declared.profile_texts.ProfileWord.{ProfileWord}
use Rattle.tc_octets.specs.declared.profile_texts.ProfileWord.TheVariants as words
use Rattle.tc_octets.specs.declared.profile_texts.ProfileFault.{ProfileFault}
use Rattle.tc_octets.specs.ProfileKeys.{all_keys, name_of, default_of, spelled, IsValue}

-- ---- what a line says

-- an octet from space to ~; an equals sign
abbrev pub is_printable : ℕ → Bool
is_printable octet = nat_le 32 octet && nat_le octet 126

abbrev pub is_equals : ℕ → Bool
is_equals octet = octet == 61

-- a text without the spaces in front of it; one without the spaces around it
abbrev pub trimmed_start : List ℕ → List ℕ
trimmed_start [] = []
trimmed_start (octet ∷ octets) = if octet == 32 then trimmed_start octets else octet ∷ octets

abbrev pub trimmed : List ℕ → List ℕ
trimmed text = reverse (trimmed_start (reverse (trimmed_start text)))

-- a line of spaces or with a comment; one that gives a name a value; one that is neither
pub data Said : Type 0 where
  blank : Said
  setting : (name value : List ℕ) → Said
  bad : Said

abbrev pub said_of : Statement → Said
said_of forms.Blank = blank
said_of (forms.Setting name value) = setting name.now value.now
said_of forms.Bad = bad

-- what a line says that has no spaces around it: a comment begins with #, and a name ends at the first equals sign
abbrev pub statement_in : List ℕ → Said
statement_in [] = blank
statement_in (first ∷ rest) =
    if first == 35 then blank
    else if list_any is_equals (first ∷ rest) then setting (trimmed (before_first is_equals (first ∷ rest)))
    (trimmed (after_first is_equals (first ∷ rest)))
    else bad

abbrev pub statement_of : List ℕ → Said
statement_of line = if list_all is_printable line then statement_in (trimmed line) else bad

-- What a text says, line by line. LF ends a line, and a CR before it is dropped; the last LF may be missing (`lines` of std).
abbrev pub statements : List ℕ → List Said
statements text = map statement_of (lines text)

-- ---- what a text gives

-- the value that a statement gives a key, if it does; the first that several statements give it
abbrev pub value_given : Key → Said → Option (List ℕ)
value_given key blank = None
value_given key (setting name value) = if pointwise nat_eq name (name_of key) then Some value else None
value_given key bad = None

abbrev pub or_later : Option (List ℕ) → Option (List ℕ) → Option (List ℕ)
or_later None later = later
or_later (Some value) later = Some value

abbrev pub value_in : Key → List Said → Option (List ℕ)
value_in key [] = None
value_in key (statement ∷ later) = or_later (value_given key statement) (value_in key later)

-- the value of a key: the one that is given, or the default
abbrev pub value_of : Key → List Said → List ℕ
value_of key said = unwrap_or (value_in key said) (default_of key)

-- ---- what a reader answers

-- Why a statement is refused, or that it is not, after those before it: the first that applies of BadText, UnknownKey, KeyTwice and BadValue.
abbrev pub Says : List Said → Said → Option ProfileWord → Type 0
Says earlier blank None = ⊤
Says earlier (setting name value) None = (key : Key) × (name ≡ name_of key) × IsNone (value_in key earlier) × IsValue key value
Says earlier bad (Some words.BadText) = ⊤
Says earlier (setting name value) (Some words.UnknownKey) = (key : Key) → name ≢ name_of key
Says earlier (setting name value) (Some words.KeyTwice) = (key : Key) × (name ≡ name_of key) × IsSome (value_in key earlier)
Says earlier (setting name value) (Some words.BadValue) =
    (key : Key) × (name ≡ name_of key) × IsNone (value_in key earlier) × (IsValue key value → ⊥)
Says earlier statement answer = ⊥

-- what is said of the statement at a place, after those before it
abbrev pub SaysAt : List Said → ℕ → Option ProfileWord → Type 0
SaysAt said place answer = Says (take place said) (slice_index_or said place blank) answer

-- the first statements have no fault
abbrev pub AreSound : ℕ → List Said → Type 0
AreSound count said = (place : ℕ) → place < count → SaysAt said place None

-- the first fault is in this line, and this word says why; lines count from 1
pub record IsFirstFault (said : List Said) (line : ℕ) (word : ProfileWord) : Type 0 where
  pub least : 1 ≤ line
  pub most : line ≤ length said
  pub before : AreSound (line - 1) said
  pub here : SaysAt said (line - 1) (Some word)

-- A decoder that corrects lets wrong frames through, and only a check of the frames finds them.
abbrev pub Clashes : List Said → Type 0
Clashes said = (value_of keys.TcCorrect said ≡ codes "yes") × (value_of keys.TcFecf said ≡ codes "no")

-- a text that is not too long, of lines without a fault
pub record IsReadable (text : List ℕ) : Type 0 where
  pub short : length text ≤ 4096
  pub sound : AreSound (length (statements text)) (statements text)

-- Why a text is refused, and in which line; 0 is the text as a whole.
abbrev pub Refuses : List ℕ → ℕ → ProfileWord → Type 0
Refuses text line words.TooLong = (line ≡ 0) × (4096 < length text)
Refuses text line words.Clash = (line ≡ 0) × IsReadable text × Clashes (statements text)
Refuses text line word = (length text ≤ 4096) × IsFirstFault (statements text) line word

-- What each profile of a text keeps, beside the ranges of its types: a check of frames if the decoder corrects.
pub record IsProfile (profile : Profile) : Type 0 where
  pub idle : profile.tc.idle ≤ 255
  pub source : profile.source ≤ 65535
  pub checked : profile.tc.correct ≡ true → profile.tc.fecf ≡ true

-- What a reader answers: the profile with the value of each key, or why the text is refused.
abbrev pub ProfileReads : List ℕ → Result Profile ProfileFault → Type 0
ProfileReads text (Ok profile) = IsReadable text × IsProfile profile × ((key : Key) → spelled profile key ≡ value_of key (statements text))
ProfileReads text (Err fault) = Refuses text fault.line fault.word

-- ---- what is printed

-- key = value, and LF
abbrev pub line_of : Profile → Key → List ℕ
line_of profile key = name_of key ++ codes " = " ++ spelled profile key

-- all keys in their order, each in a line that ends with LF
abbrev pub profile_text : Profile → List ℕ
profile_text profile = flat_map (λ key. line_of profile key ++ 10 ∷ []) all_keys

-- a fault as it is printed: line N: Word, and the word alone if it is of the text as a whole
abbrev pub word_name : ProfileWord → List ℕ
word_name words.TooLong = codes "TooLong"
word_name words.BadText = codes "BadText"
word_name words.UnknownKey = codes "UnknownKey"
word_name words.KeyTwice = codes "KeyTwice"
word_name words.BadValue = codes "BadValue"
word_name words.Clash = codes "Clash"

abbrev pub fault_line : ProfileFault → List ℕ
fault_line fault = if fault.line == 0 then word_name fault.word else codes "line " ++ decimal fault.line ++ codes ": " ++ word_name fault.word

-- ---- what holds of answers

-- No other answer is right.
pub record IsOnly (text : List ℕ) (answer : Result Profile ProfileFault) : Type 0 where
  pub only : (other : Result Profile ProfileFault) → ProfileReads text other → other ≡ answer

-- The text that is printed of a profile is answered by that profile. So different profiles have different texts.
pub record ReadsPrinted (text : List ℕ) (answer : Result Profile ProfileFault) : Type 0 where
  pub printed : (profile : Profile) → IsProfile profile → text ≡ profile_text profile → answer ≡ Ok profile
