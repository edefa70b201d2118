-- The sixteen keys of a profile's text: their names, their defaults and their values (all of them this project's own).
use Rattle.std.specs.Prelude.{◌≡◌, ◌⊎◌, ℕ, ℤ, ◌%◌, ◌≤◌, Bool, true, false, if◌then◌else◌, List, [], ◌∷◌, Option, Some, None, IfSome, codes}
use Rattle.std.specs.Fmt.{decimal, signed_decimal}
use Rattle.tc_octets.specs.Epochs.{IsEpoch}
use Rattle.tc_octets.specs.declared.profiles.Map.{Map}
use Rattle.tc_octets.specs.declared.profiles.Profile.{Profile}
use Rattle.tc_octets.specs.declared.keys.Key.{Key}
use Rattle.tc_octets.specs.declared.keys.Key.TheVariants as keys

-- all keys, in the order in which a profile is printed
abbrev pub all_keys : List Key
all_keys =
    keys.Scid ∷ keys.TcVcid ∷ keys.TcMap ∷ keys.TcWindow ∷ keys.TcFecf ∷ keys.TcRandomizer ∷ keys.TcIdle ∷ keys.TcCorrect
    ∷ keys.TmLength ∷ keys.TmVcid ∷ keys.TmFecf ∷ keys.Apid ∷ keys.Source ∷ keys.TimeEpoch ∷ keys.TimeFine ∷ keys.Rehearsal ∷ []

-- the name of a key
abbrev pub name_of : Key → List ℕ
name_of keys.Scid = codes "scid"
name_of keys.TcVcid = codes "tc.vcid"
name_of keys.TcMap = codes "tc.map"
name_of keys.TcWindow = codes "tc.window"
name_of keys.TcFecf = codes "tc.fecf"
name_of keys.TcRandomizer = codes "tc.randomizer"
name_of keys.TcIdle = codes "tc.idle"
name_of keys.TcCorrect = codes "tc.correct"
name_of keys.TmLength = codes "tm.length"
name_of keys.TmVcid = codes "tm.vcid"
name_of keys.TmFecf = codes "tm.fecf"
name_of keys.Apid = codes "apid"
name_of keys.Source = codes "source"
name_of keys.TimeEpoch = codes "time.epoch"
name_of keys.TimeFine = codes "time.fine"
name_of keys.Rehearsal = codes "rehearsal"

-- the value of a key that a text does not give
abbrev pub default_of : Key → List ℕ
default_of keys.Scid = codes "1"
default_of keys.TcVcid = codes "3"
default_of keys.TcMap = codes "none"
default_of keys.TcWindow = codes "20"
default_of keys.TcFecf = codes "yes"
default_of keys.TcRandomizer = codes "no"
default_of keys.TcIdle = codes "0"
default_of keys.TcCorrect = codes "no"
default_of keys.TmLength = codes "1115"
default_of keys.TmVcid = codes "0"
default_of keys.TmFecf = codes "yes"
default_of keys.Apid = codes "1"
default_of keys.Source = codes "0"
default_of keys.TimeEpoch = codes "0"
default_of keys.TimeFine = codes "0"
default_of keys.Rehearsal = codes "yes"

-- ---- values

-- What is read has this text, and what has this text is read.
pub record ReadsWord {X : Type 0} (text : X → List ℕ) (In : X → Type 0) (word : List ℕ) (read : Option X) : Type 0 where
  pub found : IfSome read (λ x. (word ≡ text x) × In x)
  pub only : (x : X) → In x → word ≡ text x → read ≡ Some x

-- a number of this range, in decimal digits without sign or leading zeros
abbrev pub IsNumber : ℕ → ℕ → List ℕ → Type 0
IsNumber least most value = (n : ℕ) × (least ≤ n) × (n ≤ most) × (value ≡ decimal n)

-- a width W of FARM-1's sliding window, which is even (CCSDS 232.1-B)
abbrev pub IsWindow : List ℕ → Type 0
IsWindow value = (n : ℕ) × (2 ≤ n) × (n ≤ 254) × (n % 2 ≡ 0) × (value ≡ decimal n)

-- the Unix seconds of an epoch, with a minus in front of a negative number
abbrev pub IsSeconds : List ℕ → Type 0
IsSeconds value = (seconds : ℤ) × IsEpoch seconds × (value ≡ signed_decimal seconds)

abbrev pub yes_no : Bool → List ℕ
yes_no true = codes "yes"
yes_no false = codes "no"

abbrev pub IsYesOrNo : List ℕ → Type 0
IsYesOrNo value = (chosen : Bool) × (value ≡ yes_no chosen)

-- what a key may have as its value
abbrev pub IsValue : Key → List ℕ → Type 0
IsValue keys.Scid value = IsNumber 0 1023 value
IsValue keys.TcVcid value = IsNumber 0 63 value
IsValue keys.TcMap value = (value ≡ codes "none") ⊎ IsNumber 0 63 value
IsValue keys.TcWindow value = IsWindow value
IsValue keys.TcFecf value = IsYesOrNo value
IsValue keys.TcRandomizer value = IsYesOrNo value
IsValue keys.TcIdle value = IsNumber 0 255 value
IsValue keys.TcCorrect value = IsYesOrNo value
IsValue keys.TmLength value = IsNumber 32 2048 value
IsValue keys.TmVcid value = IsNumber 0 7 value
IsValue keys.TmFecf value = IsYesOrNo value
IsValue keys.Apid value = IsNumber 1 2046 value
IsValue keys.Source value = IsNumber 0 65535 value
IsValue keys.TimeEpoch value = IsSeconds value
IsValue keys.TimeFine value = (value ≡ codes "0") ⊎ (value ≡ codes "2")
IsValue keys.Rehearsal value = IsYesOrNo value

abbrev pub map_word : Option Map → List ℕ
map_word None = codes "none"
map_word (Some map) = decimal map.id

-- the octets of the fraction of a second
abbrev pub fine_word : Bool → List ℕ
fine_word fine = if fine then codes "2" else codes "0"

-- the value that a profile has for a key
abbrev pub spelled : Profile → Key → List ℕ
spelled profile keys.Scid = decimal profile.scid
spelled profile keys.TcVcid = decimal profile.tc.vcid
spelled profile keys.TcMap = map_word profile.tc.map
spelled profile keys.TcWindow = decimal profile.tc.window
spelled profile keys.TcFecf = yes_no profile.tc.fecf
spelled profile keys.TcRandomizer = yes_no profile.tc.randomizer
spelled profile keys.TcIdle = decimal profile.tc.idle
spelled profile keys.TcCorrect = yes_no profile.tc.correct
spelled profile keys.TmLength = decimal profile.tm.length
spelled profile keys.TmVcid = decimal profile.tm.vcid
spelled profile keys.TmFecf = yes_no profile.tm.fecf
spelled profile keys.Apid = decimal profile.apid
spelled profile keys.Source = decimal profile.source
spelled profile keys.TimeEpoch = signed_decimal profile.epoch
spelled profile keys.TimeFine = fine_word profile.fine
spelled profile keys.Rehearsal = yes_no profile.rehearsal
