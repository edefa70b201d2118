-- Header fields, and the decimal numbers in them.
use Rattle.std.specs.Prelude.{◌≡◌, ℕ, ◌<◌, Bool, if◌then◌else◌, List, [], ◌∷◌, length, map, get_or}
use Rattle.std.specs.Char.{to_ascii_lowercase}
use Rattle.std.specs.Str.Parse.{AllDigits}
use Rattle.tc_front.specs.Paths.{same}
use Rattle.tc_front.specs.declared.fields.FieldValues.{FieldValues}
use Rattle.tc_front.specs.declared.fields.FieldValues.TheVariants as found

-- the same letters, of either case
abbrev pub same_name : List ℕ → List ℕ → Bool
same_name a b = same (map to_ascii_lowercase a) (map to_ascii_lowercase b)

-- the values of the fields of this name, in order
abbrev pub values : List ℕ → List (List ℕ × List ℕ) → List (List ℕ)
values name [] = []
values name (field ∷ fields) = if same_name field.0 name then field.1 ∷ values name fields else values name fields

-- no field, one with its value, or more than one
pub data Held : Type 0 where
  absent : Held
  single : List ℕ → Held
  several : Held

-- what the values of a name come to
abbrev pub found_of : List (List ℕ) → Held
found_of [] = absent
found_of (value ∷ []) = single value
found_of (value ∷ other ∷ more) = several

-- what the code found, with the bytes of the value
abbrev pub found_view : FieldValues → Held
found_view found.Absent = absent
found_view (found.One value) = single value.now
found_view found.Many = several

-- digits, with no zero in front that could be left out
pub record IsDecimal (text : List ℕ) : Type 0 where
  pub digits : AllDigits 10 text
  pub filled : 0 < length text
  pub plain : get_or text 0 0 ≡ 48 → length text ≡ 1
