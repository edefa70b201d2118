-- Names of persons, stacks and procedures.
use Rattle.std.specs.Prelude.{◌≢◌, ℕ, ◌<◌, ◌≤◌, ◌-◌, Bool, ◌&&◌, ◌||◌, nat_eq, nat_le, IsTrue, List, ◌++◌, length, replicate, codes}
use Rattle.std.specs.List.{list_all}
use Rattle.std.specs.Cmp.Lexicographic.{pointwise}

-- a lower-case letter or a digit
abbrev pub is_name_byte : ℕ → Bool
is_name_byte byte = (nat_le 97 byte && nat_le byte 122) || (nat_le 48 byte && nat_le byte 57)

-- 1 to 16 lower-case letters and digits
pub record IsName (name : List ℕ) : Type 0 where
  pub not_empty : 0 < length name
  pub short : length name ≤ 16
  pub spelled : IsTrue (list_all is_name_byte name)

-- the desk itself, which no person may be
abbrev pub desk_name : List ℕ
desk_name = codes "desk"

-- who may act: any name but the desk's own
abbrev pub IsPerson : List ℕ → Type 0
IsPerson name = IsName name × (name ≢ desk_name)

-- two names are the same
abbrev pub is_same_name : List ℕ → List ℕ → Bool
is_same_name a b = pointwise nat_eq a b

-- a name as it lies in 16 bytes, zeros behind it
abbrev pub padded_name : List ℕ → List ℕ
padded_name name = name ++ replicate (16 - length name) 0
