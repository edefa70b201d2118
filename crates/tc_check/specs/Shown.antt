-- Values that were found, as they are shown.
use Rattle.std.specs.Prelude.{ℕ, ◌+◌, ◌/◌, ◌%◌, ◌==◌, nat_lt, nat_le, Bool, not, ◌&&◌, if◌then◌else◌, List, [], ◌∷◌, ◌++◌, codes, length, take}
use Rattle.std.specs.List.{flat_map}

-- a printable character of ASCII, but for the quote and the backslash
abbrev pub is_shown : ℕ → Bool
is_shown byte = (nat_le 32 byte && nat_le byte 126) && not (byte == 34) && not (byte == 92)

abbrev pub hex_digit : ℕ → ℕ
hex_digit value = if nat_lt value 10 then 48 + value else 87 + value

-- any other is shown by its two digits of base 16
abbrev pub shown_byte : ℕ → List ℕ
shown_byte byte = if is_shown byte then byte ∷ [] else codes "\\x" ++ hex_digit (byte / 16) ∷ hex_digit (byte % 16) ∷ []

abbrev pub shown : List ℕ → List ℕ
shown value = flat_map shown_byte value

-- between quotes; of a longer value the first 256 bytes, and two dots after it: eight instants are shown whole, and so is each act
abbrev pub quoted : List ℕ → List ℕ
quoted value =
    if nat_le (length value) 256 then codes "\"" ++ flat_map shown_byte value ++ codes "\""
    else codes "\"" ++ flat_map shown_byte (take 256 value) ++ codes "\".."
