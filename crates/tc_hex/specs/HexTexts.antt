-- Texts of hexadecimal digits, and the octets that they spell (this desk's own).
use Rattle.std.specs.Prelude.{ℕ, ◌+◌, ◌==◌, nat_lt, if◌then◌else◌, List, [], ◌∷◌, ◌++◌, length, Result, Ok, Err}
use Rattle.hex.specs.Hex.{decode_sized}
use Rattle.hex.specs.declared.error.FromHexError.{FromHexError}
use Rattle.tc_hex.specs.declared.hex_texts.HexFault.{HexFault}
use Rattle.tc_hex.specs.declared.hex_texts.HexFault.TheVariants.{NoPair, TooLong}
use Rattle.tc_hex.specs.declared.hex_texts.TheConstants.{MOST_CHARACTERS, MOST_OCTETS}

-- what a text spells whose first two characters, from this place on, are read so, and what the rest spells
abbrev pub after_pair : ℕ → Result (List ℕ) FromHexError → Result (List ℕ) HexFault → Result (List ℕ) HexFault
after_pair at (Err error) rest = Err (NoPair at)
after_pair at (Ok octet) (Err fault) = Err fault
after_pair at (Ok octet) (Ok octets) = Ok (octet ++ octets)

-- The octets that a text spells whose first character has this place; or the first place at which neither a space nor a pair of digits begins.
unfoldable pub spelled_from : ℕ → List ℕ → Result (List ℕ) HexFault
spelled_from at [] = Ok []
spelled_from at (last ∷ []) = if last == 32 then Ok [] else Err (NoPair at)
spelled_from at (one ∷ two ∷ rest) =
    if one == 32 then spelled_from (at + 1) (two ∷ rest) else after_pair at (decode_sized (one ∷ two ∷ []) 1) (spelled_from (at + 2) rest)

-- the same octets, if they are no more than a packet may have
abbrev pub if_short : Result (List ℕ) HexFault → Result (List ℕ) HexFault
if_short (Err fault) = Err fault
if_short (Ok octets) = if nat_lt MOST_OCTETS (length octets) then Err TooLong else Ok octets

-- the octets that a text spells
abbrev pub spelled_octets : List ℕ → Result (List ℕ) HexFault
spelled_octets text = if nat_lt MOST_CHARACTERS (length text) then Err TooLong else if_short (spelled_from 1 text)
