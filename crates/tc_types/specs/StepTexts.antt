-- What is done at a step of a procedure, as text (this desk's own).
use Rattle.std.specs.Prelude.{ℕ, ◌-◌, nat_lt, nat_le, Bool, ◌&&◌, List, ◌++◌, length, replicate}
use Rattle.std.specs.List.{list_all}

-- from the space to ~
abbrev pub is_printable : ℕ → Bool
is_printable byte = nat_le 32 byte && nat_le byte 126

-- 1 to 80 printable characters of ASCII
abbrev pub is_step_text : List ℕ → Bool
is_step_text text = nat_lt 0 (length text) && nat_le (length text) 80 && list_all is_printable text

-- such a text as it lies in 80 bytes, zeros behind it
abbrev pub padded_step_text : List ℕ → List ℕ
padded_step_text text = text ++ replicate (80 - length text) 0
