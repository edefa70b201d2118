-- The lines of a head that is written (RFC 9112, section 2.1).
use Rattle.std.specs.Prelude.{ℕ, List, [], ◌∷◌, ◌++◌, codes}
use Rattle.std.specs.Fmt.{decimal}

-- CR LF
abbrev pub line_end : List ℕ
line_end = 13 ∷ 10 ∷ []

-- the line of the body's length (RFC 9110, section 8.6), without its end
abbrev pub length_line : ℕ → List ℕ
length_line size = codes "Content-Length: " ++ decimal size
