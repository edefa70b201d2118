-- The lines of a script that are sent over HTTP, and their numbers.
use Rattle.std.specs.Prelude.{◌+◌, ℕ, if◌then◌else◌, List, [], ◌∷◌}
use Rattle.tc_check.specs.Scripts.{is_skipped}
use Rattle.tc_posts.specs.declared.numbered.NumberedLine.{NumberedLine}

-- a line that is sent, its number, and that of the line in its script
abbrev pub shown : NumberedLine → List ℕ × ℕ × ℕ
shown sent = (sent.line.now, sent.number, sent.place)

-- What is sent of the lines from this one of a script on: the first has this number, and each behind it the next. A line that is skipped is not sent, and takes none.
abbrev pub numbered : ℕ → ℕ → List (List ℕ) → List (List ℕ × ℕ × ℕ)
numbered first place [] = []
numbered first place (line ∷ lines) =
    if is_skipped line then numbered first (place + 1) lines else (line, first, place) ∷ numbered (first + 1) (place + 1) lines
