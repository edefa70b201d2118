-- The lines of a file at which the records of its text begin.
use Rattle.std.specs.Prelude.{ℕ, ◌+◌, ◌==◌, Bool, true, false, not, ◌&&◌, if◌then◌else◌, List, [], ◌∷◌, ◌++◌}
use Rattle.csv.specs.Machine.{ends_with, step}
use Rattle.csv.specs.Reading.{default_config, strip_bom}
use Rattle.csv.specs.declared.parser.State.{State}
use Rattle.csv.specs.declared.parser.State.TheVariants as state
use Rattle.csv.specs.declared.parser.Terminator.TheVariants as terminator
use Rattle.tc_check.specs.declared.file_lines.Within.{Within}
use Rattle.tc_check.specs.declared.file_lines.Within.TheVariants as within

abbrev pub state_of : Within → State
state_of within.Between = state.StartRecord
state_of within.AfterCr = state.AfterCr
state_of within.FieldStart = state.StartField
state_of within.Field = state.InField
state_of within.Quoted = state.InQuoted
state_of within.AfterQuote = state.AfterQuote

-- the reading of a text stands between two records
abbrev pub is_between : State → Bool
is_between state.StartRecord = true
is_between state.AfterCr = true
is_between other = false

-- a record begins at the first byte behind the one before that is no line end
abbrev pub begins : State → ℕ → Bool
begins at byte = is_between at && not (ends_with terminator.CRLF byte)

abbrev pub begins_at : State → ℕ → ℕ → List ℕ
begins_at at byte line = if begins at byte then line ∷ [] else []

-- a line ends with LF
abbrev pub line_behind : ℕ → ℕ → ℕ
line_behind byte line = if byte == 10 then line + 1 else line

-- of the records that begin in these bytes, the first of which stands on this line
abbrev pub lines_from : State → ℕ → List ℕ → List ℕ
lines_from at line [] = []
lines_from at line (byte ∷ others) = begins_at at byte line ++ lines_from (step default_config at byte).0 (line_behind byte line) others

abbrev pub record_lines : List ℕ → List ℕ
record_lines text = lines_from state.StartRecord 1 (strip_bom text)

-- ---- a quote that stays open

abbrev pub is_quoted : State → Bool
is_quoted state.InQuoted = true
is_quoted other = false

-- the reading of these bytes ends between quotes
abbrev pub ends_quoted_from : State → List ℕ → Bool
ends_quoted_from at [] = is_quoted at
ends_quoted_from at (byte ∷ others) = ends_quoted_from (step default_config at byte).0 others

-- a quote of the text stays open to its end
abbrev pub ends_quoted : List ℕ → Bool
ends_quoted text = ends_quoted_from state.StartRecord (strip_bom text)
