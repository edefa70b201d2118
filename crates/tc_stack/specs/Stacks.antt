-- A stack: rows that name earlier lines, and which of them one may name (this desk's own).
use Rattle.std.specs.Prelude.{◌≡◌, ⊤, ℕ, ◌+◌, ◌-◌, ◌<◌, ◌≤◌, ◌==◌, Bool, true, false, not, ◌&&◌, ◌||◌, if◌then◌else◌, Option, Some, None, IfSome, List, [], ◌∷◌, length, slice_get}
use Rattle.std.specs.List.{list_any, AllByRecursion}
use Rattle.tc_types.specs.declared.requests.Command.{Command}
use Rattle.tc_types.specs.declared.history.places.Place.{Place}
use Rattle.tc_types.specs.declared.history.places.Place.TheVariants as place
use Rattle.tc_types.specs.Limits.{most_stack_rows}
use Rattle.tc_types.specs.Grammar.{IsEntry}
use Rattle.tc_types.specs.Schedule.{is_schedule, is_insert, targets_of, has_twice}
use Rattle.tc_stack.specs.declared.stacks.StackRow.{StackRow}

-- ---- lines

-- a line before this one
abbrev pub IsEarlier : ℕ → ℕ → Type 0
IsEarlier line named = (0 < named) × (named < line)

-- what stands on a line, if there is such a line
abbrev pub at_line : {X : Type 0} → List X → ℕ → Option X
at_line items line = if line == 0 then None else slice_get items (line - 1)

-- ---- rows

-- a row as it may stand on this line
pub record IsRow (line : ℕ) (row : StackRow) : Type 0 where
  pub entry : IsEntry row.entry
  pub targets : AllByRecursion (IsEarlier line) (targets_of row.entry.command)
  pub after : IfSome row.after (IsEarlier line)

-- these rows may stand on the lines from this one on
abbrev pub AreRows : ℕ → List StackRow → Type 0
AreRows line [] = ⊤
AreRows line (row ∷ rows) = IsRow line row × AreRows (line + 1) rows

-- a command may not name this row: none may name a schedule command, and an insert's activity asks for the report of its acceptance
abbrev pub is_barred : Command → Option StackRow → Bool
is_barred given None = false
is_barred given (Some row) = is_schedule row.entry.command || (is_insert given && not row.entry.ack.acceptance)

-- a command may not name what stands on this line
abbrev pub is_barred_line : List StackRow → Command → ℕ → Bool
is_barred_line rows given line = is_barred given (at_line rows line)

-- the command of a row names one that it may not name, or one twice
abbrev pub names_barred : List StackRow → StackRow → Bool
names_barred rows row =
    list_any (is_barred_line rows row.entry.command) (targets_of row.entry.command) || has_twice (targets_of row.entry.command)

-- the first line from this one on whose command does so, among all rows
abbrev pub first_barred : List StackRow → ℕ → List StackRow → Option ℕ
first_barred all line [] = None
first_barred all line (row ∷ rows) = if names_barred all row then Some line else first_barred all (line + 1) rows

-- one row or more, as many as a stack has at most, each with earlier lines, and none that names one that it may not name, or one twice
pub record IsStack (rows : List StackRow) : Type 0 where
  pub some : 0 < length rows
  pub few : length rows ≤ most_stack_rows
  pub each : AreRows 1 rows
  pub targets : first_barred rows 1 rows ≡ None

-- ---- the interlock

abbrev pub is_completed : Option Place → Bool
is_completed (Some place.Completed) = true
is_completed other = false

-- the line that has to be completed before, if a row has one, is at Completed
abbrev pub is_free : Option ℕ → List Place → Bool
is_free None places = true
is_free (Some line) places = is_completed (at_line places line)

-- a row may be released, by the places of the lines: one that is not there may not
abbrev pub may_release : Option StackRow → List Place → Bool
may_release None places = false
may_release (Some row) places = is_free row.after places
