-- What is told of rows that keep all rules.
use Rattle.std.specs.Prelude.{ℕ, ◌+◌, ◌==◌, nat_eq, Bool, false, ◌&&◌, ◌||◌, if◌then◌else◌, Option, Some, None, List, [], ◌∷◌, ◌++◌, codes, drop, get_or}
use Rattle.std.specs.List.{list_any, position}
use Rattle.std.specs.Cmp.Lexicographic.{pointwise}
use Rattle.tc_types.specs.declared.loads.LoadKind.{LoadKind}
use Rattle.tc_types.specs.declared.loads.LoadKind.TheVariants as kind
use Rattle.tc_types.specs.Words.{words}
use Rattle.tc_csv.specs.Tables.{records_of}
use Rattle.tc_check.specs.FileLines.{record_lines}
use Rattle.tc_check.specs.Looks.{has_byte}
use Rattle.tc_check.specs.Places.{row_place}
use Rattle.tc_check.specs.Shown.{quoted}

-- what parts the date of an instant from its time: T, t or a space
abbrev pub parts_time : ℕ → Bool
parts_time byte = byte == 84 || byte == 116 || byte == 32

-- the seconds of a time are 60: with colons, as 23:59:60, or without, as 235960
abbrev pub is_60 : List ℕ → Bool
is_60 time = if has_byte time 2 58 then has_byte time 6 54 && has_byte time 7 48 else has_byte time 4 54 && has_byte time 5 48

abbrev pub is_60_behind : Option ℕ → List ℕ → Bool
is_60_behind None instant = false
is_60_behind (Some place) instant = is_60 (drop (place + 1) instant)

-- second 60 is written in an instant: it is read as 59
abbrev pub writes_60 : List ℕ → Bool
writes_60 instant = is_60_behind (position parts_time instant) instant

-- what is told of a row, behind its place; nothing of most rows
abbrev pub stack_note : List ℕ → List ℕ
stack_note time = if list_any writes_60 (words 59 time) then codes ", field time: second 60 is read as 59: " ++ quoted time else []

abbrev pub procedure_note : List ℕ → List ℕ
procedure_note request = if pointwise nat_eq request (codes "0") then codes ", field request: no request has number 0: " ++ quoted request else []

abbrev pub note_of : LoadKind → List (List ℕ) → List ℕ
note_of kind.Stack fields = stack_note (get_or fields 5 [])
note_of kind.Procedure fields = procedure_note (get_or fields 3 [])

abbrev pub note_lines : List ℕ → List ℕ → List (List ℕ)
note_lines place [] = []
note_lines place (byte ∷ bytes) = (place ++ byte ∷ bytes) ∷ []

-- of the rows from this number on, whose records begin on these lines
abbrev pub notes_from : LoadKind → List ℕ → ℕ → List (List (List ℕ)) → List (List ℕ)
notes_from of lines row [] = []
notes_from of lines row (fields ∷ rows) = note_lines (row_place of lines row) (note_of of fields) ++ notes_from of lines (row + 1) rows

abbrev pub notes_of : LoadKind → List ℕ → List (List ℕ)
notes_of of text = notes_from of (record_lines text) 1 (drop 1 (records_of text))
