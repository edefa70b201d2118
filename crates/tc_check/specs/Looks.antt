-- What a text is that begins with no header.
use Rattle.std.specs.Prelude.{ℕ, ◌==◌, Bool, true, false, ◌&&◌, ◌||◌, if◌then◌else◌, Option, Some, None, List, [], ◌∷◌, length, get_or, slice_get}
use Rattle.std.specs.List.{list_any}
use Rattle.tc_check.specs.declared.looks.Look.{Look}
use Rattle.tc_check.specs.declared.looks.Look.TheVariants as look

abbrev pub is_byte : Option ℕ → ℕ → Bool
is_byte None byte = false
is_byte (Some other) byte = other == byte

-- this byte stands at a place
abbrev pub has_byte : List ℕ → ℕ → ℕ → Bool
has_byte text place byte = is_byte (slice_get text place) byte

-- the mark of UTF-8 stands in front
abbrev pub has_mark : List ℕ → Bool
has_mark text = (has_byte text 0 239 && has_byte text 1 187) && has_byte text 2 191

-- its mark stands in front, or every second of the first four bytes is 0
abbrev pub is_utf16 : List ℕ → Bool
is_utf16 text =
    ((has_byte text 0 255 && has_byte text 1 254) || (has_byte text 0 254 && has_byte text 1 255))
    || ((has_byte text 0 0 && has_byte text 2 0) || (has_byte text 1 0 && has_byte text 3 0))

-- an archive, as .xlsx and .ods are: PK and two numbers
abbrev pub is_workbook : List ℕ → Bool
is_workbook text = ((has_byte text 0 80 && has_byte text 1 75) && has_byte text 2 3) && has_byte text 3 4

abbrev pub has_in : List ℕ → ℕ → Bool
has_in field byte = list_any (λ other. other == byte) field

-- a record is one field, in which this byte stands
abbrev pub is_one_field_with : ℕ → List (List ℕ) → Bool
is_one_field_with byte fields = (length fields == 1) && has_in (get_or fields 0 []) byte

abbrev pub is_empty : List (List (List ℕ)) → Bool
is_empty [] = true
is_empty (first ∷ records) = false

-- what a text with these records looks like: the first that it is
abbrev pub look_of : List ℕ → List (List (List ℕ)) → Look
look_of text records =
    if is_utf16 text then look.Utf16
    else if is_workbook text then look.Workbook
    else if is_empty records then look.Empty
    else if is_one_field_with 59 (get_or records 0 []) then look.Semicolons
    else if is_one_field_with 9 (get_or records 0 []) then look.Tabs
    else look.Columns
