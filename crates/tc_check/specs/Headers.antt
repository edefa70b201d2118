-- What stands where a header should.
use Rattle.std.specs.Prelude.{ℕ, ◌+◌, nat_eq, Bool, if◌then◌else◌, List, [], ◌∷◌, ◌++◌, codes, get_or}
use Rattle.std.specs.Fmt.{decimal}
use Rattle.std.specs.Cmp.Lexicographic.{pointwise}
use Rattle.tc_types.specs.declared.loads.LoadKind.{LoadKind}
use Rattle.tc_types.specs.declared.loads.LoadKind.TheVariants as kind
use Rattle.tc_csv.specs.declared.columns.Column.{Column}
use Rattle.tc_csv.specs.Tables.{column_name}
use Rattle.tc_csv.specs.StackTexts.{stack_columns}
use Rattle.tc_csv.specs.ProcedureTexts.{procedure_columns}
use Rattle.tc_check.specs.declared.looks.Look.{Look}
use Rattle.tc_check.specs.declared.looks.Look.TheVariants as look
use Rattle.tc_check.specs.Looks.{look_of}
use Rattle.tc_check.specs.Shown.{quoted}

abbrev pub columns_of : LoadKind → List Column
columns_of kind.Stack = stack_columns
columns_of kind.Procedure = procedure_columns

-- ---- a column that is not the wanted one

abbrev pub column_place : ℕ → List ℕ
column_place number = codes "column " ++ decimal number

abbrev pub other_column : ℕ → Column → List ℕ → List ℕ
other_column number column field = column_place number ++ codes " is not " ++ column_name column ++ codes ": " ++ quoted field

abbrev pub missing_column : ℕ → Column → List ℕ
missing_column number column = column_place number ++ codes " is missing: " ++ column_name column

abbrev pub extra_column : ℕ → List ℕ → List ℕ
extra_column number field = column_place number ++ codes " is one too many: " ++ quoted field

abbrev pub is_named : List ℕ → Column → Bool
is_named field column = pointwise nat_eq field (column_name column)

-- the first of them, of columns from this number on
abbrev pub columns_found : ℕ → List Column → List (List ℕ) → List ℕ
columns_found number [] [] = []
columns_found number [] (field ∷ fields) = extra_column number field
columns_found number (column ∷ columns) [] = missing_column number column
columns_found number (column ∷ columns) (field ∷ fields) =
    if is_named field column then columns_found (number + 1) columns fields else other_column number column field

abbrev pub first_found : LoadKind → List (List ℕ) → List ℕ
first_found of fields = columns_found 1 (columns_of of) fields

-- ---- the text as a whole

abbrev pub look_text : LoadKind → List (List (List ℕ)) → Look → List ℕ
look_text of records look.Utf16 = codes "the file is UTF-16, and not UTF-8"
look_text of records look.Workbook = codes "the file is a workbook, and no text"
look_text of records look.Empty = codes "the file is empty"
look_text of records look.Semicolons = codes "semicolons stand where commas should"
look_text of records look.Tabs = codes "TABs stand where commas should"
look_text of records look.Columns = first_found of (get_or records 0 [])

-- a text that begins with no header
abbrev pub header_found : LoadKind → List ℕ → List (List (List ℕ)) → List ℕ
header_found of text records = look_text of records (look_of text records)

-- one that is too long: where it is text, there is no more to tell
abbrev pub other_text : Look → List ℕ
other_text look.Utf16 = codes ": the file is UTF-16, and not UTF-8"
other_text look.Workbook = codes ": the file is a workbook, and no text"
other_text _ = []

abbrev pub other_found : List ℕ → List (List (List ℕ)) → List ℕ
other_found text records = other_text (look_of text records)
