-- Where a text is wrong.
use Rattle.std.specs.Prelude.{ℕ, ◌+◌, ◌==◌, if◌then◌else◌, Option, Some, None, List, [], ◌++◌, codes, get_or}
use Rattle.std.specs.Fmt.{decimal}
use Rattle.tc_types.specs.declared.loads.LoadKind.{LoadKind}
use Rattle.tc_types.specs.declared.loads.LoadKind.TheVariants as kind
use Rattle.tc_csv.specs.declared.columns.Column.{Column}
use Rattle.tc_csv.specs.declared.faults.Rule.{Rule}
use Rattle.tc_csv.specs.declared.faults.Rule.TheVariants as rule
use Rattle.tc_csv.specs.declared.faults.Fault.{Fault}
use Rattle.tc_csv.specs.Tables.{column_name}

-- what a row is called: it has its number in its first field
abbrev pub row_name : LoadKind → List ℕ
row_name kind.Stack = codes "line "
row_name kind.Procedure = codes "step "

-- above the rows there are the text as a whole and the header
abbrev pub above_rows : Rule → List ℕ
above_rows rule.TextLength = codes "file"
above_rows _ = codes "header"

-- the line of the file, where it is another than the one that the rows' numbers make expect: row 1 stands on line 2
abbrev pub on_line : ℕ → ℕ → List ℕ
on_line row line = if line == row + 1 then [] else codes " (line " ++ decimal line ++ codes " of the file)"

-- a row, whose record begins on one of these lines of the file
abbrev pub row_place : LoadKind → List ℕ → ℕ → List ℕ
row_place of lines row = row_name of ++ decimal row ++ on_line row (get_or lines row (row + 1))

-- the record of a fault
abbrev pub place : LoadKind → List ℕ → Fault → List ℕ
place of lines fault = if fault.row == 0 then above_rows fault.rule else row_place of lines fault.row

-- the field, where the rule is one of a field
abbrev pub in_field : Option Column → List ℕ
in_field None = []
in_field (Some column) = codes ", field " ++ column_name column
