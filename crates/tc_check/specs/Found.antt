-- What was found where a rule is broken.
use Rattle.std.specs.Prelude.{ℕ, Option, Some, None, List, [], ◌++◌, codes, length, get_or}
use Rattle.std.specs.Fmt.{decimal}
use Rattle.tc_types.specs.declared.loads.LoadKind.{LoadKind}
use Rattle.tc_csv.specs.declared.columns.Column.{Column}
use Rattle.tc_csv.specs.declared.faults.Rule.{Rule}
use Rattle.tc_csv.specs.declared.faults.Rule.TheVariants as rule
use Rattle.tc_csv.specs.declared.faults.Fault.{Fault}
use Rattle.tc_csv.specs.Faults.{rule_column}
use Rattle.tc_check.specs.Headers.{header_found, other_found}
use Rattle.tc_check.specs.Rows.{value_in}
use Rattle.tc_check.specs.Shown.{quoted}

-- the value of a field
abbrev pub found_field : Column → List (List ℕ) → List ℕ
found_field column fields = codes ": " ++ quoted (value_in column fields)

abbrev pub found_in : Option Column → List (List ℕ) → List ℕ
found_in None fields = []
found_in (Some column) fields = found_field column fields

-- where a text with these records breaks a rule at a row with these fields
abbrev pub found_by : LoadKind → List ℕ → List (List (List ℕ)) → List (List ℕ) → Rule → List ℕ
found_by of text records fields rule.TextLength = other_found text records
found_by of text records fields rule.RowCount = other_found text records
found_by of text records fields rule.Header = codes ": " ++ header_found of text records
found_by of text records fields rule.SomeRow = codes ": nothing but a header"
found_by of text records fields rule.FieldCount = codes ": " ++ decimal (length fields)
found_by of text records fields other = found_in (rule_column other) fields

abbrev pub found : LoadKind → List ℕ → List (List (List ℕ)) → Fault → List ℕ
found of text records fault = found_by of text records (get_or records fault.row []) fault.rule
