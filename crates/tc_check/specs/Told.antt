-- A fault of a text, as a line: where, why, and what was found there.
use Rattle.std.specs.Prelude.{ℕ, ◌+◌, ◌==◌, Bool, ◌&&◌, if◌then◌else◌, List, [], ◌++◌, codes, get_or, length}
use Rattle.tc_types.specs.declared.loads.LoadKind.{LoadKind}
use Rattle.tc_csv.specs.declared.faults.Fault.{Fault}
use Rattle.tc_csv.specs.declared.faults.Rule.{Rule}
use Rattle.tc_csv.specs.Faults.{rule_column}
use Rattle.tc_csv.specs.Tables.{records_of}
use Rattle.tc_check.specs.FileLines.{ends_quoted, record_lines}
use Rattle.tc_check.specs.Found.{found}
use Rattle.tc_check.specs.Places.{in_field, place}
use Rattle.tc_check.specs.Rows.{has_time_each, sort_of_row}
use Rattle.tc_check.specs.Words.{why}

-- a quote that stays open makes the last record of what is left of the file
abbrev pub has_open_quote : List ℕ → ℕ → Bool
has_open_quote text row = ends_quoted text && (row + 1 == length (records_of text))

abbrev pub open_quote : Bool → List ℕ
open_quote is_open = if is_open then codes ", and a quote stays open to the end of the file" else []

-- why a row with these fields breaks a rule
abbrev pub why_row : LoadKind → List (List ℕ) → Rule → List ℕ
why_row of fields rule = why of (sort_of_row fields) (has_time_each fields) rule

abbrev pub fault_line : LoadKind → List ℕ → Fault → List ℕ
fault_line of text fault =
    place of (record_lines text) fault ++ in_field (rule_column fault.rule) ++ codes ": " ++ why_row of (get_or (records_of text) fault.row []) fault.rule
    ++ found of text (records_of text) fault ++ open_quote (has_open_quote text fault.row)
