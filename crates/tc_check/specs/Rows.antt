-- What stands in the fields of a row.
use Rattle.std.specs.Prelude.{ℕ, ◌==◌, Bool, List, [], count_by, get_or}
use Rattle.tc_csv.specs.declared.columns.Column.{Column}
use Rattle.tc_csv.specs.declared.columns.Column.TheVariants as column
use Rattle.tc_script.specs.declared.sorts.Sort.{Sort}
use Rattle.tc_script.specs.Sorts.{is_scheduling, sort_of}

-- the place of a column among those of its table
abbrev pub column_place : Column → ℕ
column_place column.Line = 0
column_place column.Apid = 1
column_place column.Service = 2
column_place column.Subtype = 3
column_place column.Target = 4
column_place column.Time = 5
column_place column.Ack = 6
column_place column.Critical = 7
column_place column.After = 8
column_place column.Outcome = 9
column_place column.Step = 0
column_place column.Text = 1
column_place column.Second = 2
column_place column.Request = 3

-- what stands in a column of a row
abbrev pub value_in : Column → List (List ℕ) → List ℕ
value_in of fields = get_or fields (column_place of) []

-- what a row of a stack commands, by its service and its subtype
abbrev pub sort_of_row : List (List ℕ) → Sort
sort_of_row fields = sort_of (is_scheduling (get_or fields 2 [])) (get_or fields 3 [])

-- how often ; stands in a field
abbrev pub semicolons : List ℕ → ℕ
semicolons field = count_by (λ byte. byte == 59) field

-- a row has as many times as targets, both parted by ;
abbrev pub has_time_each : List (List ℕ) → Bool
has_time_each fields = semicolons (get_or fields 5 []) == semicolons (get_or fields 4 [])
