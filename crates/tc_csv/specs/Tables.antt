-- A text of comma-separated values as its records (RFC 4180, as the crate csv reads it), and the rules of each table.
use Rattle.std.specs.Prelude.{◌≡◌, ⊤, ℕ, ◌+◌, ◌<◌, ◌≤◌, Option, Some, None, List, [], ◌∷◌, length, map, codes}
use Rattle.std.specs.Fmt.{decimal}
use Rattle.csv.specs.Reading.{default_config, strip_bom, records}
use Rattle.tc_csv.specs.declared.columns.Column.{Column}
use Rattle.tc_csv.specs.declared.columns.Column.TheVariants as column
use Rattle.tc_csv.specs.declared.faults.Rule.{Rule}
use Rattle.tc_csv.specs.declared.faults.Rule.TheVariants as rule
use Rattle.tc_csv.specs.declared.faults.Fault.{Fault}
use Rattle.tc_csv.specs.Faults.{KeepsAll, FirstBroken}

-- The records of a text, each as its fields. One byte order mark at the very front is none of its bytes.
abbrev pub records_of : List ℕ → List (List (List ℕ))
records_of text = records default_config (strip_bom text)

-- how a column is named in a header
abbrev pub column_name : Column → List ℕ
column_name column.Line = codes "line"
column_name column.Apid = codes "apid"
column_name column.Service = codes "service"
column_name column.Subtype = codes "subtype"
column_name column.Target = codes "target"
column_name column.Time = codes "time"
column_name column.Ack = codes "ack"
column_name column.Critical = codes "critical"
column_name column.After = codes "after"
column_name column.Outcome = codes "outcome"
column_name column.Step = codes "step"
column_name column.Text = codes "text"
column_name column.Second = codes "second"
column_name column.Request = codes "request"

-- a number that is named, or an empty field
abbrev pub number_field : Option ℕ → List ℕ
number_field None = []
number_field (Some number) = decimal number

-- the header of a table: the names of its columns, in order
abbrev pub header : List Column → List (List ℕ)
header columns = map column_name columns

-- the first record is this header
abbrev pub HasHeader : List (List ℕ) → List (List (List ℕ)) → Type 0
HasHeader names [] = ⊥
HasHeader names (first ∷ rows) = first ≡ names

-- The rules of a text as a table, in order: that it is too long is told before anything else.
abbrev pub table_rules : List Rule
table_rules = rule.TextLength ∷ rule.RowCount ∷ rule.Header ∷ rule.SomeRow ∷ []

-- a text keeps a rule of a table with these columns and at most so many rows; the other rules are not of the whole text
abbrev pub KeepsTable : List Column → ℕ → List ℕ → Rule → Type 0
KeepsTable columns most_rows text rule.TextLength = length text ≤ 65536
KeepsTable columns most_rows text rule.RowCount = length (records_of text) ≤ most_rows + 1
KeepsTable columns most_rows text rule.Header = HasHeader (header columns) (records_of text)
KeepsTable columns most_rows text rule.SomeRow = 1 < length (records_of text)
KeepsTable columns most_rows text other = ⊤

-- the first rule of a table that a text breaks, if it breaks one
abbrev pub Breaks : List Column → ℕ → List ℕ → Option Rule → Type 0
Breaks columns most_rows text None = KeepsAll (KeepsTable columns most_rows text) table_rules
Breaks columns most_rows text (Some broken) = FirstBroken (KeepsTable columns most_rows text) table_rules broken

-- the record at which such a rule is broken: the first that is too many, the first row, or the header
abbrev pub broken_at : ℕ → Rule → ℕ
broken_at most_rows rule.RowCount = most_rows + 1
broken_at most_rows rule.SomeRow = 1
broken_at most_rows other = 0

-- the first rule of a table that a text breaks
pub record IsTableFault (columns : List Column) (most_rows : ℕ) (text : List ℕ) (fault : Fault) : Type 0 where
  pub broken : FirstBroken (KeepsTable columns most_rows text) table_rules fault.rule
  pub row : fault.row ≡ broken_at most_rows fault.rule

-- the records of a text that keeps all rules of a table
pub record IsTable (columns : List Column) (most_rows : ℕ) (text : List ℕ) (given : List (List (List ℕ))) : Type 0 where
  pub are : given ≡ records_of text
  pub kept : KeepsAll (KeepsTable columns most_rows text) table_rules
