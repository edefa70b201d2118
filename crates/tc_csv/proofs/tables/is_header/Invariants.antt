use Rattle.std.proofs.Common.{◌≡◌, map, take}
use Rattle.csv.specs.Records.{fields_of}
use Rattle.tc_csv.specs.Tables.{column_name}
use Rattle.tc_csv.proofs.tables.is_header.Given as goal

-- so far each field is the name of its column
abbrev pub invariant-loop-place : goal.invariant-loop-place
invariant-loop-place l = take l.place (fields_of l.fn.fields) ≡ map column_name (take l.place l.fn.columns)
