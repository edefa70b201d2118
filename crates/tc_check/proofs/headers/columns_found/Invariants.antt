use Rattle.std.proofs.Common.{◌≡◌, ◌+◌, drop}
use Rattle.csv.specs.Records.{fields_of}
use Rattle.tc_check.specs.Headers.{columns_found}
use Rattle.tc_check.proofs.headers.columns_found.Given as goal

-- the columns so far are as wanted
abbrev pub invariant-loop-place : goal.invariant-loop-place
invariant-loop-place l = columns_found 1 l.fn.columns (fields_of l.fn.fields) ≡ columns_found (l.place + 1) (drop l.place l.fn.columns) (drop l.place (fields_of l.fn.fields))
