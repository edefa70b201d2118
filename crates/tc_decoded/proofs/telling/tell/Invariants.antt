-- What was added, and the lines of the rows that are left, are the lines of all.
use Rattle.std.proofs.Common.{◌≡◌, ◌++◌, drop}
use Rattle.tc_decoded.specs.Rows.{told}
use Rattle.tc_decoded.proofs.telling.tell.Given as goal

abbrev pub invariant-loop-row : goal.invariant-loop-row
invariant-loop-row g l =
    l.out.items ++ told l.place l.word l.octets (drop l.row-index l.rows) ≡ l.fn.out.items ++ told l.place l.word l.octets l.rows
