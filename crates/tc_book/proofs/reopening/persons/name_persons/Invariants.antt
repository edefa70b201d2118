use Rattle.std.proofs.Common.{take}
use Rattle.std.specs.List.{AllByRecursion}
use Rattle.tc_book.proofs.reopening.persons.name_persons.Given as goal

-- the rows so far name persons
abbrev pub invariant-loop-row : goal.invariant-loop-row
invariant-loop-row g l = AllByRecursion g.T.Naming.names (take l.row-index l.rows)
