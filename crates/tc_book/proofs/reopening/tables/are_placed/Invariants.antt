use Rattle.std.proofs.Common.{List, take}
use Rattle.std.specs.List.{AllByRecursion}
use Rattle.tc_types.specs.declared.tables.cargo.Cargo.{Cargo}
use Rattle.tc_book.specs.Known.{IsPlaced}
use Rattle.tc_book.proofs.reopening.tables.are_placed.Given as goal

-- the rows so far do
abbrev pub invariant-loop-row : goal.invariant-loop-row
invariant-loop-row g l = (cargo : List Cargo) → AllByRecursion (IsPlaced l.history.rows cargo) (take l.row-index l.rows)
