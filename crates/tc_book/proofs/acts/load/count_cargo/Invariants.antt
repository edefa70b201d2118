use Rattle.std.proofs.Common.{◌≡◌, ◌*◌, ◌≤◌, length, take}
use Rattle.std.specs.List.{sum_by}
use Rattle.tc_stack.specs.declared.stacks.StackRow.{StackRow}
use Rattle.tc_book.specs.Cargoes.{behind_first}
use Rattle.tc_book.proofs.acts.load.count_cargo.Given as goal

-- those so far
abbrev pub invariant-loop-row : goal.invariant-loop-row
invariant-loop-row l =
    (l.count ≡ sum_by (λ (row : StackRow). length (behind_first row.entry.command)) (take l.row-index l.rows))
    × (l.count ≤ 7 * l.row-index)
