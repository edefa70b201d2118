-- Some lines were added; those of the marks that are left make the whole.
use Rattle.std.proofs.Common.{◌≡◌, ◌++◌, length, reverse}
use Rattle.tc_wall.specs.Axis.{lines_before}
use Rattle.tc_wall.proofs.lines.add_lines.Given as goal

abbrev pub invariant-loop-mark : goal.invariant-loop-mark
invariant-loop-mark g l = l.lines.items ++ lines_before l.x (reverse l.rest) ≡ l.fn.lines.items ++ lines_before l.fn.x (reverse l.fn.marks)

abbrev pub decreases-loop-mark : goal.decreases-loop-mark
decreases-loop-mark g l = length l.rest
