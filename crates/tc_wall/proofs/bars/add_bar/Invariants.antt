-- Who adds the stages that are left has added them all.
use Rattle.std.proofs.Common.{ℕ, List, length}
use Rattle.std.specs.String.{string_bytes}
use Rattle.tc_wall.specs.Parts.{Adds}
use Rattle.tc_wall.specs.Bars.{bar_parts}
use Rattle.tc_wall.proofs.bars.add_bar.Given as goal

abbrev pub invariant-loop-row : goal.invariant-loop-row
invariant-loop-row g l = (new : List ℕ) → Adds (bar_parts l.axis l.begin l.rest) (string_bytes l.page) new → Adds (bar_parts l.axis 0 l.fn.moves) (string_bytes l.fn.page) new

abbrev pub decreases-loop-row : goal.decreases-loop-row
decreases-loop-row g l = length l.rest
