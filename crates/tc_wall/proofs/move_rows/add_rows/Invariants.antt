-- Who adds the rows of those that are left has added them all.
use Rattle.std.proofs.Common.{ℕ, List, length, reverse}
use Rattle.std.specs.List.{flat_map}
use Rattle.std.specs.String.{string_bytes}
use Rattle.tc_wall.specs.Parts.{Adds}
use Rattle.tc_wall.specs.MoveParts.{move_parts}
use Rattle.tc_wall.proofs.move_rows.add_rows.Given as goal

abbrev pub invariant-loop-row : goal.invariant-loop-row
invariant-loop-row g l = (new : List ℕ) → Adds (flat_map move_parts (reverse l.rest)) (string_bytes l.page) new → Adds (flat_map move_parts (reverse l.fn.rows)) (string_bytes l.fn.page) new

abbrev pub decreases-loop-row : goal.decreases-loop-row
decreases-loop-row g l = length l.rest
