-- The rows of the first of them were added.
use Rattle.std.proofs.Common.{take}
use Rattle.std.specs.List.{flat_map}
use Rattle.std.specs.String.{string_bytes}
use Rattle.tc_wall.specs.Parts.{Adds}
use Rattle.tc_wall.specs.Urgents.{urgent_parts}
use Rattle.tc_wall.proofs.urgent_rows.add_rows.Given as goal

abbrev pub invariant-loop-row : goal.invariant-loop-row
invariant-loop-row g l = Adds (flat_map urgent_parts (take l.row-index l.rows)) (string_bytes l.fn.page) (string_bytes l.page)
