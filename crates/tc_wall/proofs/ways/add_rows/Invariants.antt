-- The rows of the first of them were added.
use Rattle.std.proofs.Common.{take}
use Rattle.std.specs.List.{flat_map}
use Rattle.std.specs.String.{string_bytes}
use Rattle.tc_wall.specs.Parts.{Adds}
use Rattle.tc_wall.specs.WayParts.{way_parts}
use Rattle.tc_wall.proofs.ways.add_rows.Given as goal

abbrev pub invariant-loop-way : goal.invariant-loop-way
invariant-loop-way g l = Adds (flat_map (way_parts l.axis) (take l.way-index l.ways)) (string_bytes l.fn.page) (string_bytes l.page)
