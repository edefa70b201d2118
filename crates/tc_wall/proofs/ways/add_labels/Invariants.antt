-- The rows of the first of them were added.
use Rattle.std.proofs.Common.{take}
use Rattle.std.specs.List.{flat_map}
use Rattle.std.specs.String.{string_bytes}
use Rattle.tc_wall.specs.Parts.{Adds}
use Rattle.tc_wall.specs.WayParts.{label_parts}
use Rattle.tc_wall.proofs.ways.add_labels.Given as goal

abbrev pub invariant-loop-line : goal.invariant-loop-line
invariant-loop-line g l = Adds (flat_map label_parts (take l.line-index l.lines)) (string_bytes l.fn.page) (string_bytes l.page)
