-- The first of them were added.
use Rattle.std.proofs.Common.{take}
use Rattle.std.specs.List.{flat_map}
use Rattle.std.specs.String.{string_bytes}
use Rattle.tc_wall.specs.Parts.{Adds}
use Rattle.tc_wall.specs.Tiles.{next_parts}
use Rattle.tc_wall.proofs.tiles.add_next_counts.Given as goal

abbrev pub invariant-loop-place : goal.invariant-loop-place
invariant-loop-place g l = Adds (flat_map (next_parts l.counts) (take l.place-index l.places)) (string_bytes l.fn.page) (string_bytes l.page)
