-- The rows of the first of them were added.
use Rattle.std.proofs.Common.{take}
use Rattle.std.specs.List.{flat_map}
use Rattle.std.specs.String.{string_bytes}
use Rattle.tc_wall.specs.Parts.{Adds}
use Rattle.tc_wall.specs.ScheduleParts.{activity_parts}
use Rattle.tc_wall.proofs.schedules.add_activities.Given as goal

abbrev pub invariant-loop-it : goal.invariant-loop-it
invariant-loop-it g l = Adds (flat_map activity_parts (take l.it-index l.activities)) (string_bytes l.fn.page) (string_bytes l.page)
