use Rattle.std.proofs.Common.{ℕ, ◌++◌, ◌≤◌, List, length, take}
use Rattle.std.specs.List.{flat_map}
use Rattle.tc_fop.specs.Moves.{transmitted_by}
use Rattle.tc_world.specs.Marks.{AreMarked}
use Rattle.tc_world.proofs.marks.mark_sent.Given as goal

abbrev pub invariant-loop-indication : goal.invariant-loop-indication
invariant-loop-indication g l =
    ((requests : List ℕ) → AreMarked requests l.fn.marks.items → AreMarked (requests ++ flat_map transmitted_by (take l.indication-index l.indications)) l.marks.items)
    × (65536 ≤ length l.marks.items)
