-- Marks that are not set were put behind.
use Rattle.std.proofs.Common.{◌≡◌, ℕ, ◌≤◌, List, vec_len, vec_capacity}
use Rattle.tc_world.specs.Marks.{AreMarked}
use Rattle.tc_world.proofs.marks.reserve_marks.Given as goal

abbrev pub invariant-loop : goal.invariant-loop
invariant-loop g l =
    ((requests : List ℕ) → AreMarked requests l.fn.marks.items → AreMarked requests l.marks.items)
    × (vec_len l.marks ≡ l.counter)
    × (65536 ≤ vec_capacity l.marks)
