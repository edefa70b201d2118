-- Counts of 0 were put behind.
use Rattle.std.proofs.Common.{◌≡◌, ◌≤◌, List, length, vec_len, vec_capacity}
use Rattle.tc_types.specs.declared.requests.Request.{Request}
use Rattle.tc_book.specs.Places.{AreCounted}
use Rattle.tc_book.proofs.counts.reserve_counts.Given as goal

abbrev pub invariant-loop : goal.invariant-loop
invariant-loop g l =
    ((requests : List Request) → AreCounted requests l.fn.counts.items → AreCounted requests l.counts.items)
    × (vec_len l.counts ≡ l.counter)
    × (2048 ≤ vec_capacity l.counts)
    × (length l.fn.counts.items ≤ length l.counts.items)
