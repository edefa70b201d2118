use Rattle.std.proofs.Common.{◌≡◌, ◌≤◌, length, vec_capacity}
use Rattle.tc_book.specs.Known.{AreKnown}
use Rattle.tc_book.proofs.CargoLemmas.{AreRead}
use Rattle.tc_book.proofs.reopening.known.push_all.Given as goal

-- the requests so far were read of the rows so far, and may follow one another
abbrev pub invariant-loop-row : goal.invariant-loop-row
invariant-loop-row g l =
    AreRead l.rows l.cargo l.row-index l.requests.items l.rest
    × AreKnown l.requests.items l.counts.items l.stacks.items
    × (vec_capacity l.fn.requests ≤ vec_capacity l.requests)
    × (vec_capacity l.fn.stacks ≤ vec_capacity l.stacks)
    × (length l.counts.items ≡ length l.fn.counts.items)
    × (length l.requests.items ≡ l.row-index)
