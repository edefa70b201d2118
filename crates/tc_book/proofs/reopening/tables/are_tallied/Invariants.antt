use Rattle.std.proofs.Common.{◌≡◌, take}
use Rattle.tc_book.specs.Batch.{tallies_of}
use Rattle.tc_book.proofs.reopening.tables.are_tallied.Given as goal

-- those so far are
abbrev pub invariant-loop-at : goal.invariant-loop-at
invariant-loop-at l = take l.at l.tallies ≡ take l.at (tallies_of l.amounts)
