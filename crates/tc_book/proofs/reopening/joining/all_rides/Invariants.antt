use Rattle.std.proofs.Common.{◌≡◌, ◌+◌, ◌∷◌, length, take}
use Rattle.tc_book.specs.Joining.{rides_in}
use Rattle.tc_book.proofs.reopening.joining.all_rides.Given as goal

-- the first, and the activities of the rows so far
abbrev pub invariant-loop-at : goal.invariant-loop-at
invariant-loop-at l = (take (l.at + 1) l.places ≡ l.fn.first ∷ rides_in (take l.at l.own)) × (length l.places ≡ 8)
