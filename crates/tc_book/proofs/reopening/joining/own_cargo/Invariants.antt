use Rattle.tc_book.proofs.CargoLemmas.{IsFront}
use Rattle.tc_book.proofs.reopening.joining.own_cargo.Given as goal

-- the rows so far are in front
abbrev pub invariant-loop-at : goal.invariant-loop-at
invariant-loop-at l = IsFront l.number l.cargo l.at
