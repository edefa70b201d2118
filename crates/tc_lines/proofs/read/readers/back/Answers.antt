use Rattle.std.proofs.Common.{arith}
use Rattle.std.proofs.lemmas.Int.{ints}
use Rattle.tc_types.proofs.NumberLaws.{back_none, back_zero, back_some}
use Rattle.tc_lines.proofs.read.readers.back.Goals as goal

pub returns-in_err-seconds : goal.returns-in_err-seconds
returns-in_err-seconds c = rw c.from_residual.ensures (back_none _ c.in_err-seconds.ensures)

pub returns-then-seconds-eq0 : goal.returns-then-seconds-eq0
returns-then-seconds-eq0 c = back_zero _ (rw c.if-seconds-eq0.true at c.in_ok-seconds.ensures.found.0)

pub returns : goal.returns
returns c =
    back_some _ c.in_ok-seconds.seconds _ _ c.in_ok-seconds.ensures.found.0 (omega arith) c.in_ok-seconds.ensures.found.1
    (omega (arith, ints, c.from.ensures)) c.new.ensures
