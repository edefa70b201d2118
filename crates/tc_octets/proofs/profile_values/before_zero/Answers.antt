use Rattle.std.proofs.Common.{arith}
use Rattle.std.proofs.lemmas.Int.{ints}
use Rattle.tc_octets.proofs.NumberWords.{back_none, back_outside, back_some}
use Rattle.tc_octets.proofs.profile_values.before_zero.Goals as goal

pub returns-in_err-seconds : goal.returns-in_err-seconds
returns-in_err-seconds c = rw c.from_residual.ensures (back_none _ c.in_err-seconds.ensures)

pub returns-then-seconds-eq0 : goal.returns-then-seconds-eq0
returns-then-seconds-eq0 c = back_outside _ _ c.in_ok-seconds.ensures.found.0 c.in_ok-seconds.ensures.found.1 (λ more small. omega arith)

pub returns-then-seconds-gt-BEFORE : goal.returns-then-seconds-gt-BEFORE
returns-then-seconds-gt-BEFORE c = back_outside _ _ c.in_ok-seconds.ensures.found.0 c.in_ok-seconds.ensures.found.1 (λ more small. omega arith)

pub returns : goal.returns
returns c =
    back_some _ c.in_ok-seconds.seconds _ c.in_ok-seconds.ensures.found.0 (omega arith) (omega arith)
    (omega (arith, ints, c.from.ensures))
