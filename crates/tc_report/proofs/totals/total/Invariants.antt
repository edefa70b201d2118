use Rattle.std.proofs.Common.{◌≡◌, ◌+◌, drop}
use Rattle.std.specs.Prelude.{sum}
use Rattle.tc_report.proofs.totals.total.Given as goal

-- What was added so far, and those that are left, are all of them.
abbrev pub invariant-loop-amount : goal.invariant-loop-amount
invariant-loop-amount l = l.all + sum (drop l.amount-index l.places) ≡ sum l.places
