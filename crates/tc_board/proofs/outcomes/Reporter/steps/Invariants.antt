-- The steps before this one are told.
use Rattle.std.proofs.Common.{◌≡◌, ◌≤◌, ◌+◌, ◌++◌, ◌-◌, map, vec_len}
use Rattle.tc_board.specs.Reports.{tells, steps_from}
use Rattle.tc_board.proofs.outcomes.Reporter.steps.Given as goal

abbrev pub invariant-loop-step : goal.invariant-loop-step
invariant-loop-step g l = (l.reports.items ≡ l.fn.reports.items ++ map (tells l.self) (steps_from 1 (l.step - 1))) × (vec_len l.reports ≤ vec_len l.fn.reports + (l.step - 1))
