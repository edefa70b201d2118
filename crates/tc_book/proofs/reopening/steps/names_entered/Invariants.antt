use Rattle.std.proofs.Common.{◌<◌, ◌≤◌, take}
use Rattle.std.specs.Prelude.{IfSome}
use Rattle.std.specs.List.{AllByRecursion}
use Rattle.tc_types.specs.declared.tables.rows.ProcedureStep.{ProcedureStep}
use Rattle.tc_book.proofs.reopening.steps.names_entered.Given as goal

-- the steps so far do
abbrev pub invariant-loop-step : goal.invariant-loop-step
invariant-loop-step l = AllByRecursion (λ (s : ProcedureStep). IfSome s.request (λ n. (0 < n) × (n ≤ l.entered))) (take l.step-index l.steps)
