-- One step more, or one that does not.
use Rattle.std.proofs.Common.{◌<◌, ◌≤◌, ◌∙◌, sym}
use Rattle.std.specs.Prelude.{IfSome}
use Rattle.tc_types.specs.declared.tables.rows.ProcedureStep.{ProcedureStep}
use Rattle.tc_book.proofs.ReopenLemmas.{all_more, all_at}
use Rattle.tc_book.proofs.reopening.steps.names_entered.Goals as goal

pub returns-then-not-names_one : goal.returns-then-not-names_one
returns-then-not-names_one c = (
  λ never. cc,
  λ all. sym c.if-not-names_one.true ∙ c.names_one.ensures.1 (all_at (λ (s : ProcedureStep). IfSome s.request (λ n. (0 < n) × (n ≤ c.args.entered))) c.args.steps.now c.loop-step.step-index c.step-item.result c.loop-step-test.true c.step-item.is all),
)

pub loop-step-preserved : goal.loop-step-preserved
loop-step-preserved c =
    all_more (λ (s : ProcedureStep). IfSome s.request (λ n. (0 < n) × (n ≤ c.args.entered))) c.args.steps.now c.loop-step.step-index c.step-item.result c.loop-step-test.true c.step-item.is c.loop-step.invariant
    (c.names_one.ensures.0 c.if-not-names_one.false)
