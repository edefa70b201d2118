-- One step more.
use Rattle.std.proofs.Common.{◌∙◌, ◌++◌, ◌∷◌, [], ap, arith}
use Rattle.tc_board.specs.Reports.{tells}
use Rattle.tc_board.proofs.StepLemmas.{step_more}
use Rattle.tc_board.proofs.outcomes.Reporter.steps.Goals as goal

pub loop-step-preserved : goal.loop-step-preserved
loop-step-preserved g c = (
  step_more (tells c.args.self.now) c.args.reports.now.items c.loop-step.reports.items c.push.new.self.items c.loop-step.step c.loop-step.auto.step c.loop-step.invariant.0
      (c.in_ok-push.ensures.items ∙ ap (λ r. c.loop-step.reports.items ++ r ∷ []) c.tells.ensures),
  (let most = c.loop-step.invariant.1 in let low = c.loop-step.auto.step in let one = c.push.ensures.upper_bound in omega (arith, most, low, one)),
)
