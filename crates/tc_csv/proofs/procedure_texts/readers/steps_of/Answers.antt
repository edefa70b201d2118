use Rattle.std.proofs.Common.{arith, ◌≡◌, rules, Err}
use Rattle.tc_csv.proofs.ProcedureRowLemmas.{row_more, row_judged}
use Rattle.tc_csv.proofs.procedure_texts.readers.steps_of.Goals as goal

pub returns-in_err-step : goal.returns-in_err-step
returns-in_err-step c =
    let gone : c.from_residual.result ≡ Err c.in_err-step.field-0.0 = grind arith in
    rw gone (row_judged c.args.rows.now c.loop-index.index c.index-rows-index.result c.loop-index.steps.items c.in_err-step.field-0.0 (search rules) c.index-rows-index.is c.loop-index.invariant c.in_err-step.ensures)

pub loop-index-preserved : goal.loop-index-preserved
loop-index-preserved c =
    rw c.in_ok-push.ensures.items (row_more c.args.rows.now c.loop-index.index c.index-rows-index.result c.loop-index.steps.items c.in_ok-step.step (search rules) c.index-rows-index.is c.loop-index.invariant c.in_ok-step.ensures)
