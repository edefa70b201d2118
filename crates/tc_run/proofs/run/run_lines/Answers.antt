use Rattle.std.proofs.Common.{rules, ◌≡◌, Err}
use Rattle.tc_check.specs.Scripts.{script_lines}
use Rattle.tc_closed.proofs.EndsLemmas.{ends_by, ends_well, is_fault}
use Rattle.tc_run.proofs.RunLemmas.{has_run-start, has_run-step, has_run-end}
use Rattle.tc_run.proofs.StopLemmas.{stopped_in_line}
use Rattle.tc_run.proofs.run.run_lines.Goals as goal

pub loop-line-init : goal.loop-line-init
loop-line-init g c =
    let all : c.into_iter-line-iterator.result ≡ script_lines c.args.text.now = search rules in
    record { run = has_run-start g.S.Store _ _ _ _ _ _ all; counts = λ none. none }

pub returns : goal.returns
returns g c = ends_well _ _ _ _ _ (has_run-end g.S.Store _ _ _ _ _ _ _ _ _ _ c.loop-line.invariant.run c.in-None.ensures.steps.0) c.loop-line.invariant.counts

pub loop-line-preserved : goal.loop-line-preserved
loop-line-preserved g c = record {
  run = has_run-step g.S.Store _ _ _ _ _ _ _ _ _ _ _ _ _ _ _ _ c.loop-line.invariant.run c.in-Some.ensures.steps c.in_ok-refused.ensures.done;
  counts = λ none. c.in_ok-refused.ensures.counted (c.loop-line.invariant.counts none);
}

pub returns-in_err-refused : goal.returns-in_err-refused
returns-in_err-refused g c =
    let gone : c.from_residual.result ≡ Err c.in_err-refused.field-0.0 = is_fault _ _ c.from_residual.ensures.1 in
    let ends = c.in_err-refused.ensures in
    rw gone (ends_by _ _ _ _ _ (stopped_in_line g.S.Store _ _ _ _ _ _ _ _ _ _ _ _ _ _ _ _ c.loop-line.invariant.run c.in-Some.ensures.steps ends.stopped)
    ends.fault (λ none. ends.counted (c.loop-line.invariant.counts none)))
