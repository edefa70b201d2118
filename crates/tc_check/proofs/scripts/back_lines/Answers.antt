use Rattle.std.proofs.Common.{◌≡◌, rules}
use Rattle.tc_check.specs.Scripts.{script_lines}
use Rattle.tc_check.proofs.ScriptLemmas.{back_all, back_next, back_none}
use Rattle.tc_check.proofs.scripts.back_lines.Goals as goal

pub loop-line-init : goal.loop-line-init
loop-line-init c =
    let all : c.into_iter-line-iterator.result ≡ script_lines c.args.text.now = search rules in
    back_none _ _ _ all c.new-findings.ensures

pub loop-line-preserved : goal.loop-line-preserved
loop-line-preserved c = back_next _ _ _ _ _ _ _ _ _ c.loop-line.invariant c.in-Some.ensures.steps c.latest_with-latest.ensures c.in_ok-add_back.ensures

pub returns : goal.returns
returns c = back_all _ _ _ _ _ c.loop-line.invariant c.in-None.ensures.steps.0
