use Rattle.std.proofs.Common.{◌≡◌, rules}
use Rattle.tc_check.specs.Scripts.{script_lines}
use Rattle.tc_check.proofs.ScriptLemmas.{told_all, told_next, told_none}
use Rattle.tc_check.proofs.scripts.lines_told.Goals as goal

pub loop-line-init : goal.loop-line-init
loop-line-init g c =
    let all : c.into_iter-line-iterator.result ≡ script_lines c.args.text.now = search rules in
    told_none _ _ _ _ all c.new-findings.ensures

pub loop-line-preserved : goal.loop-line-preserved
loop-line-preserved g c = told_next _ _ _ _ _ _ _ _ _ _ _ c.loop-line.invariant c.in-Some.ensures.steps c.in_ok-told.ensures c.in_ok-add_told.ensures

pub returns : goal.returns
returns g c = told_all _ _ _ _ _ _ c.loop-line.invariant c.in-None.ensures.steps.0
