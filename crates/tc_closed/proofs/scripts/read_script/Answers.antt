use Rattle.std.proofs.Common.{rules, inr}
use Rattle.tc_closed.proofs.ScriptLemmas.{too_long}
use Rattle.tc_closed.proofs.scripts.read_script.Goals as goal

pub returns-then-len-count-clause-script : goal.returns-then-len-count-clause-script
returns-then-len-count-clause-script g c = λ _. inr (inr (too_long _ _ _ _ _ _ _ _ _ _ c.loop.invariant.counts c.loop-test.true c.in-Ok.ensures.counted
    c.loop.invariant.taken c.in-Ok.ensures.bytes.0 c.in-Ok.ensures.bound.1 (search rules) (search rules) (search rules) (search rules)))
