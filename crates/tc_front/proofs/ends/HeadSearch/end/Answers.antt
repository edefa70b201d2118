use Rattle.std.proofs.Common.{arith}
use Rattle.tc_front.proofs.EndLemmas.{ends_here, ends_nowhere, reaches_next}
use Rattle.tc_front.proofs.ends.HeadSearch.end.Goals as goal

pub returns-in-None-clause-value : goal.returns-in-None-clause-value
returns-in-None-clause-value c = ends_here c.args.text.now c.loop-self.self.place c.loop-self.self.before c.loop-self-test.true c.loop-self.invariant.reached c.in-None.ensures

pub loop-self-preserved : goal.loop-self-preserved
loop-self-preserved c = record {
  within = omega (arith, c.loop-self-test.true);
  reached = reaches_next c.args.text.now c.loop-self.self.place c.loop-self.self.before c.in-Some.before c.loop-self-test.true c.loop-self.invariant.reached c.in-Some.ensures;
}

pub returns-clause-value : goal.returns-clause-value
returns-clause-value c = ends_nowhere c.args.text.now c.loop-self.self.place c.loop-self.self.before c.loop-self-test.false c.loop-self.invariant.reached
