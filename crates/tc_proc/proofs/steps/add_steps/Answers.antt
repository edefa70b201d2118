use Rattle.std.proofs.Common.{arith}
use Rattle.tc_proc.proofs.StepLemmas.{added_more}
use Rattle.tc_proc.proofs.steps.add_steps.Goals as goal

pub loop-index-preserved : goal.loop-index-preserved
loop-index-preserved g c =
    let room = c.loop-index.invariant.1 in
    let len = c.push_reserved.ensures.len in
    let capacity = c.push_reserved.ensures.capacity in
    let low = c.loop-index-test.true in (
      added_more c.args.name c.args.steps.now c.loop-index.index c.index-steps-index.result c.args.kept.now.items c.loop-index.kept.items c.push_reserved.new.self.items c.kept_step.result
          c.loop-index-test.true c.index-steps-index.is c.loop-index.invariant.0 c.kept_step.ensures c.push_reserved.ensures.items,
      omega (arith, room, len, capacity, low),
    )
