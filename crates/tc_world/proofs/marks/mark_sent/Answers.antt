-- One indication more, and all of them.
use Rattle.std.proofs.Common.{arith}
use Rattle.tc_world.proofs.MarkLemmas.{marks_more, marks_all}
use Rattle.tc_world.proofs.marks.mark_sent.Goals as goal

pub loop-indication-preserved : goal.loop-indication-preserved
loop-indication-preserved g c =
    let same = c.mark_one.ensures.len in
    let all = c.loop-indication.invariant.1 in (
      (λ requests marked. marks_more requests c.mark_one.new.marks.items c.args.indications.now c.loop-indication.indication-index _ c.loop-indication-test.true
          (rw c.indication-item.is at (c.mark_one.ensures.marks _ (c.loop-indication.invariant.0 requests marked)))),
      omega (arith, same, all),
    )

pub returns : goal.returns
returns g c = λ requests marked.
    let ended = c.loop-indication-test.false in
    marks_all requests c.loop-indication.marks.items c.args.indications.now c.loop-indication.indication-index (omega (arith, ended)) (c.loop-indication.invariant.0 requests marked)
