-- One more frame is put.
use Rattle.std.proofs.Common.{arith}
use Rattle.tc_world.proofs.PutLemmas.{PutsAll-more, put_length}
use Rattle.tc_world.proofs.fop_side.put_all.Goals as goal

pub loop-frame-preserved : goal.loop-frame-preserved
loop-frame-preserved g c =
    let kept = c.loop-frame.invariant in
    let room = c.put.ensures.room in
    let so_many = kept.1 in
    let so_long = kept.2 in
    let longer = put_length _ _ _ (g.met.U.Carrier.put_only_loses _ _ _ c.put.ensures.put) in (
      PutsAll-more g.U.Carrier.kind c.args.up.now c.loop-frame.up c.put.new.self c.args.frames.now c.loop-frame.frame-index _ c.loop-frame-test.true kept.0 (rw c.frame-item.is at c.put.ensures.put),
      omega (arith, room, so_many),
      omega (arith, longer, so_long),
    )
