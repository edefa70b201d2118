-- One more report is put.
use Rattle.std.proofs.Common.{arith}
use Rattle.tc_desk.proofs.PutLemmas.{puts_more}
use Rattle.tc_desk.proofs.downlinks.put_all.Goals as goal

pub loop-report-preserved : goal.loop-report-preserved
loop-report-preserved g c =
    let kept = c.loop-report.invariant in
    let room = c.put_down.ensures.room in
    let so_many = kept.1 in (
      puts_more g.U.Carrier.kind g.D.Carrier.kind c.args.world.now c.loop-report.world c.put_down.new.world c.args.reports.now c.loop-report.report-index _ c.loop-report-test.true kept.0 (rw c.report-item.is at c.put_down.ensures.put),
      omega (arith, room, so_many),
    )
