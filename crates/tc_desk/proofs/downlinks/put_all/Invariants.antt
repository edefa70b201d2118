use Rattle.std.proofs.Common.{◌+◌, ◌≤◌, take}
use Rattle.tc_desk.specs.Machine.{PutsDown}
use Rattle.tc_desk.proofs.downlinks.put_all.Given as goal

abbrev pub invariant-loop-report : goal.invariant-loop-report
invariant-loop-report g l =
    PutsDown g.U.Carrier.kind g.D.Carrier.kind (take l.report-index l.reports) l.fn.world l.world
    × (g.D.Carrier.covered l.fn.world.down ≤ g.D.Carrier.covered l.world.down + l.report-index)
