-- Those of the first requests are there.
use Rattle.std.proofs.Common.{take}
use Rattle.tc_view.specs.Gathered.{AreTrailsOf}
use Rattle.tc_view.proofs.trails.trails_of.Given as goal

abbrev pub invariant-loop-request : goal.invariant-loop-request
invariant-loop-request g l = AreTrailsOf l.records.book (take l.request-index l.requests) l.trails.items
