use Rattle.tc_api.proofs.EachLemmas.{SoFar}
use Rattle.tc_api.proofs.each.serve_each.Given as goal

-- each request that came so far made one exchange
abbrev pub invariant-loop : goal.invariant-loop
invariant-loop g l = record {
  so_far : SoFar l.fn.door l.fn.since g.S.Store (g.T.Traffic.came l.fn.traffic) (g.T.Traffic.came l.traffic) (g.T.Traffic.told l.fn.traffic) (g.T.Traffic.told l.traffic) l.fn.room l.room;
}
