use Rattle.tc_api.proofs.EachLemmas.{ends, ends_full, none_yet, one_more}
use Rattle.tc_api.proofs.each.serve_each.Goals as goal

pub loop-init : goal.loop-init
loop-init g c = record { so_far = none_yet _ _ g.S.Store _ _ _ }

pub returns-in_default : goal.returns-in_default
returns-in_default g c = ends _ _ g.S.Store _ _ _ _ _ _ _ _ c.opened-opened.ensures.promise c.loop.invariant.so_far (rw c.in_default.is at c.next.ensures.comes) c.next.ensures.told

pub returns : goal.returns
returns g c = ends_full _ _ g.S.Store _ _ _ _ _ _ c.opened-opened.ensures.promise c.loop.invariant.so_far

pub loop-preserved : goal.loop-preserved
loop-preserved g c = record {
  so_far = one_more _ _ g.S.Store _ _ _ _ _ _ _ _ _ _ _ _ _ c.loop.invariant.so_far (rw c.in-Some.is at c.next.ensures.comes) c.next.ensures.told c.answer.ensures.comes (rw (c.as_slice-text.ensures.value, c.stopped.ensures) at c.answer.ensures.told) (rw c.as_slice-text.ensures.value at c.deal-served.ensures.1);
}
