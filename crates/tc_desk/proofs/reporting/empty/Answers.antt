-- One more request is looked at, and there is room for what comes of it.
use Rattle.std.proofs.Common.{◌∙◌, ◌-◌, refl, arith}
use Rattle.tc_desk.proofs.EmptyLemmas.{remove_in_turn, removed_next, removed_all}
use Rattle.tc_desk.proofs.LoopLemmas.{moves_on, moves_none}
use Rattle.tc_desk.proofs.reporting.empty.Goals as goal

pub loop-n-init : goal.loop-n-init
loop-n-init g c = (refl, moves_none _)

pub remove-requires : goal.remove-requires
remove-requires g c =
    let first = c.loop-n.auto.n in
    let count = c.count-n-end.ensures.count in
    let on = c.loop-n-test.true in
    remove_in_turn c.args.stamp.now c.args.mirror.now.told c.args.records.now c.loop-n.records c.loop-n.n first (omega (arith, count, on)) c.loop-n.invariant.0 c.loop-n.invariant.1 c.requires

pub loop-n-preserved : goal.loop-n-preserved
loop-n-preserved g c =
    let first = c.loop-n.auto.n in
    let count = c.count-n-end.ensures.count in
    let on = c.loop-n-test.true in (
      c.remove.ensures.book ∙ removed_next c.args.stamp.now c.args.mirror.now.told c.args.records.now.book c.loop-n.records.book c.loop-n.n first (omega (arith, count, on)) c.loop-n.invariant.0,
      moves_on _ _ _ c.loop-n.invariant.1 c.remove.ensures.only,
    )

pub returns-clause-book : goal.returns-clause-book
returns-clause-book g c =
    let first = c.loop-n.auto.n in
    let last = c.loop-n.auto.n-end in
    let off = c.loop-n-test.false in
    let count = c.count-n-end.ensures.count in
    c.loop-n.invariant.0 ∙ removed_all c.args.stamp.now c.args.mirror.now.told c.args.records.now.book (c.loop-n.n - 1) (omega (arith, first, last, off, count))
