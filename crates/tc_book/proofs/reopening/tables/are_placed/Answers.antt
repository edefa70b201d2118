-- One row more, or one that does not.
use Rattle.std.proofs.Common.{◌∙◌, sym, subst, refl, take_all}
use Rattle.std.specs.List.{AllByRecursion}
use Rattle.tc_book.specs.Known.{IsPlaced}
use Rattle.tc_book.proofs.ReopenLemmas.{all_more, all_at, placed_all, placed_each}
use Rattle.tc_book.proofs.reopening.tables.are_placed.Goals as goal

pub returns-then-not-is_placed : goal.returns-then-not-is_placed
returns-then-not-is_placed g c = λ cargo. (
  λ never. cc,
  λ are. sym c.if-not-is_placed.true
      ∙ (c.is_placed.ensures cargo).1
      (all_at (IsPlaced c.args.history.now.rows cargo) c.args.rows.now c.loop-row.row-index c.row-item.result c.loop-row-test.true c.row-item.is
      (placed_each c.args.history.now.rows cargo c.args.rows.now are)),
)

pub loop-row-preserved : goal.loop-row-preserved
loop-row-preserved g c = λ cargo.
    all_more (IsPlaced c.args.history.now.rows cargo) c.args.rows.now c.loop-row.row-index c.row-item.result c.loop-row-test.true c.row-item.is (c.loop-row.invariant cargo)
    ((c.is_placed.ensures cargo).0 c.if-not-is_placed.false)

pub returns : goal.returns
returns g c = λ cargo. (
  λ _. placed_all c.args.history.now.rows cargo c.args.rows.now
      (subst (AllByRecursion (IsPlaced c.args.history.now.rows cargo)) (take_all c.loop-row.row-index c.args.rows.now c.loop-row-test.false) (c.loop-row.invariant cargo)),
  λ _. refl,
)
