-- One row more, or one that is not its next.
use Rattle.std.proofs.Common.{◌∙◌, refl, sym}
use Rattle.tc_book.proofs.CargoLemmas.{front_more, front_stops, front_ends}
use Rattle.tc_book.proofs.reopening.joining.own_cargo.Goals as goal

pub loop-at-init : goal.loop-at-init
loop-at-init c = refl

pub returns-then-not-is_at-clause-front : goal.returns-then-not-is_at-clause-front
returns-then-not-is_at-clause-front c =
    front_stops c.args.number c.loop-at.at c.args.cargo.now c.index-cargo-at.result c.loop-at-test.true c.index-cargo-at.is c.loop-at.invariant (sym c.is_at.ensures ∙ c.if-not-is_at.true)

pub loop-at-preserved : goal.loop-at-preserved
loop-at-preserved c = front_more c.args.number c.loop-at.at c.args.cargo.now c.index-cargo-at.result c.loop-at-test.true c.index-cargo-at.is c.loop-at.invariant (sym c.is_at.ensures ∙ c.if-not-is_at.false)

pub returns-clause-front : goal.returns-clause-front
returns-clause-front c = front_ends c.args.number c.loop-at.at c.args.cargo.now c.loop-at-test.false c.loop-at.invariant
