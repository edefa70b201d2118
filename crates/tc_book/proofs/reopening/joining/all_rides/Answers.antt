-- One activity more.
use Rattle.std.proofs.Common.{refl}
use Rattle.tc_book.proofs.CargoLemmas.{rides_more, rides_made}
use Rattle.tc_book.proofs.reopening.joining.all_rides.Goals as goal

pub loop-at-init : goal.loop-at-init
loop-at-init c = (refl, refl)

pub loop-at-preserved : goal.loop-at-preserved
loop-at-preserved c =
    rides_more c.args.first c.args.own.now c.loop-at.places c.loop-at.at c.index-own-at.result c.loop-at-test.true c.if-own-ge-MOST_INSERTED.false c.index-own-at.is c.loop-at.invariant.0 c.loop-at.invariant.1

pub returns : goal.returns
returns c =
    rides_made c.of.result c.loop-at.places c.loop-at.at c.args.first c.args.own.now c.of.ensures.found c.of.ensures.value c.loop-at-test.false c.loop-at.auto.at-end c.if-own-ge-MOST_INSERTED.false c.loop-at.invariant.0
