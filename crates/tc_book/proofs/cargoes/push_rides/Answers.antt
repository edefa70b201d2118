-- One activity more.
use Rattle.std.proofs.Common.{rules, ◌≡◌, length, vec_len, length-append, ◌∙◌, ap, arith}
use Rattle.tc_book.proofs.CarriedLemmas.{carried_more}
use Rattle.tc_book.proofs.cargoes.push_rides.Goals as goal

pub loop-at-preserved : goal.loop-at-preserved
loop-at-preserved g c =
    let most = c.loop-at.invariant.1 in
    let room = c.loop-at.invariant.2 in
    let more = c.push_within.ensures.capacity in
    let before : vec_len c.loop-at.batch ≡ length c.loop-at.batch.items = search rules in
    let after : vec_len c.push_within.new.items ≡ length c.push_within.new.items.items = search rules in
    let longer = ap length c.push_within.ensures.items ∙ length-append c.loop-at.batch.items _ in (
      carried_more c.args.number c.loop-at.at c.args.rides.now c.index-rides-at.result c.args.batch.now.items c.loop-at.batch.items c.push_within.new.items.items
          c.loop-at-test.true c.index-rides-at.is c.loop-at.invariant.0 c.push_within.ensures.items,
      omega (arith, most, before, after, longer),
      omega (arith, more, room),
    )
