-- The item at the place is gone, and the others stand as they did.
use Rattle.std.proofs.Common.{◌-◌, arith}
use Rattle.tc_world.proofs.RingLemmas.{removed_by_turning}
use Rattle.tc_world.proofs.ring_carriers.remove_at.Goals as goal

pub returns-clause-items : goal.returns-clause-items
returns-clause-items g c =
    let all = c.args.ring.now.items in
    let size = c.len-count.ensures.len in
    let below = c.if-place-count.false in
    removed_by_turning all c.args.place (c.len-count.result - 1 - c.args.place) c.turn.new.ring c.pop_front.new.self c.turn-2.new.ring
    (omega (arith, size, below)) (omega (arith, size))
    c.turn.ensures.items c.pop_front.ensures.items c.turn-2.ensures.items
