-- One more went from the front to the back.
use Rattle.std.proofs.Common.{sym, ◌∙◌, arith}
use Rattle.tc_world.proofs.RingLemmas.{turned_on, turns_some}
use Rattle.tc_world.proofs.ring_carriers.turn.Goals as goal
use Rattle.tc_world.proofs.ring_carriers.turn.Goals.{in-Some+in-Some-1, in-Some+in-None-1, in_default}

pub loop-preserved : goal.loop-preserved
loop-preserved g c =
    let all = c.args.ring.now.items in
    let there = c.requires in
    let test = c.loop-test.true in
    let within = c.len-within.ensures.within in
    let size = c.len-within.ensures.len in
    elim c.match-pop_front.branch [
      | in-Some+in-Some-1 w ↦ turned_on all c.loop.counter c.args.ring.now.capacity w.in-Some.item c.loop.ring c.pop_front.new.self c.match-pop_front.ring (omega (arith, there, test)) (omega (arith, within, size))
          c.loop.invariant (sym c.pop_front.ensures.value ∙ w.in-Some.is) c.pop_front.ensures.items (w.ring-is ∙ w.push_back.ensures.items)
      | in-Some+in-None-1 w ↦ turned_on all c.loop.counter c.args.ring.now.capacity w.in-Some.item c.loop.ring c.pop_front.new.self c.match-pop_front.ring (omega (arith, there, test)) (omega (arith, within, size))
          c.loop.invariant (sym c.pop_front.ensures.value ∙ w.in-Some.is) c.pop_front.ensures.items (w.ring-is ∙ w.push_back.ensures.items)
      | in_default w ↦ absurd (turns_some all c.loop.counter c.loop.ring (omega (arith, there, test)) c.loop.invariant.0 (sym c.pop_front.ensures.value ∙ w.in_default.is))
    ]
