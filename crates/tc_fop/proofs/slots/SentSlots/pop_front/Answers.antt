-- The front leaves, and the others stand as they were.
use Rattle.std.proofs.Common.{◌≡◌, ◌-◌, ◌<◌, suc, None, List, length, drop, sym, ◌∙◌, ap, arith}
use Rattle.std.proofs.lemmas.List.{length-set}
use Rattle.tc_fop.specs.declared.queues.Outstanding.{Outstanding}
use Rattle.tc_fop.proofs.SlotLemmas.{length_queued, popped, popped_filled, some_there}
use Rattle.tc_fop.proofs.slots.SentSlots.pop_front.Goals as goal

pub invariant_of-self : goal.invariant_of-self
invariant_of-self g c =
    let count = c.self.inside.count in
    let size : length c.args.self.now ≡ count =
    sym (ap length c.self.view_is) ∙ length_queued c.self.inside.slots.items c.self.inside.first count c.self.invariant.3 in
    let some : 0 < length c.args.self.now = some_there c.args.self.now 0 c.in_ok-front.front (sym c.get.ensures ∙ c.in_ok-front.was) in
    let e : count ≡ suc (count - 1) = omega (arith, size, some) in
    let few = c.self.invariant.2 in (
      length-set c.self.inside.slots.items c.self.inside.first None ∙ c.self.invariant.0,
      omega arith,
      omega (arith, few),
      popped_filled c.self.inside.slots.items c.self.inside.first count (count - 1) c.self.invariant.1 c.self.invariant.2 e c.self.invariant.3,
    )

pub returns-clause-left : goal.returns-clause-left
returns-clause-left g c =
    let count = c.self.inside.count in
    let size : length c.args.self.now ≡ count =
    sym (ap length c.self.view_is) ∙ length_queued c.self.inside.slots.items c.self.inside.first count c.self.invariant.3 in
    let some : 0 < length c.args.self.now = some_there c.args.self.now 0 c.in_ok-front.front (sym c.get.ensures ∙ c.in_ok-front.was) in
    let e : count ≡ suc (count - 1) = omega (arith, size, some) in
    popped c.self.inside.slots.items c.self.inside.first count (count - 1) c.self.invariant.1 c.self.invariant.2 e c.self.invariant.3
    ∙ ap (λ (l : List Outstanding). drop 1 l) c.self.view_is
