use Rattle.std.proofs.Common.{◌≡◌, ◌++◌, take, drop}
use Rattle.tc_world.proofs.ring_carriers.turn.Given as goal

abbrev pub invariant-loop : goal.invariant-loop
invariant-loop g l =
    (l.ring.items ≡ drop l.counter l.fn.ring.items ++ take l.counter l.fn.ring.items)
    × (l.ring.capacity ≡ l.fn.ring.capacity)
