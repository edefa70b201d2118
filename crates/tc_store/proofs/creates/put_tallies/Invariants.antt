use Rattle.std.proofs.Common.{◌≡◌, IsTrue, map, take}
use Rattle.sqlite.specs.State.{HasCleanDisk, KeepsCommit, Survives}
use Rattle.sqlite.specs.Held.{state}
use Rattle.tc_store.specs.Steps.{Step}
use Rattle.tc_store.specs.Tallies.{first_tally}
use Rattle.tc_store.proofs.creates.put_tallies.Given as goal

abbrev pub invariant-places : goal.invariant-places
invariant-places g l =
    let first = l.initial.tx.conn in
    let last = l.tx.conn in
    (last.ghost_name ≡ first.ghost_name)
    × (HasCleanDisk (state g.S.Store last.now) → IsTrue first.now.in_transaction → Step g.S.Store (take l.place-index (map first_tally l.places)) first.now last.now)
    × (HasCleanDisk (state g.S.Store last.now) → IsTrue first.now.in_transaction → KeepsCommit (state g.S.Store first.now) (state g.S.Store last.now))
    × Survives (state g.S.Store first.now) (state g.S.Store last.now) (λ _. ⊥)
