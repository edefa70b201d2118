use Rattle.std.proofs.Common.{◌≡◌, IsTrue, map}
use Rattle.sqlite.specs.State.{HasCleanDisk, KeepsCommit, Survives}
use Rattle.sqlite.specs.Held.{state}
use Rattle.tc_store.proofs.CreateLemmas.{Leads}
use Rattle.tc_store.proofs.creates.define_all.Given as goal

abbrev pub invariant-texts : goal.invariant-texts
invariant-texts g l =
    let first = l.initial.tx.conn in
    let last = l.tx.conn in
    (last.ghost_name ≡ first.ghost_name)
    × (HasCleanDisk (state g.S.Store last.now) → IsTrue first.now.in_transaction → Leads g.S.Store (map (λ text. text.now) l.texts) l.text-index first.now last.now)
    × (HasCleanDisk (state g.S.Store last.now) → IsTrue first.now.in_transaction → KeepsCommit (state g.S.Store first.now) (state g.S.Store last.now))
    × Survives (state g.S.Store first.now) (state g.S.Store last.now) (λ _. ⊥)
