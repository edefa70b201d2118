-- What calls that write in one transaction of their own leave, whatever they write.
use Rattle.std.specs.Prelude.{◌≡◌, true, false, IsTrue, Result, IfErr, OnOk, OnErr}
use Rattle.sqlite_trees.specs.declared.store.Store.{Ghosts}
use Rattle.sqlite.specs.State.{HasCleanDisk, Survives}
use Rattle.sqlite.specs.Held.{Held, state}
use Rattle.tc_store.specs.declared.faults.StoreFault.{StoreFault}
use Rattle.tc_store.specs.Faults.{is_before_commit}
use Rattle.tc_store.specs.Steps.{LeavesOnly}

pub record Commits {S T : Type 0} (g : Ghosts S) (old new : Held S) (result : Result T StoreFault) : Type 0 where
  -- after an Ok the connection is open
  pub is_open : HasCleanDisk (state g new) → OnOk result (IsTrue (state g new).is_open)
  -- after a fault the database is as it was, where the connection is open
  pub kept : HasCleanDisk (state g new) → IsTrue (state g new).is_open → OnErr result ((state g new).now ≡ (state g old).now)
  -- after an Ok a crash leaves what stands, and nothing else
  pub durable : HasCleanDisk (state g new) → OnOk result (LeavesOnly (state g new) (state g new).now.trees)
  -- after a fault that came before the commit a crash leaves nothing new
  pub before : IfErr result (λ e. is_before_commit e ≡ true → Survives (state g old) (state g new) (λ _. ⊥))
  -- after an Ok the transaction has ended
  pub ended : OnOk result (new.in_transaction ≡ false)
  -- and where none was before the call, none is after it
  pub outside : old.in_transaction ≡ false → new.in_transaction ≡ false
