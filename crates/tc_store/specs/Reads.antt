-- What calls that only read leave.
use Rattle.std.specs.Prelude.{◌≡◌, false, [], None, IsTrue, Result, Ok, Err, IfOk, OnOk, ⊤}
use Rattle.sqlite_trees.specs.declared.store.Store.{Ghosts}
use Rattle.sqlite.specs.Effect.{Database}
use Rattle.sqlite.specs.State.{HasCleanDisk, Survives}
use Rattle.sqlite.specs.Held.{Held, state}
use Rattle.sqlite_resolve.specs.declared.compiled.Compiled.{Compiled}
use Rattle.sqlite_resolve.specs.declared.error.CompileError.{CompileError}
use Rattle.tc_store.specs.declared.versions.Version.{Version}
use Rattle.tc_store.specs.declared.versions.Layout.{Layout}
use Rattle.tc_store.specs.Ledgers.{Ledger}
use Rattle.tc_store.specs.Schema.{schema_of, HoldsAs}

-- a text that only reads, and does not read the time; or one that is not understood, and does nothing
abbrev pub IsQuiet : Result Compiled CompileError → Type 0
IsQuiet (Ok c) = (c.returning ≡ None) × (c.formats ≡ [])
IsQuiet (Err e) = ⊤

-- The tables hold what they held, of whatever version they are. A database with the schema of a desk is the very same, whatever its rows are.
pub record Stays {S : Type 0} (g : Ghosts S) (old new : Held S) : Type 0 where
  pub same : (layout : Layout) (version : Version) → (state g old).now.schema ≡ schema_of layout version → (state g new).now ≡ (state g old).now
  pub holds : (version : Version) (ledger : Ledger) → HoldsAs version (state g old).now ledger → HoldsAs version (state g new).now ledger

-- so they do, also after a fault, where the connection is open, and a crash leaves no other tables than before
pub record Spares {S : Type 0} (g : Ghosts S) (old new : Held S) : Type 0 where
  pub kept : HasCleanDisk (state g new) → IsTrue (state g new).is_open → (version : Version) (ledger : Ledger) → HoldsAs version (state g old).now ledger → HoldsAs version (state g new).now ledger
  pub crash : Survives (state g old) (state g new) (λ _. (version : Version) (ledger : Ledger) → HoldsAs version (state g old).now ledger → ⊥)
  pub outside : old.in_transaction ≡ false → new.in_transaction ≡ false

-- What a call that only reads finds of the database where it is Ok, and what it leaves.
pub record Reads {S T E : Type 0} (g : Ghosts S) (Finds : Database → T → Type 0) (old new : Held S) (result : Result T E) : Type 0 where
  pub finds : HasCleanDisk (state g new) → IfOk result (Finds (state g old).now)
  pub same : HasCleanDisk (state g new) → OnOk result (Stays g old new)
  pub left : Spares g old new

-- What it leaves of tables that hold a ledger: they hold it still, also after a fault where the connection is open, and a crash leaves no other tables.
pub record OnlyReads {S T E : Type 0} (g : Ghosts S) (old new : Held S) (result : Result T E) : Type 0 where
  pub same : HasCleanDisk (state g new) → (version : Version) (ledger : Ledger) → HoldsAs version (state g old).now ledger → OnOk result (HoldsAs version (state g new).now ledger)
  pub kept : HasCleanDisk (state g new) → IsTrue (state g new).is_open → (version : Version) (ledger : Ledger) → HoldsAs version (state g old).now ledger → HoldsAs version (state g new).now ledger
  pub crash : (version : Version) (ledger : Ledger) → HoldsAs version (state g old).now ledger → Survives (state g old) (state g new) (λ _. ⊥)
  pub clean : HasCleanDisk (state g new) → HasCleanDisk (state g old)
  pub outside : (state g old).in_transaction ≡ false → (state g new).in_transaction ≡ false
