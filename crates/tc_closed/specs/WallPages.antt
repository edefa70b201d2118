-- The page of the wall of tables, over which no desk is opened.
use Rattle.std.specs.Prelude.{◌≡◌, ◌≤◌, ◌⊎◌, ℕ, IfErr, IfOk, OnOk, List, Result}
use Rattle.std.specs.declared.alloc.Global.{Global}
use Rattle.std.specs.declared.string.String.{String}
use Rattle.std.specs.String.{string_len}
use Rattle.sqlite_trees.specs.declared.store.Store.{Ghosts}
use Rattle.sqlite.specs.Held.{Held, state}
use Rattle.sqlite.specs.State.{HasCleanDisk}
use Rattle.tc_types.specs.declared.refusals.Refusal.{Refusal}
use Rattle.tc_types.specs.declared.refusals.Refusal.TheVariants.{Memory, Store}
use Rattle.tc_book.specs.Sound.{IsSound, book_of}
use Rattle.tc_store.specs.declared.versions.Version.{Version}
use Rattle.tc_store.specs.Ledgers.{Ledger}
use Rattle.tc_store.specs.Schema.{HoldsAs}
use Rattle.tc_store.specs.Told.{IsTold}
use Rattle.tc_view.specs.Shown.{IsFilePage}
use Rattle.tc_closed.specs.Closed.{LeavesTables, OnlyReads}

-- Of tables that hold a ledger whose rows are told by their columns: the page is that of the book which they tell of, and a desk could have written them. The tables
-- are only read.
pub record ReadsWall {S T E : Type 0} (g : Ghosts S) (page_of : T → List ℕ) (result : Result T E) (old new : Held S) : Type 0 where
  pub told : HasCleanDisk (state g new) → IfOk result (λ page. (version : Version) (ledger : Ledger) → IsTold ledger.image → HoldsAs version (state g old).now ledger
      → IsSound ledger.image × IsFilePage (book_of ledger.image) (page_of page))
  pub reads : OnOk result (OnlyReads g old new)
  pub left : LeavesTables g old new

-- How the making of a page ends: it has so many bytes at most; or memory was refused, or the tables are no desk's or cannot be read.
pub record EndsPage (most : ℕ) (result : Result (String Global) Refusal) : Type 0 where
  pub few : IfOk result (λ page. string_len page ≤ most)
  pub kind : IfErr result (λ refusal. (refusal ≡ Memory) ⊎ (refusal ≡ Store))
