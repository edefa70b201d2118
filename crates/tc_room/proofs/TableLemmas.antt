-- What the tables of a room hold once something was written to them, or read from them, and what a crash leaves.
use Rattle.std.proofs.Common.{◌≡◌, ◌⊎◌, inl, inr, arith, refl, sym, ap, subst, List}
use Rattle.std.specs.Prelude.{IsTrue, Result}
use Rattle.sqlite_trees.specs.declared.store.Store.{Ghosts}
use Rattle.sqlite_trees.specs.Tree.{Trees}
use Rattle.sqlite_catalog.specs.Listing.{IsSound as IsListed}
use Rattle.sqlite.specs.Effect.{Database}
use Rattle.sqlite.specs.Held.{Held, state}
use Rattle.sqlite.specs.State.{HasCleanDisk, Survives}
use Rattle.tc_types.specs.declared.tables.rows.Row.{Row}
use Rattle.tc_types.specs.Tables.{Image, applied}
use Rattle.tc_book.specs.Tables.{image_of}
use Rattle.tc_book.specs.Book.{Book}
use Rattle.tc_store.specs.declared.versions.Version.{Version}
use Rattle.tc_store.specs.Ledgers.{KeptAnswer, Ledger, newest, with_image}
use Rattle.tc_store.specs.Reads.{OnlyReads}
use Rattle.tc_store.specs.Schema.{layout_in, HoldsAs, Holds}
use Rattle.tc_store.specs.Steps.{LeavesOnly}
use Rattle.tc_room.specs.Crash.{HasRows, Leaves, LeavesActs, LeavesOr, ledger_of}
use Rattle.tc_room.specs.Joined.{HasLedger}

-- the trees of a database that holds a ledger
has_rows : (db : Database) (ledger : Ledger) (trees : Trees) → Holds db ledger → trees ≡ db.trees → HasRows trees ledger
has_rows db ledger trees held same = subst (λ (found : Trees). HasRows found ledger) (sym same) (record { layout = layout_in db; fits = held.fits; rows = held.rows; listed = subst (λ s. IsListed s db.trees) held.schema held.sound })

-- tables that hold a ledger, of which a crash leaves nothing else
pub only_ledger : {S : Type 0} (g : Ghosts S) (tables : Held S) (ledger : Ledger) → Holds (state g tables).now ledger → LeavesOnly (state g tables) (state g tables).now.trees → HasLedger g tables ledger
only_ledger g tables ledger held only = record { holds = held; leaves = λ trees may. (ledger, refl, has_rows _ ledger trees held (only trees may)) }

-- what a crash left, or what the call would have committed
pub made_or : {A B C : Type 0} → A ⊎ B → (B → C) → A ⊎ C
made_or (inl a) make = inl a
made_or (inr b) make = inr (make b)

pub left_by : {A B : Type 0} → A ⊎ B → (A → B) → B
left_by (inl a) left = left a
left_by (inr b) left = b

or_over : {A B C M : Type 0} → M ⊎ C → (M → A ⊎ ⊥) → (C → B) → A ⊎ B
or_over (inl m) before make = made_or (before m) (λ none. absurd none)
or_over (inr c) before make = inr (make c)

module _ {S : Type 0} (g : Ghosts S) (old new : Held S) where
  -- a call that may commit such trees
  pub leaves_or : {Leaves Made : Trees → Type 0} → Survives (state g old) (state g new) Leaves → HasCleanDisk (state g new) → ((trees : Trees) → Leaves trees → Made trees) → LeavesOr g old new Made
  leaves_or left clean makes = λ trees may. made_or (left.crash clean trees may) (makes trees)

  -- one that commits nothing
  pub leaves_none : Survives (state g old) (state g new) (λ _. ⊥) → HasCleanDisk (state g new) → LeavesOr g old new (λ _. ⊥)
  leaves_none left clean = left.crash clean

  pub leaves_more : (Made : Trees → Type 0) → Survives (state g old) (state g new) (λ _. ⊥) → HasCleanDisk (state g new) → LeavesOr g old new Made
  leaves_more Made left clean = λ trees may. made_or (left.crash clean trees may) (λ none. absurd none)

  -- a call that commits nothing
  pub leaves_same : {May : Ledger → Type 0} → Survives (state g old) (state g new) (λ _. ⊥) → HasCleanDisk (state g new) → Leaves g old May → Leaves g new May
  leaves_same left clean leaves = λ trees may. left_by (made_or (left.crash clean trees may) (λ none. absurd none)) (leaves trees)

-- a call that only read tables that hold a ledger
module _ {S T E : Type 0} (g : Ghosts S) (old new : Held S) (result : Result T E) where
  pub read_kept : OnlyReads g old new result → HasCleanDisk (state g new) → IsTrue (state g new).is_open → (ledger : Ledger) → HasLedger g old ledger → Holds (state g new).now ledger
  read_kept reads clean is_open ledger has = reads.kept clean is_open newest ledger has.holds

  pub read_left : OnlyReads g old new result → HasCleanDisk (state g new) → (ledger : Ledger) → HasLedger g old ledger → Leaves g new (λ left. left ≡ ledger)
  read_left reads clean ledger has = leaves_same g old new (reads.crash newest ledger has.holds) clean has.leaves

-- a call that commits nothing, and then one that may commit such trees
pub leaves_over : {S : Type 0} (g : Ghosts S) (old mid new : Held S) {Commits Made : Trees → Type 0} → LeavesOr g old mid (λ _. ⊥) → Survives (state g mid) (state g new) Commits → HasCleanDisk (state g new)
    → ((trees : Trees) → Commits trees → Made trees) → LeavesOr g old new Made
leaves_over g old mid new first left clean makes = λ trees may. or_over (left.crash clean trees may) (first trees) (makes trees)

module _ {S : Type 0} (g : Ghosts S) (old new : Held S) (before : Ledger) where
  -- rows were written, into tables of this version
  pub written : (from : Version) (rows : List Row) (after : Book) {Commits : Trees → Type 0} → applied rows before.image ≡ image_of after → Survives (state g old) (state g new) Commits → HasCleanDisk (state g new)
      → (HasCleanDisk (state g old) → HoldsAs from (state g old).now before) → ((ledger : Ledger) → HoldsAs from (state g old).now ledger → Holds (state g new).now (with_image rows ledger))
      → LeavesOnly (state g new) (state g new).now.trees → HasLedger g new (ledger_of after before.replies)
  written from rows after makes left clean held writes only =
      only_ledger g new (ledger_of after before.replies)
      (subst (λ (image : Image). Holds (state g new).now (record { image = image; replies = before.replies })) makes (writes before (held (omega (arith, clean, left.clean))))) only

  -- they were not
  pub not_written : {Commits : Trees → Type 0} → Survives (state g old) (state g new) Commits → HasCleanDisk (state g new)
      → (HasCleanDisk (state g old) → Holds (state g old).now before) → (IsTrue (state g new).is_open → (state g new).now ≡ (state g old).now) → IsTrue (state g new).is_open → Holds (state g new).now before
  not_written left clean held same is_open = subst (λ now. Holds now before) (sym (same is_open)) (held (omega (arith, clean, left.clean)))

-- and then a crash leaves what the tables held, or all of the rows
module _ {S : Type 0} (g : Ghosts S) (old new : Held S) (before after : Book) (replies : List KeptAnswer) (rows : List Row) (Makes : Book → Type 0) where
  left_acts : (trees : Trees) → (ledger : Ledger) × (ledger ≡ ledger_of before replies) × HasRows trees ledger
      → (ledger : Ledger) × ((ledger ≡ ledger_of before replies) ⊎ ((made : Book) × Makes made × (ledger ≡ ledger_of made replies))) × HasRows trees ledger
  left_acts trees was = (was.0, inl was.1, was.2)

  pub leaves_acts : Survives (state g old) (state g new) (λ trees. (ledger : Ledger) → Holds (state g old).now ledger → HasRows trees (with_image rows ledger)) → HasCleanDisk (state g new)
      → (HasCleanDisk (state g old) → HasLedger g old (ledger_of before replies)) → applied rows (image_of before) ≡ image_of after → Makes after → LeavesActs g new before replies Makes
  leaves_acts left clean held writes makes =
      let has : HasLedger g old (ledger_of before replies) = held (omega (arith, clean, left.clean)) in
      λ trees may. left_by
      (made_or (left.crash clean trees may)
      (λ rows_are. (with_image rows (ledger_of before replies), inr (after, makes, ap (λ (image : Image). let l : Ledger = record { image = image; replies = replies } in l) writes), rows_are (ledger_of before replies) has.holds)))
      (λ was. left_acts trees (has.leaves trees was))

-- so it is of a call that wrote nothing
pub leaves_asked : {S : Type 0} (g : Ghosts S) (tables : Held S) (before : Book) (replies : List KeptAnswer) (Makes : Book → Type 0) → Leaves g tables (λ ledger. ledger ≡ ledger_of before replies) → LeavesActs g tables before replies Makes
leaves_asked g tables before replies Makes leaves = λ trees may. let was = leaves trees may in (was.0, inl was.1, was.2)
