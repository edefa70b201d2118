-- What is written of the wall of tables that nobody has open.
use Rattle.std.specs.Prelude.{◌≡◌, ◌⊎◌, ℕ, Option, List, []}
use Rattle.std.specs.Io.KnownBytes.{Appends}
use Rattle.sqlite_trees.specs.declared.store.Store.{Ghosts}
use Rattle.sqlite.specs.Held.{Held, state}
use Rattle.tc_types.specs.Tables.{Image}
use Rattle.tc_book.specs.Sound.{IsSound, book_of}
use Rattle.tc_store.specs.declared.versions.Version.{Version}
use Rattle.tc_store.specs.Ledgers.{Ledger}
use Rattle.tc_store.specs.Schema.{HoldsAs}
use Rattle.tc_store.specs.Told.{IsTold}
use Rattle.tc_front.specs.Write.{IsCutShort}
use Rattle.tc_view.specs.Shown.{IsFilePage}

-- the page of the book that the tables tell of, which a desk could have written: so each move that it shows is lawful
abbrev pub TellsWall : {S : Type 0} → Ghosts S → Held S → Option (List ℕ) → Option (List ℕ) → Type 0
TellsWall g tables before after = (version : Version) (ledger : Ledger) → IsTold ledger.image → HoldsAs version (state g tables).now ledger
    → IsSound ledger.image × (page : List ℕ) × IsFilePage (book_of ledger.image) page × Appends before after page

-- nothing, or a front of that page, and not all
abbrev pub CutsPage : Image → List ℕ → Type 0
CutsPage image part = (part ≡ []) ⊎ (IsSound image × (page : List ℕ) × IsFilePage (book_of image) page × IsCutShort page part)

abbrev pub CutsWall : {S : Type 0} → Ghosts S → Held S → Option (List ℕ) → Option (List ℕ) → Type 0
CutsWall g tables before after = (version : Version) (ledger : Ledger) → IsTold ledger.image → HoldsAs version (state g tables).now ledger
    → (part : List ℕ) × CutsPage ledger.image part × Appends before after part
