-- What a crash leaves of a desk's tables: an opening after it finds one of these.
use Rattle.std.specs.Prelude.{◌≡◌, ◌⊎◌, List}
use Rattle.sqlite_trees.specs.Tree.{Trees}
use Rattle.sqlite_trees.specs.declared.store.Store.{Ghosts}
use Rattle.sqlite.specs.Held.{Held, state}
use Rattle.tc_book.specs.Book.{Book}
use Rattle.tc_book.specs.Tables.{image_of}
use Rattle.tc_store.specs.Ledgers.{KeptAnswer, Ledger}
pub use Rattle.tc_store.specs.Steps.{HasRows}

-- the tables of a book, and the replies that are kept beside it
abbrev pub ledger_of : Book → List KeptAnswer → Ledger
ledger_of book replies = record { image = image_of book; replies = replies }

-- a crash at this moment leaves tables with such rows
abbrev pub Leaves : {S : Type 0} → Ghosts S → Held S → (Ledger → Type 0) → Type 0
Leaves g tables May = (trees : Trees) → (state g tables).may_leave trees → (ledger : Ledger) × May ledger × HasRows trees ledger

-- The tables of a book as it was, or of what one act makes of it: all of the act, or nothing. The replies stay as they were.
abbrev pub LeavesActs : {S : Type 0} → Ghosts S → Held S → Book → List KeptAnswer → (Book → Type 0) → Type 0
LeavesActs g tables before replies Makes =
    Leaves g tables (λ ledger. (ledger ≡ ledger_of before replies) ⊎ ((after : Book) × Makes after × (ledger ≡ ledger_of after replies)))

-- what a crash left before, or such tables
abbrev pub LeavesOr : {S : Type 0} → Ghosts S → Held S → Held S → (Trees → Type 0) → Type 0
LeavesOr g old new Made = (trees : Trees) → (state g new).may_leave trees → (state g old).may_leave trees ⊎ Made trees
