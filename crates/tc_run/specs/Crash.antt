-- What an opening finds in files that a crash left.
use Rattle.std.specs.Prelude.{◌≡◌, ◌⊎◌, ⊤, ℕ, IsTrue, List, []}
use Rattle.sqlite_trees.specs.Tree.{Trees}
use Rattle.sqlite_trees.specs.declared.store.Store.{Ghosts}
use Rattle.sqlite_catalog.specs.Listing.{IsSound as IsListed}
use Rattle.sqlite_wal.specs.Recovery.{Image as Bytes}
use Rattle.sqlite_store.specs.declared.store.FileStore.{FileStore}
use Rattle.sqlite_store.specs.FileStore as files
use Rattle.sqlite_disk.specs.declared.Disk as disk
use Rattle.sqlite.specs.Effect.{Database}
use Rattle.sqlite.specs.Held.{Held, state}
use Rattle.sqlite.specs.Files.{file_state, IsOpened, over_files}
use Rattle.sqlite.specs.Start.{FindsIn}
use Rattle.sqlite.specs.State.{HasCleanDisk}
use Rattle.tc_types.specs.declared.acts.Act.{Act}
use Rattle.tc_types.specs.declared.history.moves.Move.{Move}
use Rattle.tc_book.specs.Book.{Book}
use Rattle.tc_book.specs.Tables.{image_of}
use Rattle.tc_book.specs.declared.stamps.Stamp.{Stamp}
use Rattle.tc_desk.specs.Loads.{Loading}
use Rattle.tc_world.specs.declared.configs.Config.{Config}
use Rattle.tc_sql.specs.Builds.{no_schema}
use Rattle.tc_sql.specs.Contents.{Matches}
use Rattle.tc_store.specs.declared.versions.Version.{Version}
use Rattle.tc_store.specs.declared.versions.Layout.{Layout}
use Rattle.tc_store.specs.Layouts.{IsLayoutOf}
use Rattle.tc_store.specs.Ledgers.{KeptAnswer, Ledger, empty_ledger, newest}
use Rattle.tc_store.specs.Schema.{schema_of, contents_of, HoldsAs, Lacks}
use Rattle.tc_store.specs.Told.{IsTold}
use Rattle.tc_room.specs.declared.callers.Caller.{Caller}
use Rattle.tc_room.specs.Calls.{IsMadeOnce, KeepsAll, Makes, Making}
use Rattle.tc_room.specs.Crash.{HasRows, Leaves, LeavesActs, ledger_of}
use Rattle.tc_room.specs.Joined.{IsKept, LinkState, Standing}
use Rattle.tc_room.specs.Loads.{LoadsBook}
use Rattle.tc_room.specs.Opening as opening
use Rattle.tc_room.specs.Opening.{LeavesOpening, OpensAs, OpensLeft}
use Rattle.tc_room.specs.Room.{IsJustOpened, MakesBook}

-- what the files hold, as tables of a version, in one of its orders, with these rows and no other
pub record HasRowsAs (version : Version) (trees : Trees) (ledger : Ledger) : Type 0 where
  pub layout : Layout
  pub fits : IsLayoutOf layout version
  pub rows : Matches trees (contents_of layout version ledger.image ledger.replies)
  pub listed : IsListed (schema_of layout version) trees
  pub lacks : Lacks version ledger.image ledger.replies

-- the tables of a connection are of a version and hold this ledger, and a crash leaves just that
pub record HasLedgerAs {S : Type 0} (g : Ghosts S) (version : Version) (tables : Held S) (ledger : Ledger) : Type 0 where
  pub holds : HoldsAs version (state g tables).now ledger
  pub leaves : (trees : Trees) → (state g tables).may_leave trees → HasRowsAs version trees ledger

-- a crash leaves tables of some version with some rows, which may be these
abbrev pub LeavesSome : {S : Type 0} → Ghosts S → Held S → (Version → Ledger → Type 0) → Type 0
LeavesSome g tables May = (trees : Trees) → (state g tables).may_leave trees → (version : Version) × (ledger : Ledger) × May version ledger × HasRowsAs version trees ledger

-- a desk's tables are found, of such a version and with such rows
abbrev pub HoldsSome : (Version → Ledger → Type 0) → Database → Type 0
HoldsSome May db = ∥ ((version : Version) × (ledger : Ledger) × May version ledger × HoldsAs version db ledger) ∥₁

-- of the newest version
abbrev pub OfNewest : (Ledger → Type 0) → Version → Ledger → Type 0
OfNewest May version ledger = (version ≡ newest) × May ledger

-- A connection was opened over two files that held what a crash left of another. That one numbered its tables, as each does whose disk gave back what was written (so
-- `Connection::into_store` says of one that is at hand).
pub record IsReopened {D E : Type 0} {g : disk.Ghosts D} {h : disk.Ghosts E} (last : Held (FileStore D g)) (found : Held (FileStore E h)) : Type 0 where
  pub bytes : Bytes
  pub left : (files.state last.store).may_leave bytes
  pub finds : FindsIn bytes (file_state found)
  pub opened : IsOpened found
  pub numbered : IsTrue (files.view last.store).is_numbered

-- what an opening makes of the tables of a book: one that a room keeps
abbrev pub OpensBook : Config → ℕ → Book → Book → Type 0
OpensBook config moment old new = (desk : LinkState) × opening.IsReopened config moment (image_of old) desk × (new ≡ desk.book) × IsKept new

-- the tables of a book as it was, or of what was made of it, with the replies as they were
abbrev pub IsEither : Book → (Book → Type 0) → List KeptAnswer → Ledger → Type 0
IsEither old Makes replies ledger = (ledger ≡ ledger_of old replies) ⊎ ((after : Book) × Makes after × (ledger ≡ ledger_of after replies))

-- a room that was opened over the tables of a book, or over those of what was made of it; the replies stayed
abbrev pub OpensEither : {S : Type 0} → Ghosts S → Book → (Book → Type 0) → List KeptAnswer → Config → ℕ → List Move → Standing S → Type 0
OpensEither g old Makes replies config moment moves room =
    ∥ ((book : Book) × ((book ≡ old) ⊎ Makes book) × OpensLeft g config moment (ledger_of book replies) moves room) ∥₁

-- a room that was opened over such tables, in which each reply that was kept is kept still
abbrev pub OpensKeeping : {S : Type 0} → Ghosts S → (Ledger → Type 0) → List KeptAnswer → Config → ℕ → List Move → Standing S → Type 0
OpensKeeping g May replies config moment moves room =
    ∥ ((ledger : Ledger) × May ledger × KeepsAll replies ledger.replies × OpensLeft g config moment ledger moves room) ∥₁

-- a crash leaves a database with no table
abbrev pub LeavesNone : {S : Type 0} → Ghosts S → Held S → Type 0
LeavesNone g tables = (trees : Trees) → (state g tables).may_leave trees → IsListed no_schema trees

-- a room that was opened over a database with no table, where nothing happened yet; or over the tables of an empty desk
abbrev pub OpensNew : {S : Type 0} → Ghosts S → Config → ℕ → List Move → Standing S → Type 0
OpensNew g config moment moves room = ∥ ((IsJustOpened g config room × (moves ≡ [])) ⊎ OpensLeft g config moment empty_ledger moves room) ∥₁

-- ---- what stood before, over the same kind of files

module _ {D : Type 0} {g : disk.Ghosts D} where
  -- What is found in files that hold what a crash left of a connection, whether a desk is opened over them then or not: the tables of the book and the replies that it left;
  -- and where the database failed at an act or a load, those of the book before or of the one that this makes.
  pub record FindsAgain (last found : Held (FileStore D g)) : Type 0 where
    pub kept : (book : Book) (replies : List KeptAnswer) → Leaves over_files last (λ ledger. ledger ≡ ledger_of book replies)
        → HoldsSome (OfNewest (λ ledger. ledger ≡ ledger_of book replies)) (file_state found).now
    pub act : (old : LinkState) (stamp : Stamp) (given : Act) (replies : List KeptAnswer) → LeavesActs over_files last old.book replies (MakesBook old stamp given)
        → HoldsSome (OfNewest (IsEither old.book (MakesBook old stamp given) replies)) (file_state found).now
    pub load : (old : LinkState) (stamp : Stamp) (given : Loading) (replies : List KeptAnswer) → LeavesActs over_files last old.book replies (LoadsBook old stamp given)
        → HoldsSome (OfNewest (IsEither old.book (LoadsBook old stamp given) replies)) (file_state found).now

  -- What a room has that was opened at a moment over such files, with the moves that this made: its desk is what an opening makes of what stood there, and the replies stay.
  pub record OpensAgain (config : Config) (moment : ℕ) (last : Held (FileStore D g)) (moves : List Move) (room : Standing (FileStore D g)) : Type 0 where
    -- of the tables of a book that a room keeps
    pub kept : (book : Book) (replies : List KeptAnswer) → IsKept book → Leaves over_files last (λ ledger. ledger ≡ ledger_of book replies)
        → ∥ OpensLeft over_files config moment (ledger_of book replies) moves room ∥₁
    -- where the database failed at an act or a load: of the book before, or of the one that this makes, which is one that a room keeps
    pub act : (old : LinkState) (stamp : Stamp) (given : Act) (replies : List KeptAnswer) → IsKept old.book → LeavesActs over_files last old.book replies (MakesBook old stamp given)
        → OpensEither over_files old.book (MakesBook old stamp given) replies config moment moves room
    pub load : (old : LinkState) (stamp : Stamp) (given : Loading) (replies : List KeptAnswer) → IsKept old.book → LeavesActs over_files last old.book replies (LoadsBook old stamp given)
        → OpensEither over_files old.book (LoadsBook old stamp given) replies config moment moves room
    -- of what was called under a number: all of it is there with its reply, or nothing of it, and each reply that was kept is kept
    pub call : (old : LinkState) (caller : Caller) (making : Making) (replies : List KeptAnswer) → IsKept old.book → Leaves over_files last (IsMadeOnce old.book replies caller (Makes old making))
        → OpensKeeping over_files (IsMadeOnce old.book replies caller (Makes old making)) replies config moment moves room
    -- after an opening that was refused, over tables of any version that held the rows of a book
    pub opening : (store : Held (FileStore D g)) (version : Version) (chosen : Config) (at : ℕ) (old : Book) (replies : List KeptAnswer) → IsKept old
        → HasLedgerAs over_files version store (ledger_of old replies) → LeavesOpening over_files chosen at store last → OpensEither over_files old (OpensBook chosen at old) replies config moment moves room
    -- after the making of a desk that was refused, in a database with no table
    pub anew : (store : Held (FileStore D g)) (chosen : Config) (at : ℕ) → (file_state store).now.schema ≡ no_schema → LeavesNone over_files store → LeavesOpening over_files chosen at store last
        → OpensNew over_files config moment moves room
    -- of whatever desk's tables a crash left, whichever rows they are read as (so it is a next room of the clause `once` of `tc_api::serve_one`)
    pub next : Leaves over_files last (λ ledger. ⊤)
        → (trees : Trees) × ∥ (file_state last).may_leave trees ∥₁ × ((ledger : Ledger) → IsTold ledger.image → HasRows trees ledger → OpensLeft over_files config moment ledger moves room)

  -- A room that was opened at a moment over a database in two files, and the moves that this made; and what it has where these held what a crash left of another connection, if
  -- the disk gave back what was written.
  pub record OpensFiles (config : Config) (moment : ℕ) (store : Held (FileStore D g)) (moves : List Move) (room : Standing (FileStore D g)) : Type 0 where
    pub opens : OpensAs over_files config moment store moves room
    pub again : HasCleanDisk (file_state room.tables) → (last : Held (FileStore D g)) → IsReopened last store → OpensAgain config moment last moves room
