-- What opens a room over tables that were left.
use Rattle.std.specs.Prelude.{◌≡◌, ℕ, true, false, List, [], drop, length}
use Rattle.std.specs.List.{AllByRecursion}
use Rattle.sqlite_trees.specs.Tree.{Trees}
use Rattle.sqlite_trees.specs.declared.store.Store.{Ghosts}
use Rattle.sqlite.specs.Effect.{Database}
use Rattle.sqlite.specs.Held.{Held, state}
use Rattle.sqlite.specs.State.{HasCleanDisk}
use Rattle.tc_sql.specs.Builds.{no_schema}
use Rattle.tc_types.specs.declared.link.frames.Frame.{Frame}
use Rattle.tc_types.specs.declared.link.reports.Report.{Report}
use Rattle.tc_types.specs.declared.history.moves.Move.{Move}
use Rattle.tc_types.specs.declared.tables.rows.Row.{Row}
use Rattle.tc_types.specs.Tables.{Image, applied}
use Rattle.tc_world.specs.EitherLink.{IsMade}
use Rattle.tc_book.specs.Sound.{IsSound}
use Rattle.tc_book.specs.Tables.{image_of}
use Rattle.tc_world.specs.declared.configs.Config.{Config}
use Rattle.tc_desk.specs.Opening.{reopened_parts}
use Rattle.tc_store.specs.declared.versions.Version.{Version}
use Rattle.tc_store.specs.Ledgers.{Ledger, IsKeptAnswer, empty_ledger}
use Rattle.tc_store.specs.Schema.{layout_in, IsSchemaOf, HoldsAs}
use Rattle.tc_store.specs.Shows.{ShowsAll}
use Rattle.tc_store.specs.Told.{IsTold}
use Rattle.tc_room.specs.Crash.{HasRows, LeavesOr, ledger_of}
use Rattle.tc_room.specs.Joined.{HasLedger, IsKept, Link, LinkState, Standing}
use Rattle.tc_room.specs.Room.{IsJustOpened}

-- a desk as it is opened at a moment over these tables, over links of the kind that was chosen, with nothing in flight
abbrev pub IsReopened : Config → ℕ → Image → LinkState → Type 0
IsReopened config moment image desk =
    (up : Link Frame) × (down : Link Report) × IsMade config.ring up × IsMade config.ring down × (desk ≡ reopened_parts config moment image up down)

-- A desk that was opened at a moment over tables with these rows, which a desk could have written, the moves that this made, and the batch that
-- turns the tables into those of its book.
pub record ReadsLeft (config : Config) (moment : ℕ) (image : Image) (desk : LinkState) (moves : List Move) (batch : List Row) : Type 0 where
  pub sound : IsSound image
  pub reopened : IsReopened config moment image desk
  pub made : moves ≡ drop (length image.moves) desk.book.history
  pub writes : applied batch image ≡ image_of desk.book

-- tables of a version that show rows as a desk writes them, and no others
abbrev pub ShowsDesk : Version → Database → Type 0
ShowsDesk version db = IsSchemaOf version db.schema × (rows : Image) × IsTold rows × ShowsAll (layout_in db) version db rows

-- A room that was opened at a moment over tables with these rows, which a desk could have written, and the moves that this made: its desk is what
-- the opening makes of them, and its tables are of the newest version, and hold its book and the replies as they were.
pub record OpensLeft {S : Type 0} (g : Ghosts S) (config : Config) (moment : ℕ) (ledger : Ledger) (moves : List Move) (room : Standing S) : Type 0 where
  pub sound : IsSound ledger.image
  pub kept : AllByRecursion IsKeptAnswer ledger.replies
  pub reopened : IsReopened config moment ledger.image room.desk
  pub opened : room.opened ≡ length room.desk.book.history
  pub whole : room.whole ≡ true
  pub made : moves ≡ drop (length ledger.image.moves) room.desk.book.history
  pub tables : HasLedger g room.tables (ledger_of room.desk.book ledger.replies)
  pub going : room.stopped ≡ false

-- A room that was opened at a moment over a database, and the moves that this made: over one with no table nothing happened yet, and none was
-- made; over tables of any version that hold a ledger, if the disk gave back what was written, they are what that leaves.
pub record OpensAs {S : Type 0} (g : Ghosts S) (config : Config) (moment : ℕ) (store : Held S) (moves : List Move) (room : Standing S) : Type 0 where
  pub anew : (state g store).now.schema ≡ no_schema → IsJustOpened g config room × (moves ≡ [])
  pub left : HasCleanDisk (state g room.tables) → (version : Version) (ledger : Ledger) → IsTold ledger.image → HoldsAs version (state g store).now ledger → OpensLeft g config moment ledger moves room

-- a database that has the tables of a desk, or none at all, has what it had, of the version that it was of
pub record KeepsTables (old new : Database) : Type 0 where
  pub empty : old.schema ≡ no_schema → new ≡ old
  pub held : (version : Version) (ledger : Ledger) → HoldsAs version old ledger → HoldsAs version new ledger

-- the tables of the desk that is opened at a moment over tables with these rows, whose book is one that a room keeps
abbrev pub OpensTo : Config → ℕ → Ledger → Trees → Type 0
OpensTo config moment ledger trees = IsTold ledger.image → IsSound ledger.image × AllByRecursion IsKeptAnswer ledger.replies × (desk : LinkState) × IsReopened config moment ledger.image desk
    × IsKept desk.book × HasRows trees (ledger_of desk.book ledger.replies)

-- What a crash leaves of an opening that was refused: what it left before, or the whole of what an opening makes of it.
pub record LeavesOpening {S : Type 0} (g : Ghosts S) (config : Config) (moment : ℕ) (store left : Held S) : Type 0 where
  pub anew : (state g store).now.schema ≡ no_schema → LeavesOr g store left (λ trees. HasRows trees empty_ledger)
  pub held : (version : Version) (ledger : Ledger) → HoldsAs version (state g store).now ledger → LeavesOr g store left (OpensTo config moment ledger)
