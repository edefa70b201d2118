-- The run of a script on a desk that is kept in a database.
use Rattle.std.specs.Prelude.{◌≡◌, ◌≢◌, ◌⊎◌, ℕ, Bool, IsTrue, Option, List, [], map}
use Rattle.std.specs.Io.KnownBytes.{Appends}
use Rattle.sqlite_trees.specs.declared.store.Store.{Ghosts}
use Rattle.sqlite_store.specs.declared.store.FileStore.{FileStore}
use Rattle.sqlite_disk.specs.declared.Disk as disk
use Rattle.sqlite.specs.Files.{over_files}
use Rattle.sqlite.specs.Held.{Held, state}
use Rattle.sqlite.specs.State.{HasCleanDisk}
use Rattle.tc_sql.specs.Builds.{no_schema}
use Rattle.tc_types.specs.Lines.{move_line}
use Rattle.tc_types.specs.declared.history.moves.Move.{Move}
use Rattle.tc_world.specs.declared.configs.Config as configs
use Rattle.tc_world.specs.EitherLink.{either}
use Rattle.tc_desk.specs.Promise.{KeepsPromise}
use Rattle.tc_store.specs.declared.versions.Version.{Version}
use Rattle.tc_store.specs.Schema.{IsSchemaOf}
use Rattle.tc_room.specs.Joined.{Standing, desk_in}
use Rattle.tc_room.specs.Opening.{KeepsTables, LeavesOpening}
use Rattle.tc_room.specs.Replies.{ended}
use Rattle.tc_closed.specs.Files.{FileAnswer, Gives}
use Rattle.tc_run.specs.Crash.{FindsAgain, IsReopened, OpensFiles}
use Rattle.tc_run.specs.Run.{RunsLines}
use Rattle.tc_run.specs.Stops.{IsCutShort, IsUnopened, IsUntouched, StopsAfter}
use Rattle.tc_closed.specs.declared.scripts.ScriptFault.{ScriptFault}
use Rattle.tc_closed.specs.declared.scripts.ScriptFault.TheVariants.{Output, Memory}

-- the lines of the moves that an opening made
abbrev pub opening_text : List Move → List ℕ
opening_text moves = ended (map move_line moves)

-- what a fault leaves of them: where a write failed a front, and where memory was refused nothing
abbrev pub CutsOpening : ScriptFault → List Move → List ℕ → Type 0
CutsOpening Output moves part = IsCutShort (opening_text moves) part
CutsOpening Memory moves part = part ≡ []
CutsOpening _ moves part = ⊥

-- What an opening that was refused leaves of a database: the tables that stood, where it is still open; after a crash these, or the whole of the
-- opening; and where they are no desk's, the connection as it was.
pub record StaysUnopened {S : Type 0} (g : Ghosts S) (config : configs.Config) (moment : ℕ) (store left : Held S) : Type 0 where
  pub kept : HasCleanDisk (state g left) → IsTrue (state g left).is_open → KeepsTables (state g store).now (state g left).now
  pub crash : HasCleanDisk (state g left) → LeavesOpening g config moment store left
  pub foreign : (state g store).now.schema ≢ no_schema → ((version : Version) → ¬ IsSchemaOf version (state g store).now.schema) → left ≡ store

module _ {S : Type 0} (g : Ghosts S) where
  -- In a room that was opened, the moves of the opening are written, and then what the lines are answered.
  abbrev pub RunsOpened : Bool → Standing S → List Move → List ℕ → ℕ → Option (List FileAnswer) → Option (List FileAnswer) → Option (List ℕ) → Option (List ℕ) → Standing S → Type 0
  RunsOpened echo room moves input status gave gives old new after = (mid : Option (List ℕ)) × Appends old mid (opening_text moves) × RunsLines g echo room input status gave gives mid new after

  -- it stopped at the moves of the opening, and the room is as it was opened; or after some of the lines
  abbrev pub StopsOpened : Bool → Standing S → List Move → ScriptFault → List (List ℕ) → Option (List FileAnswer) → Option (List FileAnswer) → Option (List ℕ) → Option (List ℕ) → Standing S → Type 0
  StopsOpened echo room moves fault lines gave gives old new after =
      ((part : List ℕ) × CutsOpening fault moves part × Gives gave gives [] × Appends old new part × (after ≡ room))
      ⊎ ((mid : Option (List ℕ)) × Appends old mid (opening_text moves) × StopsAfter g echo fault room lines gave gives mid new after)

-- over two files
module _ {D : Type 0} {h : disk.Ghosts D} where
  -- what one leaves of two files; and where these held what a crash left of another connection, they had what stood there
  pub record StaysInFiles (config : configs.Config) (moment : ℕ) (store left : Held (FileStore D h)) : Type 0 where
    pub stays : StaysUnopened over_files config moment store left
    pub found : (last : Held (FileStore D h)) → IsReopened last store → FindsAgain last store

  -- The lines were run in a room that was opened at a moment over a database, and the connection is the one that this room has in the end.
  abbrev pub RunsKept : Bool → configs.Config → ℕ → Held (FileStore D h) → List ℕ → ℕ → Option (List FileAnswer) → Option (List FileAnswer) → Option (List ℕ) → Option (List ℕ) → Held (FileStore D h) → Type 0
  RunsKept echo config moment store input status gave gives old new left =
      (room : Standing (FileStore D h)) × (moves : List Move) × (after : Standing (FileStore D h)) × OpensFiles config moment store moves room
      × RunsOpened over_files echo room moves input status gave gives old new after × (left ≡ after.tables)

  -- The desk was not opened, nothing was written, and the database is as that leaves it; or the run stopped in a room that was opened so, and the
  -- connection is the one that this room has in the end; README's promise is kept there.
  abbrev pub StopsKept : Bool → configs.Config → ℕ → Held (FileStore D h) → ScriptFault → List (List ℕ) → Option (List FileAnswer) → Option (List FileAnswer) → Option (List ℕ) → Option (List ℕ) → Held (FileStore D h) → Type 0
  StopsKept echo config moment store fault lines gave gives old new left =
      (IsUnopened config fault × IsUntouched gave gives old new × StaysInFiles config moment store left)
      ⊎ ((room : Standing (FileStore D h)) × (moves : List Move) × (after : Standing (FileStore D h)) × OpensFiles config moment store moves room
      × StopsOpened over_files echo room moves fault lines gave gives old new after × (left ≡ after.tables) × KeepsPromise either (desk_in after))

  -- The desk was not opened, nothing was written, and the database is as that leaves it; or the moves of its opening could not be written. Then the
  -- connection is the one of the room that was opened, and README's promise is kept there.
  abbrev pub StopsTold : configs.Config → ℕ → Held (FileStore D h) → ScriptFault → Option (List ℕ) → Option (List ℕ) → Held (FileStore D h) → Type 0
  StopsTold config moment store fault old new left =
      (IsUnopened config fault × Appends old new [] × StaysInFiles config moment store left)
      ⊎ ((room : Standing (FileStore D h)) × (moves : List Move) × (part : List ℕ) × OpensFiles config moment store moves room
      × CutsOpening fault moves part × Appends old new part × (left ≡ room.tables) × KeepsPromise either (desk_in room))
