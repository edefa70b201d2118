-- The shift report of tables alone, over which no desk is opened.
use Rattle.std.specs.Prelude.{◌≡◌, ◌≤◌, ◌++◌, IsTrue, IfOk, IfSome, OnOk, ℕ, Option, Result, List, [], length, map, codes}
use Rattle.sqlite_trees.specs.declared.store.Store.{Ghosts}
use Rattle.sqlite.specs.Held.{Held, state}
use Rattle.sqlite.specs.State.{HasCleanDisk, Survives}
use Rattle.tc_types.specs.declared.history.moves.Move.{Move}
use Rattle.tc_types.specs.declared.tables.rows.Tally.{Tally}
use Rattle.tc_types.specs.History.{shift_rows}
use Rattle.tc_types.specs.Tables.{Image}
use Rattle.tc_report.specs.ShiftReport.{AreAdded, IsReport, IsReportHead}
use Rattle.tc_report.specs.Texts.{AreLines, ended}
use Rattle.tc_store.specs.declared.versions.Version.{Version}
use Rattle.tc_store.specs.declared.versions.Layout.{Layout}
use Rattle.tc_store.specs.Ledgers.{Ledger}
pub use Rattle.tc_store.specs.Faults.{told_as}
use Rattle.tc_store.specs.Loads.{moves_behind, moves_left, page_size}
use Rattle.tc_store.specs.Schema.{schema_of, HoldsAs}
use Rattle.tc_store.specs.Shows.{ShowsAll}
use Rattle.tc_store.specs.Told.{IsTold}

-- how many requests stand at each place, as the tallies say
abbrev pub amounts : Image → List ℕ
amounts image = map (λ (t : Tally). t.amount) image.tallies

-- what is said where no desk is there to say what holds of a link
abbrev pub closed_word : List ℕ
closed_word = codes "closed"

-- the text of the report of a shift over these tables, of which no line has an LF in it
abbrev pub IsClosedReport : Image → ℕ → ℕ → List ℕ → Type 0
IsClosedReport image from to text = (lines : List (List ℕ)) × IsReport closed_word (amounts image) image.moves from to lines × AreLines lines × (text ≡ ended lines)

-- its text before the lines of the moves
abbrev pub IsClosedHead : Image → ℕ → ℕ → List ℕ → Type 0
IsClosedHead image from to text = (lines : List (List ℕ)) × IsReportHead closed_word (amounts image) (length (shift_rows from to image.moves)) from to lines × AreLines lines × (text ≡ ended lines)

-- The lines of some of the moves, 1,000 at most, and so many where more follow: whatever came before, they go on from there, and what comes
-- behind `next` is what they leave.
pub record IsClosedPage (image : Image) (from to : ℕ) (after next : Option ℕ) (text : List ℕ) : Type 0 where
  pub rows : List Move
  pub added : AreAdded rows [] text
  pub few : length rows ≤ page_size
  pub full : IfSome next (λ _. length rows ≡ page_size)
  pub goes_on : (before : List Move) → before ++ moves_behind after (shift_rows from to image.moves) ≡ shift_rows from to image.moves
      → (before ++ rows) ++ moves_left next (shift_rows from to image.moves) ≡ shift_rows from to image.moves

-- what a call that only reads leaves: the tables hold what they held
pub record OnlyReads {S : Type 0} (g : Ghosts S) (old new : Held S) : Type 0 where
  pub holds : HasCleanDisk (state g new) → (version : Version) (ledger : Ledger) → HoldsAs version (state g old).now ledger → HoldsAs version (state g new).now ledger
  pub clean : HasCleanDisk (state g new) → HasCleanDisk (state g old)

-- What it leaves where it fails too: as long as the connection is open the tables hold what they held, and a crash leaves no other tables than before.
pub record LeavesTables {S : Type 0} (g : Ghosts S) (old new : Held S) : Type 0 where
  pub holds : HasCleanDisk (state g new) → IsTrue (state g new).is_open → (version : Version) (ledger : Ledger) → HoldsAs version (state g old).now ledger → HoldsAs version (state g new).now ledger
  pub crash : HasCleanDisk (state g new) → (version : Version) (ledger : Ledger) → HoldsAs version (state g old).now ledger → Survives (state g old) (state g new) (λ _. ⊥)
  pub clean : HasCleanDisk (state g new) → HasCleanDisk (state g old)

-- What a call that only reads the tables tells of the rows that they hold, if the disk gave back what was written, and what it leaves.
pub record ReadsClosed {S T E : Type 0} (g : Ghosts S) (Tells : Image → T → Type 0) (result : Result T E) (old new : Held S) : Type 0 where
  pub told : HasCleanDisk (state g new) → IfOk result (λ found. (version : Version) (ledger : Ledger) → HoldsAs version (state g old).now ledger → Tells ledger.image found)
  pub reads : OnOk result (OnlyReads g old new)
  pub left : LeavesTables g old new

-- tables of a version whose rows all read as rows that a desk writes
abbrev pub AreJudged : {S : Type 0} → Ghosts S → Version → Held S → Type 0
AreJudged g version at = (layout : Layout) → (state g at).now.schema ≡ schema_of layout version → (image : Image) × ShowsAll layout version (state g at).now image × IsTold image
