-- What joins a desk and its tables.
use Rattle.std.specs.Prelude.{◌≡◌, ℕ, Bool, true, false, List}
use Rattle.std.specs.declared.alloc.Global.{Global}
use Rattle.sqlite_trees.specs.declared.store.Store.{Ghosts}
use Rattle.sqlite.specs.Held.{Held, state}
use Rattle.sqlite.specs.State.{HasCleanDisk}
use Rattle.tc_types.specs.declared.link.frames.Frame.{Frame}
use Rattle.tc_types.specs.declared.link.reports.Report.{Report}
use Rattle.tc_world.specs.declared.link_carriers.LinkCarrier.{LinkCarrier}
use Rattle.tc_world.specs.EitherLink.{content_of}
use Rattle.tc_board.specs.Mirror.{mirror_of}
use Rattle.tc_book.specs.Book.{Book}
use Rattle.tc_book.specs.Conserved.{IsConserved}
use Rattle.tc_book.specs.Good.{IsGoodBook}
use Rattle.tc_book.specs.Sound.{IsSound}
use Rattle.tc_book.specs.Tables.{image_of}
use Rattle.tc_desk.specs.Followed.{mirror_through}
use Rattle.tc_desk.specs.State.{DeskState, State}
use Rattle.tc_store.specs.Ledgers.{KeptAnswer, Ledger}
use Rattle.tc_store.specs.Schema.{Holds}
use Rattle.tc_store.specs.Told.{IsTold}
use Rattle.tc_room.specs.Crash.{Leaves, ledger_of}

-- a direction of a room's link: a list or a ring
abbrev pub Link : Type 0 → Type 0
Link item = LinkCarrier item Global

-- a desk over such links
abbrev pub LinkState : Type 0
LinkState = State (Link Frame) (Link Report)

-- where a room over a store stands: its desk, its tables, and whether it has stopped
pub record Standing (S : Type 0) : Type 0 where
  pub desk : LinkState
  -- how many rows of the history stood once the desk was made
  pub opened : ℕ
  -- whether all that was put on the downlink since was read, or flies
  pub whole : Bool
  pub tables : Held S
  pub stopped : Bool

-- the desk of a room
abbrev pub desk_in : {S : Type 0} → Standing S → DeskState (Link Frame) (Link Report)
desk_in room = record { parts = room.desk; opened = room.opened; whole = room.whole }

-- while nothing of the downlink was lost, the mirror becomes the on-board schedule once what flies is read
abbrev pub FollowsBoard : {S : Type 0} → Standing S → Type 0
FollowsBoard room =
    room.whole ≡ true → mirror_through room.desk.book (content_of room.desk.world.down) room.desk.mirror ≡ mirror_of room.desk.board.schedule

-- tables that hold these rows and no other, also after a crash
pub record HasLedger {S : Type 0} (g : Ghosts S) (tables : Held S) (ledger : Ledger) : Type 0 where
  pub holds : Holds (state g tables).now ledger
  pub leaves : Leaves g tables (λ left. left ≡ ledger)

-- While a room goes on, its tables hold the book of its desk and these replies, if the disk gave back what was written. A room that has stopped
-- knows nothing of them.
abbrev pub HoldsBook : {S : Type 0} → Ghosts S → Standing S → List KeptAnswer → Type 0
HoldsBook g room replies = room.stopped ≡ false → HasCleanDisk (state g room.tables) → HasLedger g room.tables (ledger_of room.desk.book replies)

-- A book that the desk could have written, with a history row for each move, numbered in order, that says where its
-- request stood; its tables are such as an opening takes, and their columns tell their rows; each request that was entered
-- stands at a place, and the counts of the fifteen places sum to those entered.
pub record IsKept (book : Book) : Type 0 where
  pub good : IsGoodBook book
  pub sound : IsSound (image_of book)
  pub told : IsTold (image_of book)
  pub conserved : IsConserved book.history
