-- The room: a desk whose book stands in tables too, until the tables fail.
use Rattle.std.specs.Prelude.{◌≡◌, ◌↔◌, ◌⊎◌, ℕ, true, false, None, MatchBool, IsTrue, Result, Ok, Err, List, []}
use Rattle.sqlite_trees.specs.declared.store.Store.{Ghosts}
use Rattle.sqlite.specs.Held.{state}
use Rattle.sqlite.specs.State.{HasCleanDisk}
use Rattle.tc_types.specs.declared.link.frames.Frame.{Frame}
use Rattle.tc_types.specs.declared.link.reports.Report.{Report}
use Rattle.tc_types.specs.declared.refusals.Refusal.{Refusal}
use Rattle.tc_types.specs.declared.refusals.Refusal.TheVariants.{Store, Stopped}
use Rattle.tc_types.specs.declared.acts.Act.{Act}
use Rattle.tc_types.specs.declared.acts.Act.TheVariants as act
use Rattle.tc_types.specs.declared.acts.Query.TheVariants as query
use Rattle.tc_world.specs.EitherLink.{IsMade, either}
use Rattle.tc_book.specs.declared.stamps.Stamp.{Stamp}
use Rattle.tc_book.specs.Book.{Book}
use Rattle.tc_world.specs.declared.configs.Config.{Config}
use Rattle.tc_desk.specs.State.{new_desk}
use Rattle.tc_desk.specs.Acts.{refusal_of}
use Rattle.tc_desk.specs.Promise.{KeepsPromise}
use Rattle.tc_desk.specs.Machine.{DeskStep}
use Rattle.tc_desk.specs.Replies.{Reply, refusal_reply, requests_in}
use Rattle.tc_urgent.specs.Pages.{ShowsUrgent}
use Rattle.tc_store.specs.Ledgers.{KeptAnswer}
use Rattle.tc_store.specs.Schema.{Holds}
use Rattle.tc_room.specs.Crash.{LeavesActs, ledger_of}
use Rattle.tc_room.specs.Joined.{HasLedger, HoldsBook, IsKept, Link, LinkState, Standing, desk_in}

-- a desk where nothing happened yet, over links of the kind that was chosen, with nothing in flight
abbrev pub IsNewDesk : Config → LinkState → Type 0
IsNewDesk config desk =
    (up : Link Frame) × (down : Link Report) × IsMade config.ring up × IsMade config.ring down × (desk ≡ new_desk config up down)

-- a room that was just opened over a database with no table: nothing happened on its desk yet, and its tables hold nothing
pub record IsJustOpened {S : Type 0} (g : Ghosts S) (config : Config) (room : Standing S) : Type 0 where
  pub desk : IsNewDesk config room.desk
  pub opened : room.opened ≡ 0
  pub whole : room.whole ≡ true
  pub tables : HoldsBook g room []
  pub going : room.stopped ≡ false

-- A reply to `urgent` shows the page by the moves that stood once this room was opened, or refuses.
abbrev pub TellsUrgent : {S : Type 0} → Standing S → Act → Reply → Type 0
TellsUrgent room given reply = (from : ℕ) → given ≡ act.Ask (query.Urgent from)
    → ((refusal : Refusal) × (reply ≡ refusal_reply refusal)) ⊎ ShowsUrgent room.desk.book room.opened (requests_in room.desk.mirror) from reply

-- the desk machine made a step, and the tables hold its book, with the replies as they were
pub record StepsDesk {S : Type 0} (g : Ghosts S) (replies : List KeptAnswer) (old : Standing S) (stamp : Stamp) (given : Act) (reply : Reply) (new : Standing S) : Type 0 where
  pub desk : DeskStep either either old.desk stamp given reply new.desk
  pub urgent : TellsUrgent old given reply
  pub tables : HasLedger g new.tables (ledger_of new.desk.book replies)
  -- as many rows stood once the desk was made
  pub opened : new.opened ≡ old.opened
  pub going : new.stopped ≡ false

-- one step of the desk machine makes this book, which is one that a room keeps
abbrev pub MakesBook : LinkState → Stamp → Act → Book → Type 0
MakesBook old stamp given book = (reply : Reply) × (new : LinkState) × DeskStep either either old stamp given reply new × (book ≡ new.book) × IsKept book

-- The database failed at what no test refused, and the room has stopped. Its tables hold the book as it was before, where the database is still
-- open. After a crash they hold that, or what was asked is there as a whole.
pub record FailsStore {S : Type 0} (g : Ghosts S) (replies : List KeptAnswer) (old : Standing S) (stamp : Stamp) (given : Act) (told : Reply) (new : Standing S) : Type 0 where
  pub free : refusal_of stamp old.desk given ≡ None
  pub reply : told ≡ refusal_reply Store
  pub stopped : new.stopped ≡ true
  pub tables : IsTrue (state g new.tables).is_open → Holds (state g new.tables).now (ledger_of old.desk.book replies)
  pub crash : LeavesActs g new.tables old.desk.book replies (MakesBook old.desk stamp given)
  pub opened : new.opened ≡ old.opened

-- One step of a room whose tables hold its book, over a disk that gave back what was written: a room that has stopped says so and stays as it
-- was; else an act or a question is answered as the desk machine answers it, or the database fails. Whatever replies are kept, they stay.
abbrev pub RoomStep : {S : Type 0} → Ghosts S → Standing S → Stamp → Act → Reply → Standing S → Type 0
RoomStep g old stamp given reply new = (replies : List KeptAnswer) → HoldsBook g old replies → HasCleanDisk (state g new.tables) → MatchBool old.stopped
    ((reply ≡ refusal_reply Stopped) × (new ≡ old))
    (StepsDesk g replies old stamp given reply new ⊎ FailsStore g replies old stamp given reply new)

-- the answer to a step, of which the lines of a reply are made
abbrev pub AnswersStep : {X S : Type 0} → (X → Reply) → Ghosts S → Standing S → Stamp → Act → Standing S → Result X Refusal → Type 0
AnswersStep lines g old stamp given new (Ok answer) = RoomStep g old stamp given (lines answer) new
AnswersStep lines g old stamp given new (Err refusal) = RoomStep g old stamp given (refusal_reply refusal) new

-- Whatever the tables hold and the disk gave back: a room stops exactly with an answer 31, for good, and 32 is answered only by one that has
-- stopped, which stays as it was.
pub record Stops {X S : Type 0} (old : Standing S) (result : Result X Refusal) (new : Standing S) : Type 0 where
  pub stopped : (new.stopped ≡ true) ↔ ((old.stopped ≡ true) ⊎ (result ≡ Err Store))
  pub same : result ≡ Err Stopped → (old.stopped ≡ true) × (new ≡ old)

-- What the desk of a room answers to a question, whoever asks, with no look at the tables: a step of the room, and, whatever the tables hold, 32 only where it has
-- stopped, and 31 never where it goes on.
pub record AsksDesk {X S : Type 0} (lines : X → Reply) (g : Ghosts S) (room : Standing S) (given : Act) (result : Result X Refusal) : Type 0 where
  pub answered : (stamp : Stamp) → AnswersStep lines g room stamp given room result
  pub stops : Stops room result room

-- What every call of a room keeps to: it stops with an answer 31 alone; as many rows of the history stood once it was opened; the promise
-- is kept; and its book is one that a room keeps.
pub record Keeps {X S : Type 0} (old : Standing S) (result : Result X Refusal) (new : Standing S) : Type 0 where
  pub stops : Stops old result new
  pub opened : new.opened ≡ old.opened
  pub promise : KeepsPromise either (desk_in new)
  pub kept : IsKept new.desk.book

-- What a question leaves, also where the tables failed: the desk as it was, and a disk that gives back what was written now gave it back before.
pub record LeavesDesk {S : Type 0} (g : Ghosts S) (old new : Standing S) : Type 0 where
  pub desk : desk_in new ≡ desk_in old
  pub clean : HasCleanDisk (state g new.tables) → HasCleanDisk (state g old.tables)

-- what a call keeps to that only looks into the tables
pub record LooksOnly {X S : Type 0} (g : Ghosts S) (old : Standing S) (result : Result X Refusal) (new : Standing S) : Type 0 where
  pub keeps : Keeps old result new
  pub leaves : LeavesDesk g old new
