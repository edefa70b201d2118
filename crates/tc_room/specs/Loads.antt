-- The load of a stack or of a procedure in a room: its text is read, the desk takes all of it, and the tables hold it.
use Rattle.std.specs.Prelude.{◌≡◌, ◌⊎◌, ℕ, true, false, None, MatchBool, IsTrue, Result, Ok, Err, List}
use Rattle.sqlite_trees.specs.declared.store.Store.{Ghosts}
use Rattle.sqlite.specs.Held.{state}
use Rattle.sqlite.specs.State.{HasCleanDisk}
use Rattle.tc_types.specs.declared.loads.LoadKind.{LoadKind}
use Rattle.tc_types.specs.declared.loads.LoadKind.TheVariants as kind
use Rattle.tc_types.specs.declared.refusals.Refusal.{Refusal}
use Rattle.tc_types.specs.declared.refusals.Refusal.TheVariants.{Memory, Store, Stopped, TooLong}
use Rattle.tc_types.specs.Loads.{LoadLine}
use Rattle.tc_csv.specs.declared.faults.Fault.{Fault}
use Rattle.tc_csv.specs.Faults.{rule_refusal}
use Rattle.tc_stack.specs.declared.stacks.StackRow.{StackRow}
use Rattle.tc_csv.specs.StackTexts.{SpellsStack, IsStackFault}
use Rattle.tc_proc.specs.declared.procedures.Step.{Step}
use Rattle.tc_csv.specs.ProcedureTexts.{SpellsProcedure, IsProcedureFault}
use Rattle.tc_book.specs.declared.stamps.Stamp.{Stamp}
use Rattle.tc_book.specs.Acts.{first_refusal}
use Rattle.tc_book.specs.Book.{Book}
use Rattle.tc_desk.specs.Loads.{Loading, Stack, Procedure, LoadStep, tests_of_load}
use Rattle.tc_desk.specs.Replies.{Reply, refusal_reply}
use Rattle.tc_room.specs.declared.loadings.Spelled.{Spelled}
use Rattle.tc_room.specs.declared.loadings.Spelled.TheVariants as spelled
use Rattle.tc_store.specs.Ledgers.{KeptAnswer}
use Rattle.tc_store.specs.Schema.{Holds}
use Rattle.tc_room.specs.Crash.{LeavesActs, ledger_of}
use Rattle.tc_room.specs.Joined.{HasLedger, HoldsBook, IsKept, LinkState, Standing}

-- what was read of a text, under a name
abbrev pub loading_of : List ℕ → Spelled → Loading
loading_of name (spelled.Stack rows) = Stack name rows
loading_of name (spelled.Procedure steps) = Procedure name steps

-- a text of this kind spells what is loaded under a name
abbrev pub SpellsLoading : LoadKind → List ℕ → List ℕ → Loading → Type 0
SpellsLoading kind.Stack name text given = (rows : List StackRow) × SpellsStack text rows × (given ≡ Stack name rows)
SpellsLoading kind.Procedure name text given = (steps : List Step) × SpellsProcedure text steps × (given ≡ Procedure name steps)

-- what is wrong with a text of this kind that spells nothing
abbrev pub IsTextFault : LoadKind → List ℕ → Fault → Type 0
IsTextFault kind.Stack text fault = IsStackFault text fault
IsTextFault kind.Procedure text fault = IsProcedureFault text fault

-- a text of this kind is refused as too long: that is the first rule that it breaks
abbrev pub IsTooLong : LoadKind → List ℕ → Type 0
IsTooLong kind text = (fault : Fault) × IsTextFault kind text fault × (rule_refusal fault.rule ≡ TooLong)

-- why a text is not read: it breaks a rule, the first that it breaks, or memory was refused
abbrev pub IsNotRead : LoadKind → List ℕ → Refusal → Type 0
IsNotRead kind text refusal = (refusal ≡ Memory) ⊎ ((fault : Fault) × IsTextFault kind text fault × (refusal ≡ rule_refusal fault.rule))

-- the desk machine made a load, and the tables hold its book
pub record StepsLoad {S : Type 0} (g : Ghosts S) (replies : List KeptAnswer) (old : Standing S) (stamp : Stamp) (given : Loading) (reply : Reply) (new : Standing S) : Type 0 where
  pub desk : LoadStep old.desk stamp given reply new.desk
  pub tables : HasLedger g new.tables (ledger_of new.desk.book replies)
  -- as many rows stood once the desk was made, and nothing more of the downlink is lost
  pub opened : new.opened ≡ old.opened
  pub whole : new.whole ≡ old.whole
  pub going : new.stopped ≡ false

-- one load makes this book, which is one that a room keeps
abbrev pub LoadsBook : LinkState → Stamp → Loading → Book → Type 0
LoadsBook old stamp given book = (reply : Reply) × (new : LinkState) × LoadStep old stamp given reply new × (book ≡ new.book) × IsKept book

-- The database failed at a load that no test refused, and the room has stopped. Its tables hold the book as it was before, where the database is
-- still open. After a crash they hold that, or the load is there as a whole.
pub record FailsLoad {S : Type 0} (g : Ghosts S) (replies : List KeptAnswer) (old : Standing S) (stamp : Stamp) (given : Loading) (told : Reply) (new : Standing S) : Type 0 where
  pub free : first_refusal (tests_of_load stamp old.desk.book given) ≡ None
  pub reply : told ≡ refusal_reply Store
  pub stopped : new.stopped ≡ true
  pub tables : IsTrue (state g new.tables).is_open → Holds (state g new.tables).now (ledger_of old.desk.book replies)
  pub crash : LeavesActs g new.tables old.desk.book replies (LoadsBook old.desk stamp given)
  pub opened : new.opened ≡ old.opened
  pub whole : new.whole ≡ old.whole

-- what was read is loaded, or refused, or the database fails
abbrev pub LoadsRead : {S : Type 0} → Ghosts S → List KeptAnswer → Standing S → Stamp → Loading → Reply → Standing S → Type 0
LoadsRead g replies old stamp given reply new = StepsLoad g replies old stamp given reply new ⊎ FailsLoad g replies old stamp given reply new

-- a text that spells nothing of its kind changes nothing, and what another spells is loaded
abbrev pub LoadsText : {S : Type 0} → Ghosts S → List KeptAnswer → Standing S → Stamp → LoadKind → List ℕ → List ℕ → Reply → Standing S → Type 0
LoadsText g replies old stamp kind name text reply new =
    ((refusal : Refusal) × IsNotRead kind text refusal × (reply ≡ refusal_reply refusal) × (new ≡ old))
    ⊎ ((given : Loading) × SpellsLoading kind name text given × LoadsRead g replies old stamp given reply new)

-- One load in a room whose tables hold its book, over a disk that gave back what was written: a room that has stopped says so and stays as it
-- was. Whatever replies are kept, they stay.
abbrev pub RoomLoad : {S : Type 0} → Ghosts S → Standing S → Stamp → LoadKind → List ℕ → List ℕ → Reply → Standing S → Type 0
RoomLoad g old stamp kind name text reply new = (replies : List KeptAnswer) → HoldsBook g old replies → HasCleanDisk (state g new.tables) → MatchBool old.stopped
    ((reply ≡ refusal_reply Stopped) × (new ≡ old))
    (LoadsText g replies old stamp kind name text reply new)

-- the answer to a load, of which the lines of a reply are made: of what was read, in a room that goes on, and of a text
abbrev pub AnswersRead : {X S : Type 0} → (X → Reply) → Ghosts S → List KeptAnswer → Standing S → Stamp → Loading → Standing S → Result X Refusal → Type 0
AnswersRead lines g replies old stamp given new (Ok answer) = LoadsRead g replies old stamp given (lines answer) new
AnswersRead lines g replies old stamp given new (Err refusal) = LoadsRead g replies old stamp given (refusal_reply refusal) new

abbrev pub AnswersLoad : {X S : Type 0} → (X → Reply) → Ghosts S → Standing S → Stamp → LoadKind → List ℕ → List ℕ → Standing S → Result X Refusal → Type 0
AnswersLoad lines g old stamp kind name text new (Ok answer) = RoomLoad g old stamp kind name text (lines answer) new
AnswersLoad lines g old stamp kind name text new (Err refusal) = RoomLoad g old stamp kind name text (refusal_reply refusal) new

-- who loads, and when
abbrev pub loader_of : LoadLine → Stamp
loader_of line = record { by = line.by; moment = line.moment }
