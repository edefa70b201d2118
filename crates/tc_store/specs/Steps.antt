-- What a statement or a batch does to the tables inside a transaction, and what it leaves after a crash.
use Rattle.std.specs.Prelude.{◌≡◌, ℕ, ◌==◌, true, false, List, [], ◌∷◌, ◌++◌, Option, None, Some, Result, Ok, IfOk, IsTrue, ⊤}
use Rattle.std.specs.Option.{option_to_list}
use Rattle.std.specs.Borrow.{MutBor}
use Rattle.std.specs.List.{AllByRecursion, list_any}
use Rattle.sqlite_value.specs.Order.{Row as Values}
use Rattle.sqlite_schema.specs.declared.schema.Table.{Table}
use Rattle.sqlite_schema.specs.declared.schema.Schema.{Schema}
use Rattle.sqlite_trees.specs.Tree.{Trees}
use Rattle.sqlite_trees.specs.declared.store.Store.{Ghosts}
use Rattle.sqlite_catalog.specs.Listing.{IsSound}
use Rattle.sqlite.specs.Effect.{Database, IsDatabase}
use Rattle.sqlite.specs.State.{State, Executes, HasCleanDisk, KeepsCommit, Survives}
use Rattle.sqlite.specs.Held.{Held, state}
use Rattle.sqlite.specs.Steps.{FailsToCommit}
use Rattle.sqlite.specs.declared.error.Error.{Error}
use Rattle.tc_types.specs.declared.tables.rows.PlacedRequest.{PlacedRequest}
use Rattle.tc_types.specs.declared.history.moves.Move.{Move}
use Rattle.tc_types.specs.declared.tables.rows.Approval.{Approval}
use Rattle.tc_types.specs.declared.tables.rows.LoadedStack.{LoadedStack}
use Rattle.tc_types.specs.declared.tables.rows.StackApproval.{StackApproval}
use Rattle.tc_types.specs.declared.tables.rows.LoadedProcedure.{LoadedProcedure}
use Rattle.tc_types.specs.declared.tables.rows.ProcedureStep.{ProcedureStep}
use Rattle.tc_types.specs.declared.tables.rows.BegunExecution.{BegunExecution}
use Rattle.tc_types.specs.declared.tables.rows.StepRecord.{StepRecord}
use Rattle.tc_types.specs.declared.tables.cargo.Cargo.{Cargo}
use Rattle.tc_types.specs.declared.tables.rows.Row.{Row}
use Rattle.tc_types.specs.declared.tables.rows.Row.TheVariants.{Entered, Placed, Moved, Tallied, Approved, Loaded, StackApproved, ProcedureLoaded, StepLoaded, Begun, Recorded, Carried}
use Rattle.tc_store.specs.declared.versions.Version.{Version}
use Rattle.tc_store.specs.declared.versions.Layout.{Layout}
use Rattle.tc_store.specs.declared.versions.Layout.TheVariants.{Made}
use Rattle.tc_store.specs.Layouts.{IsLayoutOf}
use Rattle.tc_store.specs.declared.batches.Batch.{Batch}
use Rattle.tc_types.specs.Tables.{Image, with_row}
use Rattle.tc_store.specs.Ledgers.{KeptAnswer, Ledger, is_same_call, with_image, newest, from_of, kept_in, written, empty_ledger}
use Rattle.tc_sql.specs.Builds.{Builds, BuildsTo, no_schema}
use Rattle.tc_sql.specs.Contents.{Contents, Matches}
use Rattle.tc_store.specs.Approvals.{is_same_approval}
use Rattle.tc_store.specs.Stacks.{is_same_stack}
use Rattle.tc_store.specs.StackApprovals.{is_same_stack_approval}
use Rattle.tc_store.specs.Procedures.{is_same_procedure}
use Rattle.tc_store.specs.ProcedureSteps.{is_same_step}
use Rattle.tc_store.specs.Records.{is_same_record}
use Rattle.tc_store.specs.Cargo.{is_same_cargo}
use Rattle.tc_store.specs.Schema.{newest_schema, schema_of, layout_in, contents, HoldsAs, Holds}
use Rattle.tc_store.specs.declared.faults.StoreFault.{StoreFault}
use Rattle.tc_store.specs.declared.faults.StoreFault.TheVariants.{Commit}

-- What a call inside a transaction does: this, where it is Ok. Whatever it answers, nothing is committed, and a crash leaves no other tables than before.
pub record Does {S T E : Type 0} (g : Ghosts S) (Done : T → Held S → Held S → Type 0) (old new : MutBor (Held S)) (result : Result T E) : Type 0 where
  pub same_reference : new.ghost_name ≡ old.ghost_name
  pub done : HasCleanDisk (state g new.now) → IsTrue old.now.in_transaction → IfOk result (λ x. Done x old.now new.now)
  pub kept : HasCleanDisk (state g new.now) → IsTrue old.now.in_transaction → KeepsCommit (state g old.now) (state g new.now)
  pub survives : Survives (state g old.now) (state g new.now) (λ _. ⊥)

-- the transaction goes on, and nothing was committed
pub record Goes {S : Type 0} (g : Ghosts S) (old new : Held S) : Type 0 where
  pub committed : (state g new).committed ≡ (state g old).committed
  pub mode : new.in_transaction ≡ old.in_transaction
  pub is_open : (state g new).is_open ≡ (state g old).is_open

-- one statement was run
pub record Ran {S : Type 0} (g : Ghosts S) (text : List ℕ) (params : Values) (count : ℕ) (old new : Held S) : Type 0 where
  pub executes : Executes text params (state g old) (state g new) (Ok count)
  pub goes : Goes g old new

-- these contents name the trees of these tables, in order
abbrev pub AreOf : List Table → Contents → Type 0
AreOf [] [] = ⊤
AreOf [] (e ∷ all) = ⊥
AreOf (t ∷ tables) [] = ⊥
AreOf (t ∷ tables) (e ∷ all) = (e.0 ≡ t.tree) × AreOf tables all

-- the tables of the database have these rows
pub record IsFilled (db : Database) (all : Contents) : Type 0 where
  pub of : AreOf db.schema.tables all
  pub rows : Matches db.trees all
  pub sound : IsDatabase db

-- the database has this schema, these rows in the first of its tables, and none in the others
pub record HasBehind (after : Schema) (all : Contents) (db : Database) : Type 0 where
  pub schema : db.schema ≡ after
  pub more : Contents
  pub blank : AllByRecursion (λ (e : ℕ × List Values). e.1 ≡ []) more
  pub filled : IsFilled db (all ++ more)

-- Whatever these texts led to, the database has it now: with no row in any table where none had one, and behind tables that had some.
pub record Defined {S : Type 0} (g : Ghosts S) (texts : List (List ℕ)) (old new : Held S) : Type 0 where
  pub builds : (after : Schema) → BuildsTo after texts (state g old).now → BuildsTo after [] (state g new).now
  pub behind : (after : Schema) (all : Contents) → Builds (state g old).now.schema texts after → IsFilled (state g old).now all → HasBehind after all (state g new).now
  pub goes : Goes g old new

-- a desk whose tables have no row but the version
abbrev pub blank_image : Image
blank_image = record { requests = []; moves = []; tallies = []; approvals = []; stacks = []; stack_approvals = []; procedures = []; steps = []; executions = []; records = []; cargo = [] }

abbrev pub blank_ledger : Ledger
blank_ledger = record { image = blank_image; replies = [] }

-- where those of the desk stand with no row, they name their version now, and stand as a desk makes them
pub record Versioned {S : Type 0} (g : Ghosts S) (old new : Held S) : Type 0 where
  pub holds : BuildsTo newest_schema [] (state g old).now → Holds (state g new).now blank_ledger
  pub order : BuildsTo newest_schema [] (state g old).now → layout_in (state g new).now ≡ Made
  pub goes : Goes g old new

-- where there was no table, those of the desk stand as a desk makes them, with the version and a tally of 0 for each place
pub record Filled {S : Type 0} (g : Ghosts S) (old new : Held S) : Type 0 where
  pub holds : old.schema ≡ no_schema → Holds (state g new).now empty_ledger
  pub order : old.schema ≡ no_schema → layout_in (state g new).now ≡ Made
  pub goes : Goes g old new

-- no row with its key stands, where the row is to be a new one
abbrev pub IsNewIn : Image → Row → Type 0
IsNewIn image (Entered request) = list_any (λ (r : PlacedRequest). r.request.number == request.number) image.requests ≡ false
IsNewIn image (Placed placed) = ⊤
IsNewIn image (Moved move) = list_any (λ (m : Move). m.seq == move.seq) image.moves ≡ false
IsNewIn image (Tallied tally) = ⊤
IsNewIn image (Approved approval) = list_any (λ (a : Approval). is_same_approval a approval) image.approvals ≡ false
IsNewIn image (Loaded stack) = list_any (λ (s : LoadedStack). is_same_stack s stack) image.stacks ≡ false
IsNewIn image (StackApproved approval) = list_any (λ (a : StackApproval). is_same_stack_approval a approval) image.stack_approvals ≡ false
IsNewIn image (ProcedureLoaded procedure) = list_any (λ (p : LoadedProcedure). is_same_procedure p procedure) image.procedures ≡ false
IsNewIn image (StepLoaded step) = list_any (λ (s : ProcedureStep). is_same_step s step) image.steps ≡ false
IsNewIn image (Begun execution) = list_any (λ (e : BegunExecution). e.execution == execution.execution) image.executions ≡ false
IsNewIn image (Recorded given) = list_any (λ (r : StepRecord). is_same_record r given) image.records ≡ false
IsNewIn image (Carried cargo) = list_any (λ (c : Cargo). is_same_cargo c cargo) image.cargo ≡ false

-- so it is of each row of a batch, where those before it stand too
abbrev pub AreNew : Image → List Row → Type 0
AreNew image [] = ⊤
AreNew image (row ∷ rows) = IsNewIn image row × AreNew (with_row image row) rows

-- each ledger that the tables held had no row with these keys, and has these rows now; the tables stand in the order in which they stood
pub record Step {S : Type 0} (g : Ghosts S) (rows : List Row) (old new : Held S) : Type 0 where
  pub fresh : (ledger : Ledger) → Holds (state g old).now ledger → AreNew ledger.image rows
  pub holds : (ledger : Ledger) → Holds (state g old).now ledger → Holds (state g new).now (with_image rows ledger)
  pub order : (ledger : Ledger) → Holds (state g old).now ledger → layout_in (state g new).now ≡ layout_in (state g old).now
  pub goes : Goes g old new

-- what a call does that writes these rows inside a transaction
abbrev pub Puts : {S T E : Type 0} → Ghosts S → List Row → MutBor (Held S) → MutBor (Held S) → Result T E → Type 0
Puts g rows old new result = Does g (λ _. Step g rows) old new result

-- no reply to this call stands
abbrev pub IsNewCall : List KeptAnswer → Option KeptAnswer → Type 0
IsNewCall replies None = ⊤
IsNewCall replies (Some reply) = list_any (λ (k : KeptAnswer). is_same_call k reply) replies ≡ false

-- each ledger that the tables held had no reply to this call, and has this one now, behind the others; where there is none it is as it was
pub record Replied {S : Type 0} (g : Ghosts S) (reply : Option KeptAnswer) (old new : Held S) : Type 0 where
  pub fresh : (ledger : Ledger) → Holds (state g old).now ledger → IsNewCall ledger.replies reply
  pub holds : (ledger : Ledger) → Holds (state g old).now ledger → Holds (state g new).now (record ledger { replies = ledger.replies ++ option_to_list reply })
  pub order : (ledger : Ledger) → Holds (state g old).now ledger → layout_in (state g new).now ≡ layout_in (state g old).now
  pub goes : Goes g old new

-- each ledger that the tables held as of this version they hold as of the newest
pub record Migrated {S : Type 0} (g : Ghosts S) (from : Version) (old new : Held S) : Type 0 where
  pub holds : (ledger : Ledger) → HoldsAs from (state g old).now ledger → Holds (state g new).now ledger
  pub order : (ledger : Ledger) → HoldsAs from (state g old).now ledger → layout_in (state g new).now ≡ layout_in (state g old).now
  pub goes : Goes g old new

-- tables of this version became those of the newest, and then the rows and the reply of a batch were written
pub record Wrote {S : Type 0} (g : Ghosts S) (batch : Batch) (old new : Held S) : Type 0 where
  pub fresh : (ledger : Ledger) → HoldsAs (from_of batch) (state g old).now ledger → AreNew ledger.image batch.rows.now × IsNewCall ledger.replies (kept_in batch)
  pub holds : (ledger : Ledger) → HoldsAs (from_of batch) (state g old).now ledger → Holds (state g new).now (written batch ledger)
  pub order : (ledger : Ledger) → HoldsAs (from_of batch) (state g old).now ledger → layout_in (state g new).now ≡ layout_in (state g old).now
  pub goes : Goes g old new

-- a transaction in which all of it was done came to its commit, and the commit failed
pub record FailsAtCommit {S : Type 0} (g : Ghosts S) (Done : Held S → Held S → Type 0) (old new : Held S) (error : Error) : Type 0 where
  pub last : Held S
  pub done : Done (record old { in_transaction = true }) last
  pub fails : FailsToCommit (state g last) (state g new) error

-- only such a failure is told as one at the commit
abbrev pub TellsCommit : {S : Type 0} → Ghosts S → (Held S → Held S → Type 0) → Held S → Held S → StoreFault → Type 0
TellsCommit g Done old new (Commit error) = FailsAtCommit g Done old new error
TellsCommit g Done old new _ = ⊤

-- the trees of tables of the newest version, in one of its orders, which have the rows of this ledger and no other
pub record HasRows (trees : Trees) (ledger : Ledger) : Type 0 where
  pub layout : Layout
  pub fits : IsLayoutOf layout newest
  pub rows : Matches trees (contents layout ledger)
  pub listed : IsSound (schema_of layout newest) trees

-- the trees of an empty desk
abbrev pub IsNewDesk : Trees → Type 0
IsNewDesk trees = HasRows trees empty_ledger

-- the trees that a batch leaves where it was written whole
abbrev pub HasBatch : Database → Batch → Trees → Type 0
HasBatch old batch trees = (ledger : Ledger) → HoldsAs (from_of batch) old ledger → HasRows trees (written batch ledger)

-- a crash leaves no other trees than these
abbrev pub LeavesOnly : State → Trees → Type 0
LeavesOnly s trees = (db : Trees) → s.may_leave db → db ≡ trees
