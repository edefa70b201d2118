-- What the tables show: all rows of each table, as the texts that read them show the columns.
use Rattle.std.specs.Prelude.{◌≡◌, ℕ, ℤ, pos, true, int_le, List, [], ◌∷◌, filter, map, None, IsPermutation}
use Rattle.std.specs.List.{AllByRecursion}
use Rattle.sqlite_value.specs.declared.value.Value.{Value}
use Rattle.sqlite_value.specs.declared.value.Value.TheVariants.{Int, Text}
use Rattle.sqlite_value.specs.Order.{Row, column}
use Rattle.sqlite_trees.specs.Tree.{rowid, IsTable}
use Rattle.sqlite_sql.specs.Term.{Term, eval_all}
use Rattle.sqlite.specs.Effect.{Database}
use Rattle.tc_types.specs.declared.requests.Body.{Body}
use Rattle.tc_types.specs.declared.history.moves.Move.{Move}
use Rattle.tc_types.specs.declared.tables.rows.PlacedRequest.{PlacedRequest}
use Rattle.tc_types.specs.declared.tables.rows.Tally.{Tally}
use Rattle.tc_types.specs.declared.tables.rows.Approval.{Approval}
use Rattle.tc_types.specs.declared.tables.rows.LoadedStack.{LoadedStack}
use Rattle.tc_types.specs.declared.tables.rows.StackApproval.{StackApproval}
use Rattle.tc_types.specs.declared.tables.rows.LoadedProcedure.{LoadedProcedure}
use Rattle.tc_types.specs.declared.tables.rows.ProcedureStep.{ProcedureStep}
use Rattle.tc_types.specs.declared.tables.rows.BegunExecution.{BegunExecution}
use Rattle.tc_types.specs.declared.tables.rows.StepRecord.{StepRecord}
use Rattle.tc_types.specs.declared.tables.cargo.Cargo.{Cargo}
use Rattle.tc_types.specs.Grammar.{outcome_word}
use Rattle.tc_store.specs.declared.versions.Version.{Version}
use Rattle.tc_store.specs.declared.versions.Layout.{Layout}
use Rattle.tc_store.specs.declared.versions.Version.TheVariants.{First, Second, Third}
use Rattle.tc_types.specs.Tables.{Image}
use Rattle.tc_store.specs.Ledgers.{KeptAnswer, IsKeptAnswer}
use Rattle.tc_store.specs.Meta.{meta_tree, version_shown}
use Rattle.tc_store.specs.Requests.{request_tree, request_given, ack_number, service_of, subtype_of, target_of, time_of}
use Rattle.tc_store.specs.Moves.{move_tree, move_columns, move_shown}
use Rattle.tc_store.specs.Tallies.{tally_tree, tally_given}
use Rattle.tc_store.specs.Approvals.{approval_tree, approval_values}
use Rattle.tc_store.specs.Stacks.{stack_tree, stack_values}
use Rattle.tc_store.specs.StackApprovals.{stack_approval_tree, stack_approval_values}
use Rattle.tc_store.specs.Procedures.{procedure_tree, procedure_values}
use Rattle.tc_store.specs.ProcedureSteps.{step_tree, step_values}
use Rattle.tc_store.specs.Executions.{execution_tree, execution_given}
use Rattle.tc_store.specs.Records.{record_tree, record_values}
use Rattle.tc_store.specs.Replies.{reply_tree, reply_columns, reply_values}
use Rattle.tc_store.specs.Cargo.{cargo_tree, cargo_values}
use Rattle.tc_store.specs.Schema.{HasReplies}
use Rattle.tc_store.specs.Loads.{all_version_columns, all_request_columns, all_tally_columns, all_approval_columns, all_stack_columns, all_stack_approval_columns, all_procedure_columns, all_step_columns, all_execution_columns, all_record_columns, all_cargo_columns, first_behind}

-- what columns show of a row
abbrev pub shown_of : List Term → Row → Row
shown_of columns row = eval_all columns ([] ∷ row ∷ [])

-- The columns show these of a table's rows, each once and no others. They come in the order of the numbers under which the rows stand, where the rows lie so.
pub record ShowsRows (rows : List Row) (columns : List Term) (shown : List Row) : Type 0 where
  pub all : IsPermutation (map (shown_of columns) rows) shown
  pub order : IsTable rows → shown ≡ map (shown_of columns) rows

-- the whole number that a value is, and 0 where it is none
abbrev pub as_number : Value → ℤ
as_number (Int n) = n
as_number _ = pos 0

-- the number under which a row stands
abbrev pub number_of : Row → ℤ
number_of row = as_number (rowid row)

-- under a whole number, not below the least that a table may have
abbrev pub IsNumbered : Row → Type 0
IsNumbered row = (rowid row ≡ Int (number_of row)) × (int_le (first_behind None) (number_of row) ≡ true)

-- so the rows stand, and their numbers rise
pub record AreNumbered (rows : List Row) : Type 0 where
  pub rise : IsTable rows
  pub whole : AllByRecursion IsNumbered rows

-- those from this number on
abbrev pub rows_from : ℤ → List Row → List Row
rows_from first rows = filter (λ row. int_le first (number_of row)) rows

-- the table of cargo has these rows and no other; a version without it shows none
abbrev pub ShowsCargo : Layout → Version → Database → List Cargo → Type 0
ShowsCargo layout First db cargo = cargo ≡ []
ShowsCargo layout Second db cargo = cargo ≡ []
ShowsCargo layout Third db cargo = ShowsRows (db.trees (cargo_tree layout)) all_cargo_columns (map cargo_values cargo)

-- The tables of requests have these rows and no other. The moves are read page by page, so that is said of moves that stand under numbers.
pub record ShowsRequests (layout : Layout) (of : Version) (db : Database) (requests : List PlacedRequest) (moves : List Move) (tallies : List Tally) (approvals : List Approval) (cargo : List Cargo) : Type 0 where
  pub requests_are : ShowsRows (db.trees request_tree) all_request_columns (map request_given requests)
  pub moves_are : AreNumbered (db.trees move_tree) → ShowsRows (db.trees move_tree) move_columns (map move_shown moves)
  pub tallies_are : ShowsRows (db.trees (tally_tree layout)) all_tally_columns (map tally_given tallies)
  pub approvals_are : ShowsRows (db.trees (approval_tree layout)) all_approval_columns (map approval_values approvals)
  pub cargo_is : ShowsCargo layout of db cargo

-- so it is of those of stacks
pub record ShowsStacks (layout : Layout) (db : Database) (stacks : List LoadedStack) (approvals : List StackApproval) : Type 0 where
  pub stacks_are : ShowsRows (db.trees (stack_tree layout)) all_stack_columns (map stack_values stacks)
  pub approvals_are : ShowsRows (db.trees (stack_approval_tree layout)) all_stack_approval_columns (map stack_approval_values approvals)

-- and of those of procedures
pub record ShowsProcedures (layout : Layout) (db : Database) (procedures : List LoadedProcedure) (steps : List ProcedureStep) (executions : List BegunExecution) (records : List StepRecord) : Type 0 where
  pub procedures_are : ShowsRows (db.trees (procedure_tree layout)) all_procedure_columns (map procedure_values procedures)
  pub steps_are : ShowsRows (db.trees (step_tree layout)) all_step_columns (map step_values steps)
  pub executions_are : ShowsRows (db.trees (execution_tree layout)) all_execution_columns (map execution_given executions)
  pub records_are : ShowsRows (db.trees (record_tree layout)) all_record_columns (map record_values records)

-- values of a reply that a desk could have kept
pub record AreOfReply (values : Row) : Type 0 where
  pub kept : KeptAnswer
  pub is : values ≡ reply_values kept
  pub sound : IsKeptAnswer kept

-- a row shows them in its columns
abbrev pub IsReplyRow : Row → Type 0
IsReplyRow row = AreOfReply (shown_of reply_columns row)

-- So is each row of the table of replies, where the version has one. They are read page by page, so that is said of rows that stand under numbers.
abbrev pub AreJudged : Layout → Version → Database → Type 0
AreJudged layout of db = HasReplies of → AreNumbered (db.trees (reply_tree layout)) → AllByRecursion IsReplyRow (db.trees (reply_tree layout))

-- where tables stand so: the one row of `meta` names this version, all rows of all tables of a book are those of the image, and those of replies are judged
pub record ShowsAll (layout : Layout) (of : Version) (db : Database) (image : Image) : Type 0 where
  pub version : ShowsRows (db.trees meta_tree) all_version_columns (version_shown of ∷ [])
  pub requests : ShowsRequests layout of db image.requests image.moves image.tallies image.approvals image.cargo
  pub stacks : ShowsStacks layout db image.stacks image.stack_approvals
  pub procedures : ShowsProcedures layout db image.procedures image.steps image.executions image.records
  pub replies : AreJudged layout of db

-- a row shows this number in a column
abbrev pub ShowsNumber : Row → ℕ → ℕ → Type 0
ShowsNumber row at n = column row at ≡ Int (pos n)

-- a row of requests shows this body in its columns
pub record ShowsBody (row : Row) (b : Body) : Type 0 where
  pub apid : column row 1 ≡ Int (pos b.identity.apid)
  pub count : column row 2 ≡ Int (pos b.identity.count)
  pub ack : column row 3 ≡ Int (pos (ack_number b.ack))
  pub service : column row 5 ≡ Int (pos (service_of b.command))
  pub subtype : column row 6 ≡ Int (pos (subtype_of b.command))
  pub target : column row 7 ≡ Int (pos (target_of b.command))
  pub time : column row 8 ≡ Int (time_of b.command)
  pub outcome : column row 9 ≡ Text (outcome_word b.outcome)
