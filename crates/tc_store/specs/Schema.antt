-- The tables of the desk in each version of their schema, and when a database holds a ledger.
use Rattle.std.specs.Prelude.{◌≡◌, ℕ, ◌+◌, ◌==◌, if◌then◌else◌, List, [], ◌∷◌, ◌++◌, map, drop, find, unwrap_or, option_map, ⊤}
use Rattle.std.specs.Str.{bytes_eq}
use Rattle.sqlite_schema.specs.declared.schema.Table.{Table}
use Rattle.sqlite_schema.specs.declared.schema.Index.{Index}
use Rattle.sqlite_schema.specs.declared.schema.Schema.{Schema}
use Rattle.sqlite.specs.Effect.{Database, IsDatabase}
use Rattle.tc_store.specs.declared.versions.Version.{Version}
use Rattle.tc_store.specs.declared.versions.Version.TheVariants.{First, Second, Third}
use Rattle.tc_store.specs.declared.versions.Layout.{Layout}
use Rattle.tc_store.specs.declared.versions.Layout.TheVariants.{Made, Copied}
use Rattle.tc_store.specs.Layouts.{IsLayoutOf}
use Rattle.tc_types.specs.Tables.{Image}
use Rattle.tc_store.specs.Ledgers.{KeptAnswer, Ledger, newest}
use Rattle.sqlite_catalog.specs.Change.{automatics}
use Rattle.tc_sql.specs.Forms.{Form, table_of}
use Rattle.tc_sql.specs.Contents.{Contents, Matches}
use Rattle.tc_sql.specs.Numbered.{numbered}
use Rattle.tc_store.specs.Meta.{meta_tree, meta_form, meta_text, version_row}
use Rattle.tc_store.specs.Requests.{request_tree, request_form, request_text, request_row}
use Rattle.tc_store.specs.Moves.{move_tree, move_form, move_index, move_text, move_index_text, move_row}
use Rattle.tc_store.specs.Tallies.{tally_tree, tally_form, tally_text, tally_row}
use Rattle.tc_store.specs.Approvals.{approval_tree, approval_form, approval_text, approval_values}
use Rattle.tc_store.specs.Stacks.{stack_tree, stack_form, stack_text, stack_values}
use Rattle.tc_store.specs.StackApprovals.{stack_approval_tree, stack_approval_form, stack_approval_text, stack_approval_values}
use Rattle.tc_store.specs.Procedures.{procedure_tree, procedure_form, procedure_text, procedure_values}
use Rattle.tc_store.specs.ProcedureSteps.{step_tree, step_form, step_text, step_values}
use Rattle.tc_store.specs.Executions.{execution_tree, execution_form, execution_text, execution_row}
use Rattle.tc_store.specs.Records.{record_tree, record_form, record_text, record_values}
use Rattle.tc_store.specs.Replies.{reply_tree, reply_form, reply_text, reply_values}
use Rattle.tc_store.specs.Cargo.{cargo_tree, cargo_form, cargo_text, cargo_values}

-- The texts that make the tables of the first version, but for the index of the moves, in order.
abbrev pub first_texts : List (List ℕ)
first_texts = meta_text ∷ request_text ∷ move_text ∷ tally_text ∷ approval_text ∷ stack_text ∷ stack_approval_text ∷ procedure_text ∷ step_text ∷ execution_text ∷ record_text ∷ []

-- The texts that make all tables so that they stand in this order. Those of an earlier version are the first of them: a version only adds tables behind the others.
abbrev pub create_texts : Layout → List (List ℕ)
create_texts Made =
    meta_text ∷ request_text ∷ move_text ∷ move_index_text ∷ tally_text ∷ approval_text ∷ stack_text ∷ stack_approval_text ∷ procedure_text ∷ step_text ∷ execution_text ∷ record_text ∷ reply_text ∷ cargo_text ∷ []
create_texts (Copied First) = first_texts ++ move_index_text ∷ reply_text ∷ cargo_text ∷ []
create_texts (Copied Second) = first_texts ++ reply_text ∷ move_index_text ∷ cargo_text ∷ []
create_texts (Copied Third) = first_texts ++ reply_text ∷ cargo_text ∷ move_index_text ∷ []

-- how many of them make the tables of a version
abbrev pub texts_count : Version → ℕ
texts_count First = 12
texts_count Second = 13
texts_count Third = 14

-- those that bring a version to the newest, in whatever order its tables stand
abbrev pub missing_texts : Version → List (List ℕ)
missing_texts version = drop (texts_count version) (create_texts Made)

-- the tables of the first version
abbrev pub first_tables : Layout → List Table
first_tables layout =
    table_of meta_form meta_tree ∷ table_of request_form request_tree ∷ table_of move_form move_tree ∷ table_of tally_form (tally_tree layout) ∷ table_of approval_form (approval_tree layout)
    ∷ table_of stack_form (stack_tree layout) ∷ table_of stack_approval_form (stack_approval_tree layout) ∷ table_of procedure_form (procedure_tree layout) ∷ table_of step_form (step_tree layout)
    ∷ table_of execution_form (execution_tree layout) ∷ table_of record_form (record_tree layout) ∷ []

-- the indexes that SQLite makes for the keys of a table
abbrev pub keys_of : Form → ℕ → List Index
keys_of form tree = automatics (table_of form tree) 0 (tree + 1) form.uniques

abbrev pub keys_past_moves : Layout → List Index
keys_past_moves layout =
    keys_of approval_form (approval_tree layout) ++ keys_of stack_form (stack_tree layout) ++ keys_of stack_approval_form (stack_approval_tree layout) ++ keys_of procedure_form (procedure_tree layout)
    ++ keys_of step_form (step_tree layout) ++ keys_of record_form (record_tree layout)

-- the index of the moves, under this number
abbrev pub index_at : ℕ → Index
index_at tree = record move_index { tree = tree }

-- the indexes of the first version
abbrev pub first_indexes : Layout → List Index
first_indexes Made = keys_of meta_form meta_tree ++ index_at 4 ∷ keys_past_moves Made
first_indexes (Copied First) = keys_of meta_form meta_tree ++ keys_past_moves (Copied First) ++ index_at 18 ∷ []
first_indexes (Copied Second) = keys_of meta_form meta_tree ++ keys_past_moves (Copied Second)
first_indexes (Copied Third) = keys_of meta_form meta_tree ++ keys_past_moves (Copied Third)

-- the tables that a version has behind those of the first, and their indexes
abbrev pub reply_table : Layout → Table
reply_table layout = table_of reply_form (reply_tree layout)

abbrev pub cargo_table : Layout → Table
cargo_table layout = table_of cargo_form (cargo_tree layout)

abbrev pub tables_behind : Layout → Version → List Table
tables_behind layout First = []
tables_behind layout Second = reply_table layout ∷ []
tables_behind layout Third = reply_table layout ∷ cargo_table layout ∷ []

abbrev pub keys_past_records : Layout → List Index
keys_past_records Made = keys_of reply_form (reply_tree Made)
keys_past_records (Copied First) = keys_of reply_form (reply_tree (Copied First))
keys_past_records (Copied Second) = keys_of reply_form (reply_tree (Copied Second)) ++ index_at 20 ∷ []
keys_past_records (Copied Third) = keys_of reply_form (reply_tree (Copied Third))

abbrev pub keys_past_replies : Layout → List Index
keys_past_replies Made = keys_of cargo_form (cargo_tree Made)
keys_past_replies (Copied First) = keys_of cargo_form (cargo_tree (Copied First))
keys_past_replies (Copied Second) = keys_of cargo_form (cargo_tree (Copied Second))
keys_past_replies (Copied Third) = keys_of cargo_form (cargo_tree (Copied Third)) ++ index_at 22 ∷ []

abbrev pub indexes_behind : Layout → Version → List Index
indexes_behind layout First = []
indexes_behind layout Second = keys_past_records layout
indexes_behind layout Third = keys_past_records layout ++ keys_past_replies layout

-- the schema of a version whose tables stand so: what a text means that reads tables of the first computes in each, whatever stands behind them
abbrev pub schema_of : Layout → Version → Schema
schema_of layout version = record { tables = first_tables layout ++ tables_behind layout version; indexes = first_indexes layout ++ indexes_behind layout version; views = [] }

-- that of a new desk
abbrev pub newest_schema : Schema
newest_schema = schema_of Made newest

-- the order that the number of the index of the moves tells
abbrev pub layout_at : ℕ → Layout
layout_at n = if n == 4 then Made else (if n == 18 then Copied First else (if n == 20 then Copied Second else Copied Third))

-- in which order the tables of a schema stand: by where the index of the moves stands
abbrev pub layout_of : Schema → Layout
layout_of schema = layout_at (unwrap_or (option_map (λ (i : Index). i.tree) (find (λ (i : Index). bytes_eq i.name move_index.name) schema.indexes)) 0)

abbrev pub layout_in : Database → Layout
layout_in db = layout_of db.schema

-- a schema is of this version, in one of the orders
pub record IsSchemaOf (version : Version) (schema : Schema) : Type 0 where
  pub fits : IsLayoutOf (layout_of schema) version
  pub is : schema ≡ schema_of (layout_of schema) version

-- the rows of each table that a version has behind those of the first
abbrev pub contents_behind : Layout → Version → Image → List KeptAnswer → Contents
contents_behind layout First image replies = []
contents_behind layout Second image replies = (reply_tree layout, numbered (map reply_values replies)) ∷ []
contents_behind layout Third image replies = (reply_tree layout, numbered (map reply_values replies)) ∷ (cargo_tree layout, numbered (map cargo_values image.cargo)) ∷ []

-- the rows of each table
abbrev pub contents_of : Layout → Version → Image → List KeptAnswer → Contents
contents_of layout version image replies =
    (meta_tree, version_row version ∷ []) ∷ (request_tree, map request_row image.requests) ∷ (move_tree, map move_row image.moves) ∷ (tally_tree layout, map tally_row image.tallies)
    ∷ (approval_tree layout, numbered (map approval_values image.approvals)) ∷ (stack_tree layout, numbered (map stack_values image.stacks))
    ∷ (stack_approval_tree layout, numbered (map stack_approval_values image.stack_approvals)) ∷ (procedure_tree layout, numbered (map procedure_values image.procedures))
    ∷ (step_tree layout, numbered (map step_values image.steps)) ∷ (execution_tree layout, map execution_row image.executions) ∷ (record_tree layout, numbered (map record_values image.records))
    ∷ contents_behind layout version image replies

-- and of the newest
abbrev pub contents : Layout → Ledger → Contents
contents layout ledger = contents_of layout newest ledger.image ledger.replies

-- whether a version has a table of replies, and whether it has one of cargo
abbrev pub HasReplies : Version → Type 0
HasReplies First = ⊥
HasReplies Second = ⊤
HasReplies Third = ⊤

abbrev pub HasCargo : Version → Type 0
HasCargo First = ⊥
HasCargo Second = ⊥
HasCargo Third = ⊤

-- a version without a table holds no row of it
abbrev pub Lacks : Version → Image → List KeptAnswer → Type 0
Lacks First image replies = (replies ≡ []) × (image.cargo ≡ [])
Lacks Second image replies = image.cargo ≡ []
Lacks Third image replies = ⊤

-- the database has the schema of this version, in one of the orders, and its tables have the rows of the ledger and no other
pub record HoldsAs (version : Version) (db : Database) (ledger : Ledger) : Type 0 where
  pub fits : IsLayoutOf (layout_in db) version
  pub schema : db.schema ≡ schema_of (layout_in db) version
  pub rows : Matches db.trees (contents_of (layout_in db) version ledger.image ledger.replies)
  pub lacks : Lacks version ledger.image ledger.replies
  pub sound : IsDatabase db

-- of the newest version
abbrev pub Holds : Database → Ledger → Type 0
Holds db ledger = HoldsAs newest db ledger
