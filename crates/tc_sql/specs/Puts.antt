-- What an INSERT of one row leaves.
use Rattle.std.specs.Prelude.{◌≡◌, ◌≢◌, ◌/◌, ℕ, List, [], ◌∷◌, ◌++◌, drop, length, slice_get, Option, Some, None, false, pos, negsuc, nat_lt, ◌==◌, if◌then◌else◌}
use Rattle.sqlite_value.specs.declared.value.Value.TheVariants.{Int}
use Rattle.sqlite_value.specs.declared.value.Value.{Value}
use Rattle.sqlite_value.specs.Order.{Row, column}
use Rattle.sqlite_trees.specs.Tree.{rowid, put_row}
use Rattle.sqlite_value.specs.declared.keys.Collation.TheVariants.{Binary}
use Rattle.sqlite_sql.specs.declared.ops.BinaryOp.TheVariants.{Compare}
use Rattle.sqlite_sql.specs.declared.ops.CompareOp.TheVariants.{Eq}
use Rattle.sqlite_sql.specs.Term.{Term, lit, col, op2, eval_all}
use Rattle.sqlite_sql.specs.Query.{Query, inner, end}
use Rattle.sqlite_schema.specs.declared.schema.Keys.TheVariants.{Enforced}
use Rattle.sqlite_schema.specs.declared.schema.Schema.{Schema}
use Rattle.sqlite_schema.specs.declared.command.Command.TheVariants.{Insert, InsertOr}
use Rattle.sqlite_schema.specs.declared.command.Conflict.{Conflict}
use Rattle.sqlite_schema.specs.declared.command.Conflict.TheVariants.{Abort, Replace}
use Rattle.sqlite_schema.specs.declared.command.Upsert.{Upsert}
use Rattle.sqlite_rules.specs.Keys.{shares}
use Rattle.std.specs.List.{list_any}
use Rattle.sqlite_schema.specs.declared.command.Source.TheVariants.{Values}
use Rattle.sqlite_rules.specs.Action.{works}
use Rattle.sqlite_rules.specs.Edit.{IsNoIndex, is_taken}
use Rattle.sqlite.specs.Effect.{Database, IsDatabase}
use Rattle.sqlite.specs.Given.{IsPlain}
use Rattle.sqlite.specs.Rows.{shown}
use Rattle.sqlite.specs.Listing.{understood}
use Rattle.sqlite.proofs.Callers.{command_of}
use Rattle.tc_sql.specs.Forms.{Form, table_of}

-- under the schema the text puts one row, of these terms, into the table. Each field is `refl` where all is written out.
pub record PutsInto (schema : Schema) (form : Form) (tree : ℕ) (text : List ℕ) (terms : List Term) : Type 0 where
  pub at : ℕ
  pub listed : slice_get schema.tables at ≡ Some (table_of form tree)
  pub command : command_of (understood schema text) ≡ Insert at (Values terms (length terms))
  pub plain : IsPlain (understood schema text)
  pub single : length terms / length terms ≡ 1
  pub quiet : (olds news : List Row) → works schema Enforced 0 tree olds news ≡ []

-- the row is in its place in the tree, each other tree that is no index is as it was, and the schema is obeyed
pub record HasPut (tree : ℕ) (row : Row) (old new : Database) : Type 0 where
  pub schema : new.schema ≡ old.schema
  pub rows : new.trees tree ≡ put_row row (old.trees tree)
  pub others : (t : ℕ) → t ≢ tree → IsNoIndex old.schema t → new.trees t ≡ old.trees t
  pub sound : IsDatabase new

-- the same of a plain INSERT, which went well since no row had this rowid
pub record HasInserted (tree : ℕ) (row : Row) (old new : Database) : Type 0 where
  pub put : HasPut tree row old new
  pub fresh : is_taken (old.trees tree) row ≡ false

-- a value's row begins with its key
abbrev pub IsKeyed : {X : Type 0} → (X → ℕ) → (X → Row) → Type 0
IsKeyed {X} key row = (x : X) → rowid (row x) ≡ Int (pos (key x))

-- the values, in the order of their keys, with this one in its place, and in place of one that has its key
abbrev pub put_by : {X : Type 0} → (X → ℕ) → X → List X → List X
put_by key new [] = new ∷ []
put_by key new (x ∷ xs) = if nat_lt (key new) (key x) then new ∷ x ∷ xs else (if key new == key x then new ∷ xs else x ∷ put_by key new xs)

-- under the schema the text puts one row, of these terms, and tells what is done where a row has its key. Each field is `refl` where all is written out.
pub record PutsOver (way : Conflict) (target : Option (List ℕ)) (clauses : List Upsert) (schema : Schema) (form : Form) (tree : ℕ) (text : List ℕ) (terms : List Term) : Type 0 where
  pub at : ℕ
  pub listed : slice_get schema.tables at ≡ Some (table_of form tree)
  pub command : command_of (understood schema text) ≡ InsertOr at way (Values terms (length terms)) clauses
  pub plain : IsPlain (understood schema text)
  pub single : length terms / length terms ≡ 1
  pub quiet : (olds news : List Row) → works schema Enforced 0 tree olds news ≡ []
  -- of the keys that are asked for only its number can be another row's
  pub alone : (new row : Row) → list_any (shares target (table_of form tree) new row) schema.indexes ≡ false

-- the same of an INSERT OR REPLACE, into a table whose one key is its number
abbrev pub ReplacesIn : Schema → Form → ℕ → List ℕ → List Term → Type 0
ReplacesIn = PutsOver Replace None []

-- SELECT columns FROM tree WHERE rowid = the parameter at this place
abbrev pub row_again : ℕ → ℕ → List Term → Query
row_again tree at columns = record {
  from = inner tree end;
  filter = op2 (Compare Eq Binary) (col 1 0) (col 0 at) ∷ [];
  group = None;
  project = columns;
  distinct = false;
  collations = [];
  order = [];
  limit = lit (Int (negsuc 0));
  offset = lit (Int (pos 0));
}

-- ON CONFLICT with the number DO UPDATE SET. The caller's parameters end at this place; behind them stand the rowid of the row that is there, and the rowid and columns of the new one.
abbrev pub updating : ℕ → ℕ → List Term → Upsert
updating tree at columns = record { target = Some (0 ∷ []); update = Some (record { lets = []; body = row_again tree at columns }) }

-- the same of an INSERT with that clause
abbrev pub UpsertsIn : Schema → Form → ℕ → List ℕ → List Term → ℕ → List Term → Type 0
UpsertsIn schema form tree text terms at columns = PutsOver Abort (Some (0 ∷ [])) (updating tree at columns ∷ []) schema form tree text terms

-- the columns are those of the row, all but its rowid, which stays as it is. Each field is `refl` where all but the rowid and the row that is there is written out.
pub record ShowsAgain (form : Form) (tree at : ℕ) (columns : List Term) (params row : Row) : Type 0 where
  pub placed : (id : Value) → column (params ++ id ∷ shown (table_of form tree) row) at ≡ id
  pub again : (id : Value) (old : Row) → eval_all columns ((params ++ id ∷ shown (table_of form tree) row) ∷ old ∷ []) ≡ rowid old ∷ rowid old ∷ drop 1 row
