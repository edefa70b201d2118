-- What a chain of CREATE TABLE and CREATE INDEX makes of a schema.
use Rattle.std.specs.Prelude.{◌≡◌, ◌⊎◌, ℕ, false, List, [], ◌∷◌, slice_get, Some, Ok}
use Rattle.std.specs.List.{AllByRecursion}
use Rattle.sqlite_schema.specs.declared.schema.Table.{Table}
use Rattle.sqlite_schema.specs.declared.schema.Index.{Index}
use Rattle.sqlite_schema.specs.declared.schema.Schema.{Schema}
use Rattle.sqlite_schema.specs.declared.command.Command.TheVariants.{CreateTable, CreateIndex}
use Rattle.sqlite_resolve.specs.Compile.{table_defined_by, index_defined_by}
use Rattle.sqlite_catalog.specs.Change.{created, indexed}
use Rattle.sqlite.specs.Effect.{Database}
use Rattle.sqlite.specs.Does.{lacks_sequence}
use Rattle.sqlite.specs.Given.{IsPlain}
use Rattle.sqlite.specs.Listing.{understood}
use Rattle.sqlite.proofs.Callers.{command_of, statement_of}

abbrev pub no_schema : Schema
no_schema = record { tables = []; indexes = []; views = [] }

-- under this schema the text is a CREATE TABLE, and this is the schema after it
pub record DefinesTable (text : List ℕ) (before after : Schema) : Type 0 where
  pub table : Table
  pub command : command_of (understood before text) ≡ CreateTable
  pub plain : IsPlain (understood before text)
  pub whole : statement_of text (understood before text) ≡ text
  pub defined : table_defined_by text ≡ Ok table
  pub uncounted : lacks_sequence after ≡ false
  pub is : after ≡ created before table

-- the same of a CREATE INDEX
pub record DefinesIndex (text : List ℕ) (before after : Schema) : Type 0 where
  pub at : ℕ
  pub table : Table
  pub index : Index
  pub listed : slice_get before.tables at ≡ Some table
  pub command : command_of (understood before text) ≡ CreateIndex at
  pub plain : IsPlain (understood before text)
  pub whole : statement_of text (understood before text) ≡ text
  pub defined : index_defined_by table text ≡ Ok index
  pub is : after ≡ indexed before table index

-- the texts, one after another, lead from the first schema to the second
abbrev pub Builds : Schema → List (List ℕ) → Schema → Type 0
Builds before [] after = before ≡ after
Builds before (text ∷ texts) after = (mid : Schema) × (DefinesTable text before mid ⊎ DefinesIndex text before mid) × Builds mid texts after

-- each table has no row
abbrev pub AreEmpty : Database → Type 0
AreEmpty db = AllByRecursion (λ t. db.trees t.tree ≡ []) db.schema.tables

-- the texts that are left lead to the schema, and no table has a row so far
pub record BuildsTo (after : Schema) (texts : List (List ℕ)) (db : Database) : Type 0 where
  pub builds : Builds db.schema texts after
  pub empty : AreEmpty db
