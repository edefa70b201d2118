-- A table whose key is no number: a text, or several columns. Its rows are numbered from 1 in the order in which they came, and a unique index keeps its key.
use Rattle.std.specs.Prelude.{◌≡◌, ℕ, ◌+◌, pos, Bool, true, false, List, [], ◌∷◌, length, slice_get, Some}
use Rattle.std.specs.List.{AllByRecursion, list_any}
use Rattle.sqlite_value.specs.declared.value.Value.TheVariants.{Int}
use Rattle.sqlite_value.specs.Order.{Row, column}
use Rattle.sqlite_value.specs.Keys.{plain}
use Rattle.sqlite_schema.specs.declared.schema.Index.{Index}
use Rattle.sqlite_schema.specs.declared.schema.Schema.{Schema}
use Rattle.sqlite_schema.specs.Rules.{guards}
use Rattle.sqlite_sql.specs.Ops.{is_null}
use Rattle.sqlite.specs.Effect.{Database}
use Rattle.tc_sql.specs.Forms.{Form, table_of}
use Rattle.tc_sql.specs.Puts.{HasPut}

-- the values of rows with the numbers from this one on
abbrev pub numbered_from : ℕ → List Row → List Row
numbered_from n [] = []
numbered_from n (values ∷ more) = (Int (pos n) ∷ values) ∷ numbered_from (n + 1) more

abbrev pub numbered : List Row → List Row
numbered = numbered_from 1

-- under the schema a unique index of the table goes by these columns. Each field is `refl` where all is written out.
pub record IsKeyedAt (schema : Schema) (form : Form) (tree : ℕ) (places : List ℕ) : Type 0 where
  pub at : ℕ
  pub index : Index
  pub listed : slice_get schema.indexes at ≡ Some index
  pub guarded : guards index (table_of form tree) ≡ true
  pub columns : index.columns ≡ places
  pub order : index.order ≡ plain

-- in these columns the rows have the same values, none of them NULL
abbrev pub AreAlike : List ℕ → Row → Row → Type 0
AreAlike places a b = AllByRecursion (λ place. (column a place ≡ column b place) × (is_null (column b place) ≡ false)) places

-- the table held these, and has one more now, which none of them had the key of
pub record HasAppended {X : Type 0} (tree : ℕ) (values : X → Row) (same : X → X → Bool) (x : X) (xs : List X) (old new : Database) : Type 0 where
  pub put : HasPut tree (Int (pos (1 + length xs)) ∷ values x) old new
  pub alone : list_any (λ y. same y x) xs ≡ false
