-- The table `meta`: one row, which names the version of the schema.
use Rattle.std.specs.Prelude.{ℕ, pos, negsuc, false, true, List, [], ◌∷◌, codes, None}
use Rattle.sqlite_value.specs.declared.value.Value.TheVariants.{Null, Int, Text}
use Rattle.sqlite_value.specs.Order.{Row}
use Rattle.sqlite_value.specs.Keys.{plain}
use Rattle.sqlite_schema.specs.declared.schema.Kind.TheVariants as kind
use Rattle.sqlite_value.specs.declared.keys.Collation.TheVariants.{Binary}
use Rattle.sqlite_sql.specs.declared.ops.BinaryOp.TheVariants.{Compare}
use Rattle.sqlite_sql.specs.declared.ops.CompareOp.TheVariants.{Eq}
use Rattle.sqlite_sql.specs.Term.{Term, lit, col, op2}
use Rattle.sqlite_sql.specs.Query.{Query, inner, end}
use Rattle.tc_store.specs.declared.versions.Version.{Version}
use Rattle.tc_store.specs.declared.versions.Version.TheVariants.{First, Second, Third}
use Rattle.tc_store.specs.Ledgers.{newest}
use Rattle.tc_sql.specs.Forms.{Form, column_of}
use Rattle.tc_store.specs.declared.creates.TheConstants.{CREATE_META, PUT_VERSION}
use Rattle.tc_store.specs.declared.migrations.TheConstants.{UPDATE_VERSION}

abbrev pub meta_tree : ℕ
meta_tree = 0

abbrev pub meta_form : Form
meta_form = record {
  name = codes "meta";
  columns = column_of (codes "name") kind.Text true ∷ column_of (codes "value") kind.Integer true ∷ [];
  key = None;
  primary = 1 ∷ [];
  uniques = (1 ∷ []) ∷ [];
  orders = plain ∷ [];
}

abbrev pub meta_text : List ℕ
meta_text = CREATE_META.now

abbrev pub meta_put : List ℕ
meta_put = PUT_VERSION.now

abbrev pub meta_update : List ℕ
meta_update = UPDATE_VERSION.now

-- by which number a version is named
abbrev pub version_number : Version → ℕ
version_number First = 1
version_number Second = 2
version_number Third = 3

-- the schema has this version
abbrev pub version_row : Version → Row
version_row version = Int (pos 1) ∷ Text (codes "schema") ∷ Int (pos (version_number version)) ∷ []

-- as the text that reads all rows shows it
abbrev pub version_shown : Version → Row
version_shown version = Text (codes "schema") ∷ Int (pos (version_number version)) ∷ []

-- new tables are of the newest
abbrev pub meta_terms : List Term
meta_terms = lit Null ∷ lit (Text (codes "schema")) ∷ lit (Int (pos (version_number newest))) ∷ []

-- the row that an UPDATE finds, by its name, and what stands in its place
abbrev pub update_tests : List Term
update_tests = op2 (Compare Eq Binary) (col 1 1) (lit (Text (codes "schema"))) ∷ []

abbrev pub update_columns : List Term
update_columns = col 1 0 ∷ col 1 0 ∷ col 1 1 ∷ lit (Int (pos (version_number newest))) ∷ []

abbrev pub update_query : Query
update_query = record {
  from = inner meta_tree end;
  filter = update_tests;
  group = None;
  project = update_columns;
  distinct = false;
  collations = [];
  order = [];
  limit = lit (Int (negsuc 0));
  offset = lit (Int (pos 0));
}
