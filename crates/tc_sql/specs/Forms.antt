-- A STRICT table in literals, so that what a text means computes through it.
use Rattle.std.specs.Prelude.{ℕ, Bool, true, false, ◌&&◌, List, [], ◌∷◌, Option}
use Rattle.sqlite_value.specs.declared.value.Value.{Value}
use Rattle.sqlite_value.specs.declared.value.Value.TheVariants.{Null, Int, Text}
use Rattle.sqlite_value.specs.declared.keys.Collation.TheVariants.{Binary}
use Rattle.sqlite_value.specs.declared.keys.Order.{Order}
use Rattle.sqlite_value.specs.Order.{Row}
use Rattle.sqlite_schema.specs.declared.schema.Kind.{Kind}
use Rattle.sqlite_schema.specs.declared.schema.Kind.TheVariants as kind
use Rattle.sqlite_schema.specs.declared.schema.Column.{Column}
use Rattle.sqlite_schema.specs.declared.schema.Table.{Table}

-- a table with no CHECK, no REFERENCES and no default that is computed
pub record Form : Type 0 where
  pub name : List ℕ
  pub columns : List Column
  -- the column that is the INTEGER PRIMARY KEY
  pub key : Option ℕ
  -- the places of the PRIMARY KEY and of each UNIQUE, and the order of each of their indexes
  pub primary : List ℕ
  pub uniques : List (List ℕ)
  pub orders : List Order

abbrev pub table_of : Form → ℕ → Table
table_of form tree = record {
  name = form.name;
  tree = tree;
  columns = form.columns;
  key = form.key;
  primary = form.primary;
  uniques = form.uniques;
  orders = form.orders;
  checks = [];
  references = [];
  computed = [];
  stamps = record { places = []; terms = []; formats = [] };
  is_counted = false;
}

-- a column of a STRICT table with no default
abbrev pub column_of : List ℕ → Kind → Bool → Column
column_of name kind not_null = record { name = name; kind = kind; is_strict = true; not_null = not_null; default = Null; collation = Binary }

-- ---- values that a column takes as they are

abbrev pub takes : Kind → Value → Bool
takes kind.Integer Null = true
takes kind.Integer (Int n) = true
takes kind.Text Null = true
takes kind.Text (Text t) = true
takes _ v = false

abbrev pub all_fit : List Column → Row → Bool
all_fit [] vs = true
all_fit (c ∷ cs) [] = true
all_fit (c ∷ cs) (v ∷ vs) = takes c.kind v && all_fit cs vs

-- a rowid, and then a value for each column
abbrev pub row_fits : Form → Row → Bool
row_fits form [] = false
row_fits form (v ∷ vs) = takes kind.Integer v && all_fit form.columns vs
