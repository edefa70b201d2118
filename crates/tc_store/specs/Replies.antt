-- The table `reply`: what was answered to acts and loads that were accepted, one row for each, in the order in which they were kept. Its key is the person and the number.
use Rattle.std.specs.Prelude.{ℕ, pos, true, List, [], ◌∷◌, codes, None}
use Rattle.sqlite_value.specs.declared.value.Value.TheVariants.{Null, Int, Text}
use Rattle.sqlite_value.specs.declared.keys.Collation.TheVariants.{Binary}
use Rattle.sqlite_value.specs.Order.{Row}
use Rattle.sqlite_value.specs.Keys.{plain}
use Rattle.sqlite_schema.specs.declared.schema.Kind.TheVariants as kind
use Rattle.sqlite_sql.specs.declared.ops.BinaryOp.TheVariants.{Compare}
use Rattle.sqlite_sql.specs.declared.ops.CompareOp.TheVariants.{Eq, Ge}
use Rattle.sqlite_sql.specs.Term.{Term, lit, col, op2}
use Rattle.tc_store.specs.declared.versions.Layout.{Layout}
use Rattle.tc_store.specs.Layouts.{past_records}
use Rattle.tc_store.specs.Ledgers.{KeptAnswer}
use Rattle.tc_sql.specs.Forms.{Form, column_of}
use Rattle.tc_store.specs.declared.replies.TheConstants.{CREATE, PUT, FIND}
use Rattle.tc_store.specs.declared.loads.replies.TheConstants.{PAGE_TEXT, REPLY_PAGE}

-- behind that of `record` and its index; the next one is its own index
abbrev pub reply_tree : Layout → ℕ
reply_tree layout = past_records layout 18

-- where a row has its key
abbrev pub reply_places : List ℕ
reply_places = 1 ∷ 2 ∷ []

abbrev pub reply_form : Form
reply_form = record {
  name = codes "reply";
  columns = column_of (codes "person") kind.Text true ∷ column_of (codes "number") kind.Integer true ∷ column_of (codes "body") kind.Text true ∷ [];
  key = None;
  primary = reply_places;
  uniques = reply_places ∷ [];
  orders = plain ∷ [];
}

abbrev pub reply_text : List ℕ
reply_text = CREATE.now

abbrev pub reply_put : List ℕ
reply_put = PUT.now

abbrev pub reply_terms : List Term
reply_terms = lit Null ∷ col 0 0 ∷ col 0 1 ∷ col 0 2 ∷ []

-- a row, but for the number under which it stands
abbrev pub reply_values : KeptAnswer → Row
reply_values k = Text k.person ∷ Int (pos k.number) ∷ Text k.body ∷ []

-- the text that reads the one of a person under a number, and the column that it shows
abbrev pub find_text : List ℕ
find_text = FIND.now

abbrev pub find_tests : List Term
find_tests = op2 (Compare Eq Binary) (col 1 1) (col 0 0) ∷ op2 (Compare Eq Binary) (col 1 2) (col 0 1) ∷ []

abbrev pub find_columns : List Term
find_columns = col 1 3 ∷ []

-- what it shows of a reply
abbrev pub body_values : KeptAnswer → Row
body_values k = Text k.body ∷ []

-- the text that reads a page of them, from a number under which one stands, and the columns that it shows
abbrev pub reply_page_text : List ℕ
reply_page_text = PAGE_TEXT.now

abbrev pub reply_page_tests : List Term
reply_page_tests = op2 (Compare Ge Binary) (col 1 0) (col 0 0) ∷ []

abbrev pub reply_columns : List Term
reply_columns = col 1 1 ∷ col 1 2 ∷ col 1 3 ∷ []

abbrev pub reply_page_columns : List Term
reply_page_columns = col 1 0 ∷ reply_columns

-- how many replies a full page has
abbrev pub reply_page_size : ℕ
reply_page_size = REPLY_PAGE

abbrev pub reply_page_limit : Term
reply_page_limit = lit (Int (pos reply_page_size))
