-- The table `request_approval`: who approved a request, one row for each approval, in the order in which they were given. Its key is the request and the person.
use Rattle.std.specs.Prelude.{ℕ, pos, ◌==◌, ◌&&◌, Bool, true, List, [], ◌∷◌, codes, None}
use Rattle.std.specs.Str.{bytes_eq}
use Rattle.sqlite_value.specs.declared.value.Value.TheVariants.{Null, Int, Text}
use Rattle.sqlite_value.specs.Order.{Row}
use Rattle.sqlite_value.specs.Keys.{plain}
use Rattle.sqlite_schema.specs.declared.schema.Kind.TheVariants as kind
use Rattle.sqlite_sql.specs.Term.{Term, lit, col}
use Rattle.tc_types.specs.declared.tables.rows.Approval.{Approval}
use Rattle.tc_sql.specs.Forms.{Form, column_of}
use Rattle.tc_store.specs.declared.versions.Layout.{Layout}
use Rattle.tc_store.specs.Layouts.{past_moves}
use Rattle.tc_store.specs.declared.approvals.TheConstants.{CREATE, PUT}

-- behind that of `tally`; the next one is its index
abbrev pub approval_tree : Layout → ℕ
approval_tree layout = past_moves layout 5

-- where a row has its key
abbrev pub approval_places : List ℕ
approval_places = 1 ∷ 2 ∷ []

abbrev pub approval_form : Form
approval_form = record {
  name = codes "request_approval";
  columns = column_of (codes "request") kind.Integer true ∷ column_of (codes "person") kind.Text true ∷ [];
  key = None;
  primary = approval_places;
  uniques = approval_places ∷ [];
  orders = plain ∷ [];
}

abbrev pub approval_text : List ℕ
approval_text = CREATE.now

abbrev pub approval_put : List ℕ
approval_put = PUT.now

abbrev pub approval_terms : List Term
approval_terms = lit Null ∷ col 0 0 ∷ col 0 1 ∷ []

-- a row, but for the number under which it stands
abbrev pub approval_values : Approval → Row
approval_values a = Int (pos a.request) ∷ Text a.person ∷ []

-- of one request by one person
abbrev pub is_same_approval : Approval → Approval → Bool
is_same_approval a b = (a.request == b.request) && bytes_eq a.person b.person
