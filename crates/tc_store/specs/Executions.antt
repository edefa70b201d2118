-- The table `execution`: one row for each execution that was begun, by its number.
use Rattle.std.specs.Prelude.{ℕ, pos, true, false, List, [], ◌∷◌, codes, Some}
use Rattle.sqlite_value.specs.declared.value.Value.TheVariants.{Null, Int, Text}
use Rattle.sqlite_value.specs.Order.{Row}
use Rattle.sqlite_schema.specs.declared.schema.Kind.TheVariants as kind
use Rattle.sqlite_sql.specs.Term.{Term, lit, col}
use Rattle.tc_types.specs.declared.tables.rows.BegunExecution.{BegunExecution}
use Rattle.tc_sql.specs.Forms.{Form, column_of}
use Rattle.tc_store.specs.declared.versions.Layout.{Layout}
use Rattle.tc_store.specs.Layouts.{past_moves}
use Rattle.tc_store.specs.declared.executions.TheConstants.{CREATE, PUT}

-- behind the index of `step`
abbrev pub execution_tree : Layout → ℕ
execution_tree layout = past_moves layout 15

abbrev pub execution_form : Form
execution_form = record {
  name = codes "execution";
  columns = column_of (codes "num") kind.Integer false ∷ column_of (codes "procedure") kind.Text true ∷ column_of (codes "person") kind.Text true ∷ column_of (codes "moment") kind.Integer true ∷ [];
  key = Some 0;
  primary = 0 ∷ [];
  uniques = [];
  orders = [];
}

abbrev pub execution_text : List ℕ
execution_text = CREATE.now

abbrev pub execution_put : List ℕ
execution_put = PUT.now

abbrev pub execution_terms : List Term
execution_terms = col 0 0 ∷ lit Null ∷ col 0 1 ∷ col 0 2 ∷ col 0 3 ∷ []

-- the parameters of an execution
abbrev pub execution_given : BegunExecution → Row
execution_given e = Int (pos e.execution) ∷ Text e.procedure ∷ Text e.by ∷ Int (pos e.moment) ∷ []

abbrev pub execution_row : BegunExecution → Row
execution_row e = Int (pos e.execution) ∷ Null ∷ Text e.procedure ∷ Text e.by ∷ Int (pos e.moment) ∷ []
