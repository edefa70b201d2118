-- The table `procedure`: one row for each procedure that was loaded, in the order in which they were. Its key is the name.
use Rattle.std.specs.Prelude.{ℕ, Bool, true, List, [], ◌∷◌, codes, None}
use Rattle.std.specs.Str.{bytes_eq}
use Rattle.sqlite_value.specs.declared.value.Value.TheVariants.{Null, Text}
use Rattle.sqlite_value.specs.Order.{Row}
use Rattle.sqlite_value.specs.Keys.{plain}
use Rattle.sqlite_schema.specs.declared.schema.Kind.TheVariants as kind
use Rattle.sqlite_sql.specs.Term.{Term, lit, col}
use Rattle.tc_types.specs.declared.tables.rows.LoadedProcedure.{LoadedProcedure}
use Rattle.tc_sql.specs.Forms.{Form, column_of}
use Rattle.tc_store.specs.declared.versions.Layout.{Layout}
use Rattle.tc_store.specs.Layouts.{past_moves}
use Rattle.tc_store.specs.declared.procedures.TheConstants.{CREATE, PUT}

-- behind the index of `stack_approval`; the next one is its own index
abbrev pub procedure_tree : Layout → ℕ
procedure_tree layout = past_moves layout 11

-- where a row has its key
abbrev pub procedure_places : List ℕ
procedure_places = 1 ∷ []

abbrev pub procedure_form : Form
procedure_form = record {
  name = codes "procedure";
  columns = column_of (codes "name") kind.Text true ∷ column_of (codes "author") kind.Text true ∷ [];
  key = None;
  primary = procedure_places;
  uniques = procedure_places ∷ [];
  orders = plain ∷ [];
}

abbrev pub procedure_text : List ℕ
procedure_text = CREATE.now

abbrev pub procedure_put : List ℕ
procedure_put = PUT.now

abbrev pub procedure_terms : List Term
procedure_terms = lit Null ∷ col 0 0 ∷ col 0 1 ∷ []

-- a row, but for the number under which it stands
abbrev pub procedure_values : LoadedProcedure → Row
procedure_values p = Text p.name ∷ Text p.author ∷ []

abbrev pub is_same_procedure : LoadedProcedure → LoadedProcedure → Bool
is_same_procedure a b = bytes_eq a.name b.name
