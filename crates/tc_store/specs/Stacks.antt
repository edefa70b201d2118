-- The table `stack`: one row for each stack that was loaded, in the order in which they were. Its key is the name.
use Rattle.std.specs.Prelude.{ℕ, pos, if◌then◌else◌, Bool, true, List, [], ◌∷◌, codes, None}
use Rattle.std.specs.Str.{bytes_eq}
use Rattle.sqlite_value.specs.declared.value.Value.TheVariants.{Null, Int, Text}
use Rattle.sqlite_value.specs.Order.{Row}
use Rattle.sqlite_value.specs.Keys.{plain}
use Rattle.sqlite_schema.specs.declared.schema.Kind.TheVariants as kind
use Rattle.sqlite_sql.specs.Term.{Term, lit, col}
use Rattle.tc_types.specs.declared.tables.rows.LoadedStack.{LoadedStack}
use Rattle.tc_sql.specs.Forms.{Form, column_of}
use Rattle.tc_store.specs.declared.versions.Layout.{Layout}
use Rattle.tc_store.specs.Layouts.{past_moves}
use Rattle.tc_store.specs.declared.stacks.TheConstants.{CREATE_STACK, PUT_STACK}

-- behind the index of `request_approval`; the next one is its own index
abbrev pub stack_tree : Layout → ℕ
stack_tree layout = past_moves layout 7

-- where a row has its key
abbrev pub stack_places : List ℕ
stack_places = 1 ∷ []

abbrev pub stack_form : Form
stack_form = record {
  name = codes "stack";
  columns = column_of (codes "name") kind.Text true ∷ column_of (codes "author") kind.Text true ∷ column_of (codes "critical") kind.Integer true ∷ [];
  key = None;
  primary = stack_places;
  uniques = stack_places ∷ [];
  orders = plain ∷ [];
}

abbrev pub stack_text : List ℕ
stack_text = CREATE_STACK.now

abbrev pub stack_put : List ℕ
stack_put = PUT_STACK.now

abbrev pub stack_terms : List Term
stack_terms = lit Null ∷ col 0 0 ∷ col 0 1 ∷ col 0 2 ∷ []

-- a row, but for the number under which it stands
abbrev pub stack_values : LoadedStack → Row
stack_values s = Text s.name ∷ Text s.author ∷ Int (if s.critical then pos 1 else pos 0) ∷ []

abbrev pub is_same_stack : LoadedStack → LoadedStack → Bool
is_same_stack a b = bytes_eq a.name b.name
