-- The table `stack_approval`: who approved a stack, one row for each approval, in the order in which they were given. Its key is
-- the stack and the person.
use Rattle.std.specs.Prelude.{ℕ, ◌&&◌, Bool, true, List, [], ◌∷◌, codes, None}
use Rattle.std.specs.Str.{bytes_eq}
use Rattle.sqlite_value.specs.declared.value.Value.TheVariants.{Null, Text}
use Rattle.sqlite_value.specs.Order.{Row}
use Rattle.sqlite_value.specs.Keys.{plain}
use Rattle.sqlite_schema.specs.declared.schema.Kind.TheVariants as kind
use Rattle.sqlite_sql.specs.Term.{Term, lit, col}
use Rattle.tc_types.specs.declared.tables.rows.StackApproval.{StackApproval}
use Rattle.tc_sql.specs.Forms.{Form, column_of}
use Rattle.tc_store.specs.declared.versions.Layout.{Layout}
use Rattle.tc_store.specs.Layouts.{past_moves}
use Rattle.tc_store.specs.declared.stacks.TheConstants.{CREATE_APPROVAL, PUT_APPROVAL}

-- behind the index of `stack`; the next one is its own index
abbrev pub stack_approval_tree : Layout → ℕ
stack_approval_tree layout = past_moves layout 9

-- where a row has its key
abbrev pub stack_approval_places : List ℕ
stack_approval_places = 1 ∷ 2 ∷ []

abbrev pub stack_approval_form : Form
stack_approval_form = record {
  name = codes "stack_approval";
  columns = column_of (codes "stack") kind.Text true ∷ column_of (codes "person") kind.Text true ∷ [];
  key = None;
  primary = stack_approval_places;
  uniques = stack_approval_places ∷ [];
  orders = plain ∷ [];
}

abbrev pub stack_approval_text : List ℕ
stack_approval_text = CREATE_APPROVAL.now

abbrev pub stack_approval_put : List ℕ
stack_approval_put = PUT_APPROVAL.now

abbrev pub stack_approval_terms : List Term
stack_approval_terms = lit Null ∷ col 0 0 ∷ col 0 1 ∷ []

-- a row, but for the number under which it stands
abbrev pub stack_approval_values : StackApproval → Row
stack_approval_values a = Text a.stack ∷ Text a.person ∷ []

-- of one stack by one person
abbrev pub is_same_stack_approval : StackApproval → StackApproval → Bool
is_same_stack_approval a b = bytes_eq a.stack b.stack && bytes_eq a.person b.person
