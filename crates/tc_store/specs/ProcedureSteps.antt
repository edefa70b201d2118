-- The table `step`: one row for each step of a procedure, in the order in which they were loaded. Its key is the procedure and the step.
use Rattle.std.specs.Prelude.{ℕ, pos, ◌==◌, ◌&&◌, if◌then◌else◌, Bool, true, List, [], ◌∷◌, codes, Option, Some, None}
use Rattle.std.specs.Str.{bytes_eq}
use Rattle.sqlite_value.specs.declared.value.Value.TheVariants.{Null, Int, Text}
use Rattle.sqlite_value.specs.Order.{Row}
use Rattle.sqlite_value.specs.Keys.{plain}
use Rattle.sqlite_schema.specs.declared.schema.Kind.TheVariants as kind
use Rattle.sqlite_sql.specs.Term.{Term, lit, col}
use Rattle.tc_types.specs.declared.tables.rows.ProcedureStep.{ProcedureStep}
use Rattle.tc_sql.specs.Forms.{Form, column_of}
use Rattle.tc_store.specs.declared.versions.Layout.{Layout}
use Rattle.tc_store.specs.Layouts.{past_moves}
use Rattle.tc_store.specs.declared.procedure_steps.TheConstants.{CREATE, PUT}

-- behind the index of `procedure`; the next one is its own index
abbrev pub step_tree : Layout → ℕ
step_tree layout = past_moves layout 13

-- where a row has its key
abbrev pub step_places : List ℕ
step_places = 1 ∷ 2 ∷ []

abbrev pub step_form : Form
step_form = record {
  name = codes "step";
  columns = column_of (codes "procedure") kind.Text true ∷ column_of (codes "step") kind.Integer true ∷ column_of (codes "body") kind.Text true
      ∷ column_of (codes "countersign") kind.Integer true ∷ column_of (codes "request") kind.Integer true ∷ [];
  key = None;
  primary = step_places;
  uniques = step_places ∷ [];
  orders = plain ∷ [];
}

abbrev pub step_text : List ℕ
step_text = CREATE.now

abbrev pub step_put : List ℕ
step_put = PUT.now

abbrev pub step_terms : List Term
step_terms = lit Null ∷ col 0 0 ∷ col 0 1 ∷ col 0 2 ∷ col 0 3 ∷ col 0 4 ∷ []

-- the request that a step releases, 0 for none
abbrev pub released_number : Option ℕ → ℕ
released_number None = 0
released_number (Some request) = request

-- a row, but for the number under which it stands
abbrev pub step_values : ProcedureStep → Row
step_values s = Text s.procedure ∷ Int (pos s.step) ∷ Text s.text ∷ Int (if s.is_countersigned then pos 1 else pos 0) ∷ Int (pos (released_number s.request)) ∷ []

-- the same step of one procedure
abbrev pub is_same_step : ProcedureStep → ProcedureStep → Bool
is_same_step a b = bytes_eq a.procedure b.procedure && (a.step == b.step)
