-- The table `cargo`: what an insert names behind its first activity, one row for each, in the order in which they were written. Its key is the insert and the position.
use Rattle.std.specs.Prelude.{ℕ, pos, ◌==◌, ◌&&◌, Bool, true, List, [], ◌∷◌, codes, None}
use Rattle.sqlite_value.specs.declared.value.Value.TheVariants.{Null, Int}
use Rattle.sqlite_value.specs.Order.{Row}
use Rattle.sqlite_value.specs.Keys.{plain}
use Rattle.sqlite_schema.specs.declared.schema.Kind.TheVariants as kind
use Rattle.sqlite_sql.specs.Term.{Term, lit, col}
use Rattle.tc_types.specs.declared.tables.cargo.Cargo.{Cargo}
use Rattle.tc_sql.specs.Forms.{Form, column_of}
use Rattle.tc_store.specs.declared.versions.Layout.{Layout}
use Rattle.tc_store.specs.Layouts.{past_replies}
use Rattle.tc_store.specs.declared.cargo.TheConstants.{CREATE, PUT}

-- behind the index of `reply`; the next one is its own index
abbrev pub cargo_tree : Layout → ℕ
cargo_tree layout = past_replies layout 20

-- where a row has its key
abbrev pub cargo_places : List ℕ
cargo_places = 1 ∷ 2 ∷ []

abbrev pub cargo_form : Form
cargo_form = record {
  name = codes "cargo";
  columns = column_of (codes "request") kind.Integer true ∷ column_of (codes "position") kind.Integer true ∷ column_of (codes "target") kind.Integer true
      ∷ column_of (codes "at_time") kind.Integer true ∷ [];
  key = None;
  primary = cargo_places;
  uniques = cargo_places ∷ [];
  orders = plain ∷ [];
}

abbrev pub cargo_text : List ℕ
cargo_text = CREATE.now

abbrev pub cargo_put : List ℕ
cargo_put = PUT.now

abbrev pub cargo_terms : List Term
cargo_terms = lit Null ∷ col 0 0 ∷ col 0 1 ∷ col 0 2 ∷ col 0 3 ∷ []

-- a row, but for the number under which it stands
abbrev pub cargo_values : Cargo → Row
cargo_values c = Int (pos c.request) ∷ Int (pos c.position) ∷ Int (pos c.ride.target) ∷ Int (pos c.ride.time) ∷ []

-- at the same position of one insert
abbrev pub is_same_cargo : Cargo → Cargo → Bool
is_same_cargo a b = (a.request == b.request) && (a.position == b.position)
