-- The table `tally`: how many requests stand at each place, by the place's number.
use Rattle.std.specs.Prelude.{ℕ, pos, true, false, List, [], ◌∷◌, codes, Some}
use Rattle.sqlite_value.specs.declared.value.Value.TheVariants.{Null, Int}
use Rattle.sqlite_value.specs.Order.{Row}
use Rattle.sqlite_schema.specs.declared.schema.Kind.TheVariants as kind
use Rattle.sqlite_sql.specs.Term.{Term, lit, col}
use Rattle.tc_types.specs.declared.history.places.Place.{Place}
use Rattle.tc_types.specs.declared.tables.rows.Tally.{Tally}
use Rattle.tc_types.specs.declared.tables.rows.Row.{Row as Entry}
use Rattle.tc_types.specs.declared.tables.rows.Row.TheVariants.{Tallied}
use Rattle.tc_types.specs.Lawful.{place_number}
use Rattle.tc_sql.specs.Forms.{Form, column_of}
use Rattle.tc_store.specs.declared.versions.Layout.{Layout}
use Rattle.tc_store.specs.Layouts.{past_moves}
use Rattle.tc_store.specs.declared.tallies.TheConstants.{CREATE, PUT, AMOUNTS}

-- behind that of `move`
abbrev pub tally_tree : Layout → ℕ
tally_tree layout = past_moves layout 4

abbrev pub tally_form : Form
tally_form = record {
  name = codes "tally";
  columns = column_of (codes "place") kind.Integer false ∷ column_of (codes "amount") kind.Integer true ∷ [];
  key = Some 0;
  primary = 0 ∷ [];
  uniques = [];
  orders = [];
}

abbrev pub tally_text : List ℕ
tally_text = CREATE.now

abbrev pub tally_put : List ℕ
tally_put = PUT.now

abbrev pub tally_terms : List Term
tally_terms = col 0 0 ∷ lit Null ∷ col 0 1 ∷ []

-- the parameters of a tally
abbrev pub tally_given : Tally → Row
tally_given t = Int (pos (place_number t.place)) ∷ Int (pos t.amount) ∷ []

abbrev pub tally_row : Tally → Row
tally_row t = Int (pos (place_number t.place)) ∷ Null ∷ Int (pos t.amount) ∷ []

-- the tally that a new desk has of a place
abbrev pub first_tally : Place → Entry
first_tally place = Tallied (record { place = place; amount = 0 })

-- the one column that is read
abbrev pub tally_columns : List Term
tally_columns = col 1 2 ∷ []

abbrev pub tally_shown : Tally → Row
tally_shown t = Int (pos t.amount) ∷ []

abbrev pub tallies_text : List ℕ
tallies_text = AMOUNTS.now
