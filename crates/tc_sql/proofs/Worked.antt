-- A worked table, keyed by a number and a text: what a caller writes of such a table, and what it has from the lemmas. It shows that each part is `refl`.
use Rattle.std.proofs.Common.{◌≡◌, ℕ, pos, ◌==◌, codes, List, [], ◌∷◌, map, Bool, true, ◌&&◌, None, Ok, refl, ap, eqb-true}
use Rattle.std.specs.Str.{bytes_eq}
use Rattle.sqlite_value.specs.declared.value.Value.TheVariants.{Null, Int, Text}
use Rattle.sqlite_value.specs.Order.{Row}
use Rattle.sqlite_value.specs.Keys.{plain}
use Rattle.sqlite_schema.specs.declared.schema.Kind.TheVariants as kind
use Rattle.sqlite_schema.specs.declared.schema.Schema.{Schema}
use Rattle.sqlite_sql.specs.Term.{lit, col}
use Rattle.sqlite_keyed.proofs.RuleLemmas.{first_of_both, second_of_both}
use Rattle.sqlite_catalog.specs.Change.{created}
use Rattle.sqlite_tied.specs.Compute.{everything}
use Rattle.sqlite.specs.Listing.{understood}
use Rattle.sqlite.specs.State.{State, Executes}
use Rattle.tc_sql.specs.Forms.{Form, table_of, column_of}
use Rattle.tc_sql.specs.Builds.{no_schema, DefinesTable}
use Rattle.tc_sql.specs.Puts.{PutsInto}
use Rattle.tc_sql.specs.Lists.{ListsFrom, no_limit}
use Rattle.tc_sql.specs.Numbered.{numbered, IsKeyedAt, AreAlike, HasAppended}
use Rattle.tc_sql.proofs.Appends.{appends, same_text}

abbrev form : Form
form = record {
  name = codes "approval";
  columns = column_of (codes "request") kind.Integer true ∷ column_of (codes "person") kind.Text true ∷ [];
  key = None;
  primary = 1 ∷ 2 ∷ [];
  uniques = (1 ∷ 2 ∷ []) ∷ [];
  orders = plain ∷ [];
}

abbrev schema : Schema
schema = created no_schema (table_of form 0)

is_made : DefinesTable (codes "CREATE TABLE approval (request INTEGER NOT NULL, person TEXT NOT NULL, PRIMARY KEY (request, person)) STRICT") no_schema schema
unfolding understood everything
is_made = record { table = table_of form 0; command = refl; plain = (refl, refl); whole = refl; defined = refl; uncounted = refl; is = refl }

abbrev put : List ℕ
put = codes "INSERT INTO approval (request, person) VALUES (?1, ?2)"

puts : PutsInto schema form 0 put (lit Null ∷ col 0 0 ∷ col 0 1 ∷ [])
unfolding understood everything
puts = record { at = 0; listed = refl; command = refl; plain = (refl, refl); single = refl; quiet = λ _ _. refl }

keyed : IsKeyedAt schema form 0 (1 ∷ 2 ∷ [])
keyed = record { at = 0; index = _; listed = refl; guarded = refl; columns = refl; order = refl }

lists : ListsFrom schema 0 (codes "SELECT request, person FROM approval ORDER BY rowid") [] (col 1 1 ∷ col 1 2 ∷ []) no_limit
unfolding understood everything
lists = record { names = _; command = refl; plain = (refl, refl); unlisted = refl }

record Approval : Type 0 where
  request : ℕ
  person : List ℕ

abbrev values : Approval → Row
values a = Int (pos a.request) ∷ Text a.person ∷ []

abbrev same : Approval → Approval → Bool
same a b = (a.request == b.request) && bytes_eq a.person b.person

tells : (y x : Approval) (m n : ℕ) → same y x ≡ true → AreAlike (1 ∷ 2 ∷ []) (Int (pos m) ∷ values y) (Int (pos n) ∷ values x)
tells y x m n h = (
  (ap (λ k. Int (pos k)) (eqb-true y.request x.request (first_of_both _ _ h)), refl),
  ((ap Text (same_text y.person x.person (second_of_both _ _ h)), refl), tt),
)

-- where the text went well the table has the approval last, and no other was this person's for this request
approved : (x : Approval) (xs : List Approval) (old new : State) (count : ℕ) → old.now.schema ≡ schema → old.now.trees 0 ≡ numbered (map values xs) → Executes put (values x) old new (Ok count)
    → HasAppended 0 values same x xs old.now new.now
approved x xs old new count has held h = appends values same (1 ∷ 2 ∷ []) tells puts keyed x xs (values x) old new (Ok count) has refl refl held h
