-- What the texts of `cargo` mean: one row more, behind those that stand, none of which is at the same position of its insert; and what is read, in a version that has the table. Which version
-- tables are of is told by the row of `meta`.
use Rattle.std.proofs.Common.{◌≡◌, ℕ, zero, suc, pos, true, List, [], ◌∷◌, map, Result, Ok, Err, OnOk, IfOk, refl, sym, ap, subst, ◌∙◌, eqb-true}
use Rattle.sqlite_value.specs.declared.value.Value.TheVariants.{Int}
use Rattle.sqlite_value.specs.Order.{Row}
use Rattle.sqlite_trees.specs.Tree.{IsTable}
use Rattle.sqlite_trees.specs.declared.store.Store.{Ghosts}
use Rattle.sqlite_keyed.proofs.RuleLemmas.{first_of_both, second_of_both}
use Rattle.sqlite_tied.specs.Compute.{everything}
use Rattle.sqlite.specs.Effect.{Database}
use Rattle.sqlite.specs.Listing.{understood, listing_schema}
use Rattle.sqlite.specs.State.{State, Executes, Shown}
use Rattle.sqlite.specs.Held.{Held, state}
use Rattle.sqlite.specs.declared.error.Error.{Error}
use Rattle.tc_types.specs.declared.tables.cargo.Cargo.{Cargo}
use Rattle.tc_types.specs.declared.tables.rows.Row.TheVariants.{Carried}
use Rattle.tc_store.specs.Ledgers.{newest}
use Rattle.tc_store.specs.declared.versions.Layout.TheVariants.{Made, Copied}
use Rattle.tc_store.specs.declared.versions.Layout.{Layout}
use Rattle.tc_store.specs.declared.versions.Version.{Version}
use Rattle.tc_store.specs.declared.versions.Version.TheVariants.{First, Second, Third}
use Rattle.tc_store.specs.Ledgers.{Ledger}
use Rattle.tc_sql.specs.Contents.{has_tree, rows_in}
use Rattle.tc_sql.specs.Lists.{ListsFrom, no_limit}
use Rattle.tc_sql.specs.Numbered.{numbered, IsKeyedAt, AreAlike, HasAppended}
use Rattle.tc_sql.specs.Puts.{PutsInto}
use Rattle.tc_sql.proofs.Appends.{appends}
use Rattle.tc_sql.proofs.Changes.{matches_at}
use Rattle.tc_store.specs.Cargo.{cargo_tree, cargo_places, cargo_form, cargo_put, cargo_terms, cargo_values, is_same_cargo}
use Rattle.tc_store.specs.Meta.{meta_tree, version_number, version_shown}
use Rattle.tc_store.specs.Loads.{all_cargo_text, all_cargo_columns, all_version_columns}
use Rattle.tc_store.specs.Schema.{HasCargo, schema_of, contents_of, HoldsAs, layout_in}
use Rattle.tc_store.specs.Shows.{shown_of, ShowsRows}
use Rattle.tc_store.specs.Reads.{IsQuiet}
use Rattle.tc_store.specs.Steps.{Ran, Step}
use Rattle.tc_store.proofs.LayoutLemmas.{in_each}
use Rattle.tc_store.proofs.SchemaLemmas.{stepped_last}
use Rattle.tc_store.proofs.LoadLemmas.{rows_numbered_in}

-- ---- a row that is written

cargo_puts : (layout : Layout) → PutsInto (schema_of layout newest) cargo_form (cargo_tree layout) cargo_put cargo_terms
unfolding understood everything
cargo_puts layout = record { at = 12; listed = refl; command = refl; plain = (refl, refl); single = refl; quiet = λ _ _. refl }

cargo_keyed : (layout : Layout) → IsKeyedAt (schema_of layout newest) cargo_form (cargo_tree layout) cargo_places
cargo_keyed Made = record { at = 9; index = _; listed = refl; guarded = refl; columns = refl; order = refl }
cargo_keyed (Copied First) = record { at = 9; index = _; listed = refl; guarded = refl; columns = refl; order = refl }
cargo_keyed (Copied Second) = record { at = 9; index = _; listed = refl; guarded = refl; columns = refl; order = refl }
cargo_keyed (Copied Third) = record { at = 8; index = _; listed = refl; guarded = refl; columns = refl; order = refl }

-- two rows at one position of an insert have the same key
tells : (y x : Cargo) (m n : ℕ) → is_same_cargo y x ≡ true → AreAlike cargo_places (Int (pos m) ∷ cargo_values y) (Int (pos n) ∷ cargo_values x)
tells y x m n h = (
  (ap (λ k. Int (pos k)) (eqb-true y.request x.request (first_of_both _ _ h)), refl),
  ((ap (λ k. Int (pos k)) (eqb-true y.position x.position (second_of_both _ _ h)), refl), tt),
)

appended : (a : Cargo) (old new : State) (count : ℕ) → Executes cargo_put (cargo_values a) old new (Ok count) → (xs : List Cargo) (layout : Layout) → old.now.schema ≡ schema_of layout newest
    → old.now.trees (cargo_tree layout) ≡ numbered (map cargo_values xs) → HasAppended (cargo_tree layout) cargo_values is_same_cargo a xs old.now new.now
appended a old new count h xs layout has held =
    appends cargo_values is_same_cargo cargo_places tells (cargo_puts layout) (cargo_keyed layout) a xs (cargo_values a) old new (Ok count) has refl refl held h

pub carried : {S : Type 0} (g : Ghosts S) (a : Cargo) (old new : Held S) (r : Result ℕ Error) → IfOk r (λ count. Ran g cargo_put (cargo_values a) count old new)
    → OnOk r (Step g (Carried a ∷ []) old new)
carried g a old new (Err e) h = tt
carried g a old new (Ok count) h =
    stepped_last g cargo_values is_same_cargo a (λ image. image.cargo) cargo_tree (Carried a) old new (in_each _ (λ ledger. refl) (λ ledger. refl) (λ ledger. refl) (λ ledger. refl))
    (in_each _ (λ ledger. refl) (λ ledger. refl) (λ ledger. refl) (λ ledger. refl))
    (in_each _ (λ ledger. refl) (λ ledger. refl) (λ ledger. refl) (λ ledger. refl)) (λ image none. none)
    (appended a (state g old) (state g new) count h.executes) h.goes

-- ---- the rows that are read

pub all_cargo_is : (layout : Layout) (version : Version) → HasCargo version → ListsFrom (schema_of layout version) (cargo_tree layout) all_cargo_text [] all_cargo_columns no_limit
unfolding understood everything
all_cargo_is Made First has = absurd has
all_cargo_is Made Second has = absurd has
all_cargo_is Made Third has = record { names = _; command = refl; plain = (refl, refl); unlisted = refl }
all_cargo_is (Copied First) First has = absurd has
all_cargo_is (Copied First) Second has = absurd has
all_cargo_is (Copied First) Third has = record { names = _; command = refl; plain = (refl, refl); unlisted = refl }
all_cargo_is (Copied Second) First has = absurd has
all_cargo_is (Copied Second) Second has = absurd has
all_cargo_is (Copied Second) Third has = record { names = _; command = refl; plain = (refl, refl); unlisted = refl }
all_cargo_is (Copied Third) First has = absurd has
all_cargo_is (Copied Third) Second has = absurd has
all_cargo_is (Copied Third) Third has = record { names = _; command = refl; plain = (refl, refl); unlisted = refl }

-- a version without the table does not understand it
pub cargo_quiet : (layout : Layout) (version : Version) → IsQuiet (understood (schema_of layout version) all_cargo_text)
unfolding understood listing_schema everything
cargo_quiet Made First = tt
cargo_quiet Made Second = tt
cargo_quiet Made Third = (refl, refl)
cargo_quiet (Copied First) First = tt
cargo_quiet (Copied First) Second = tt
cargo_quiet (Copied First) Third = (refl, refl)
cargo_quiet (Copied Second) First = tt
cargo_quiet (Copied Second) Second = tt
cargo_quiet (Copied Second) Third = (refl, refl)
cargo_quiet (Copied Third) First = tt
cargo_quiet (Copied Third) Second = tt
cargo_quiet (Copied Third) Third = (refl, refl)

cargo_named : (version : Version) (ledger : Ledger) → HasCargo version → (layout : Layout) → has_tree (cargo_tree layout) (contents_of layout version ledger.image ledger.replies) ≡ true
cargo_named First ledger has layout = absurd has
cargo_named Second ledger has layout = absurd has
cargo_named Third ledger has Made = refl
cargo_named Third ledger has (Copied First) = refl
cargo_named Third ledger has (Copied Second) = refl
cargo_named Third ledger has (Copied Third) = refl

cargo_rows : (version : Version) (ledger : Ledger) → HasCargo version → (layout : Layout)
    → rows_in (cargo_tree layout) (contents_of layout version ledger.image ledger.replies) ≡ numbered (map cargo_values ledger.image.cargo)
cargo_rows First ledger has layout = absurd has
cargo_rows Second ledger has layout = absurd has
cargo_rows Third ledger has Made = refl
cargo_rows Third ledger has (Copied First) = refl
cargo_rows Third ledger has (Copied Second) = refl
cargo_rows Third ledger has (Copied Third) = refl

pub all_cargo_shown : (version : Version) (ledger : Ledger) (old new : State) (rows : List Row) → HasCargo version → HoldsAs version old.now ledger → Shown all_cargo_text [] old new rows → rows ≡ map cargo_values ledger.image.cargo
all_cargo_shown version ledger old new rows has held h =
    rows_numbered_in cargo_tree all_cargo_columns cargo_values all_cargo_text ledger.image.cargo version (λ layout. all_cargo_is layout version has) ledger old new rows (cargo_named version ledger has)
    (cargo_rows version ledger has) (λ n x. refl) held h

-- ---- the version

abbrev version_at : ℕ → Version
version_at zero = Third
version_at (suc zero) = First
version_at (suc (suc zero)) = Second
version_at (suc (suc (suc n))) = Third

back : (version : Version) → version_at (version_number version) ≡ version
back First = refl
back Second = refl
back Third = refl

-- tables of one version do not name another
pub version_named : (of named : Version) (db : Database) (ledger : Ledger) → HoldsAs of db ledger → ShowsRows (db.trees meta_tree) all_version_columns (version_shown named ∷ []) → of ≡ named
version_named of named db ledger held shows =
    let at = matches_at db.trees meta_tree (contents_of (layout_in db) of ledger.image ledger.replies) held.rows refl in
    let shown : version_shown named ∷ [] ≡ version_shown of ∷ [] = shows.order (subst IsTable (sym at.0) at.1) ∙ ap (map (shown_of all_version_columns)) at.0 in
    let number : version_number named ≡ version_number of = cc in
    sym (back of) ∙ ap version_at (sym number) ∙ back named
