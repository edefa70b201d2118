-- What the text that writes `procedure` means: one procedure more, behind those that stand, none of which has its name.
use Rattle.std.proofs.Common.{◌≡◌, ℕ, pos, List, [], ◌∷◌, map, true, Result, Ok, Err, OnOk, IfOk, refl, ap}
use Rattle.sqlite_value.specs.declared.value.Value.TheVariants.{Int, Text}
use Rattle.sqlite_tied.specs.Compute.{everything}
use Rattle.sqlite.specs.Listing.{understood}
use Rattle.sqlite.specs.declared.error.Error.{Error}
use Rattle.sqlite_trees.specs.declared.store.Store.{Ghosts}
use Rattle.sqlite.specs.State.{State, Executes}
use Rattle.sqlite.specs.Held.{Held, state}
use Rattle.tc_store.specs.Ledgers.{newest}
use Rattle.tc_store.specs.declared.versions.Version.TheVariants.{First, Second, Third}
use Rattle.tc_store.specs.declared.versions.Layout.TheVariants.{Made, Copied}
use Rattle.tc_store.specs.declared.versions.Layout.{Layout}
use Rattle.tc_store.specs.Steps.{Ran, Step}
use Rattle.tc_types.specs.declared.tables.rows.LoadedProcedure.{LoadedProcedure}
use Rattle.tc_types.specs.declared.tables.rows.Row.TheVariants.{ProcedureLoaded}
use Rattle.tc_sql.specs.Puts.{PutsInto}
use Rattle.tc_sql.specs.Numbered.{numbered, IsKeyedAt, AreAlike, HasAppended}
use Rattle.tc_sql.proofs.Appends.{appends, same_text}
use Rattle.tc_store.specs.Procedures.{procedure_tree, procedure_places, procedure_form, procedure_put, procedure_terms, procedure_values, is_same_procedure}
use Rattle.tc_store.specs.Schema.{schema_of}
use Rattle.tc_store.proofs.LayoutLemmas.{in_each}
use Rattle.tc_store.proofs.SchemaLemmas.{stepped_last}

procedure_puts : (layout : Layout) → PutsInto (schema_of layout newest) procedure_form (procedure_tree layout) procedure_put procedure_terms
unfolding understood everything
procedure_puts layout = record { at = 7; listed = refl; command = refl; plain = (refl, refl); single = refl; quiet = λ _ _. refl }

procedure_keyed : (layout : Layout) → IsKeyedAt (schema_of layout newest) procedure_form (procedure_tree layout) procedure_places
procedure_keyed Made = record { at = 5; index = _; listed = refl; guarded = refl; columns = refl; order = refl }
procedure_keyed (Copied First) = record { at = 4; index = _; listed = refl; guarded = refl; columns = refl; order = refl }
procedure_keyed (Copied Second) = record { at = 4; index = _; listed = refl; guarded = refl; columns = refl; order = refl }
procedure_keyed (Copied Third) = record { at = 4; index = _; listed = refl; guarded = refl; columns = refl; order = refl }

-- two procedures with one name have the same key
tells : (y x : LoadedProcedure) (m n : ℕ) → is_same_procedure y x ≡ true → AreAlike procedure_places (Int (pos m) ∷ procedure_values y) (Int (pos n) ∷ procedure_values x)
tells y x m n h = ((ap Text (same_text y.name x.name h), refl), tt)

appended : (a : LoadedProcedure) (old new : State) (count : ℕ) → Executes procedure_put (procedure_values a) old new (Ok count) → (xs : List LoadedProcedure) (layout : Layout) → old.now.schema ≡ schema_of layout newest
    → old.now.trees (procedure_tree layout) ≡ numbered (map procedure_values xs) → HasAppended (procedure_tree layout) procedure_values is_same_procedure a xs old.now new.now
appended a old new count h xs layout has held =
    appends procedure_values is_same_procedure procedure_places tells (procedure_puts layout) (procedure_keyed layout) a xs (procedure_values a) old new (Ok count) has refl refl held h

pub loaded : {S : Type 0} (g : Ghosts S) (a : LoadedProcedure) (old new : Held S) (r : Result ℕ Error) → IfOk r (λ count. Ran g procedure_put (procedure_values a) count old new)
    → OnOk r (Step g (ProcedureLoaded a ∷ []) old new)
loaded g a old new (Err e) h = tt
loaded g a old new (Ok count) h =
    stepped_last g procedure_values is_same_procedure a (λ image. image.procedures) procedure_tree (ProcedureLoaded a) old new (in_each _ (λ ledger. refl) (λ ledger. refl) (λ ledger. refl) (λ ledger. refl))
    (in_each _ (λ ledger. refl) (λ ledger. refl) (λ ledger. refl) (λ ledger. refl))
    (in_each _ (λ ledger. refl) (λ ledger. refl) (λ ledger. refl) (λ ledger. refl)) (λ image none. none)
    (appended a (state g old) (state g new) count h.executes) h.goes
