-- What the text that writes `execution` means: one execution more in the image.
use Rattle.std.proofs.Common.{◌≡◌, ℕ, [], ◌∷◌, Result, Ok, Err, OnOk, IfOk, refl}
use Rattle.sqlite_tied.specs.Compute.{everything}
use Rattle.sqlite.specs.Listing.{understood}
use Rattle.sqlite.specs.declared.error.Error.{Error}
use Rattle.sqlite_trees.specs.declared.store.Store.{Ghosts}
use Rattle.sqlite.specs.State.{State, Executes}
use Rattle.sqlite.specs.Held.{Held, state}
use Rattle.tc_store.specs.Ledgers.{newest}
use Rattle.tc_store.specs.declared.versions.Layout.{Layout}
use Rattle.tc_store.specs.Steps.{Ran, Step}
use Rattle.tc_types.specs.declared.tables.rows.BegunExecution.{BegunExecution}
use Rattle.tc_types.specs.declared.tables.rows.Row.TheVariants.{Begun}
use Rattle.tc_types.specs.Tables.{execution_key}
use Rattle.tc_sql.specs.Puts.{PutsInto, HasInserted}
use Rattle.tc_sql.proofs.Inserts.{puts}
use Rattle.tc_store.specs.Executions.{execution_tree, execution_form, execution_put, execution_terms, execution_given, execution_row}
use Rattle.tc_store.specs.Schema.{schema_of}
use Rattle.tc_store.proofs.LayoutLemmas.{in_each}
use Rattle.tc_store.proofs.SchemaLemmas.{stepped}

execution_puts : (layout : Layout) → PutsInto (schema_of layout newest) execution_form (execution_tree layout) execution_put execution_terms
unfolding understood everything
execution_puts layout = record { at = 9; listed = refl; command = refl; plain = (refl, refl); single = refl; quiet = λ _ _. refl }

inserted : (b : BegunExecution) (old new : State) (count : ℕ) → Executes execution_put (execution_given b) old new (Ok count) → (layout : Layout) → old.now.schema ≡ schema_of layout newest → HasInserted (execution_tree layout) (execution_row b) old.now new.now
inserted b old new count h layout has = puts (execution_puts layout) execution_key execution_row (λ _. refl) b (execution_given b) old new (Ok count) has refl refl h

pub begun : {S : Type 0} (g : Ghosts S) (b : BegunExecution) (old new : Held S) (r : Result ℕ Error) → IfOk r (λ count. Ran g execution_put (execution_given b) count old new) → OnOk r (Step g (Begun b ∷ []) old new)
begun g b old new (Err e) h = tt
begun g b old new (Ok count) h =
    stepped g execution_key execution_row (λ _. refl) b (λ image. image.executions) execution_tree (Begun b) old new (in_each _ (λ ledger. refl) (λ ledger. refl) (λ ledger. refl) (λ ledger. refl))
    (in_each _ (λ ledger. refl) (λ ledger. refl) (λ ledger. refl) (λ ledger. refl))
    (in_each _ (λ ledger. refl) (λ ledger. refl) (λ ledger. refl) (λ ledger. refl)) (λ image none. none)
    (inserted b (state g old) (state g new) count h.executes) h.goes
