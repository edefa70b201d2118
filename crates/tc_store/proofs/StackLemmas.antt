-- What the text that writes `stack` means: one stack more, behind those that stand, none of which has its name.
use Rattle.std.proofs.Common.{◌≡◌, ℕ, pos, List, [], ◌∷◌, map, true, Result, Ok, Err, OnOk, IfOk, refl, ap}
use Rattle.sqlite_value.specs.declared.value.Value.TheVariants.{Int, Text}
use Rattle.sqlite_tied.specs.Compute.{everything}
use Rattle.sqlite.specs.Listing.{understood}
use Rattle.sqlite.specs.declared.error.Error.{Error}
use Rattle.sqlite_trees.specs.declared.store.Store.{Ghosts}
use Rattle.sqlite.specs.State.{State, Executes}
use Rattle.sqlite.specs.Held.{Held, state}
use Rattle.tc_store.specs.Ledgers.{newest}
use Rattle.tc_store.specs.declared.versions.Version.TheVariants.{First, Second, Third}
use Rattle.tc_store.specs.declared.versions.Layout.TheVariants.{Made, Copied}
use Rattle.tc_store.specs.declared.versions.Layout.{Layout}
use Rattle.tc_store.specs.Steps.{Ran, Step}
use Rattle.tc_types.specs.declared.tables.rows.LoadedStack.{LoadedStack}
use Rattle.tc_types.specs.declared.tables.rows.Row.TheVariants.{Loaded}
use Rattle.tc_sql.specs.Puts.{PutsInto}
use Rattle.tc_sql.specs.Numbered.{numbered, IsKeyedAt, AreAlike, HasAppended}
use Rattle.tc_sql.proofs.Appends.{appends, same_text}
use Rattle.tc_store.specs.Stacks.{stack_tree, stack_places, stack_form, stack_put, stack_terms, stack_values, is_same_stack}
use Rattle.tc_store.specs.Schema.{schema_of}
use Rattle.tc_store.proofs.LayoutLemmas.{in_each}
use Rattle.tc_store.proofs.SchemaLemmas.{stepped_last}

stack_puts : (layout : Layout) → PutsInto (schema_of layout newest) stack_form (stack_tree layout) stack_put stack_terms
unfolding understood everything
stack_puts layout = record { at = 5; listed = refl; command = refl; plain = (refl, refl); single = refl; quiet = λ _ _. refl }

stack_keyed : (layout : Layout) → IsKeyedAt (schema_of layout newest) stack_form (stack_tree layout) stack_places
stack_keyed Made = record { at = 3; index = _; listed = refl; guarded = refl; columns = refl; order = refl }
stack_keyed (Copied First) = record { at = 2; index = _; listed = refl; guarded = refl; columns = refl; order = refl }
stack_keyed (Copied Second) = record { at = 2; index = _; listed = refl; guarded = refl; columns = refl; order = refl }
stack_keyed (Copied Third) = record { at = 2; index = _; listed = refl; guarded = refl; columns = refl; order = refl }

-- two stacks with one name have the same key
tells : (y x : LoadedStack) (m n : ℕ) → is_same_stack y x ≡ true → AreAlike stack_places (Int (pos m) ∷ stack_values y) (Int (pos n) ∷ stack_values x)
tells y x m n h = ((ap Text (same_text y.name x.name h), refl), tt)

appended : (s : LoadedStack) (old new : State) (count : ℕ) → Executes stack_put (stack_values s) old new (Ok count) → (xs : List LoadedStack) (layout : Layout) → old.now.schema ≡ schema_of layout newest
    → old.now.trees (stack_tree layout) ≡ numbered (map stack_values xs) → HasAppended (stack_tree layout) stack_values is_same_stack s xs old.now new.now
appended s old new count h xs layout has held = appends stack_values is_same_stack stack_places tells (stack_puts layout) (stack_keyed layout) s xs (stack_values s) old new (Ok count) has refl refl held h

pub loaded : {S : Type 0} (g : Ghosts S) (s : LoadedStack) (old new : Held S) (r : Result ℕ Error) → IfOk r (λ count. Ran g stack_put (stack_values s) count old new) → OnOk r (Step g (Loaded s ∷ []) old new)
loaded g s old new (Err e) h = tt
loaded g s old new (Ok count) h =
    stepped_last g stack_values is_same_stack s (λ image. image.stacks) stack_tree (Loaded s) old new (in_each _ (λ ledger. refl) (λ ledger. refl) (λ ledger. refl) (λ ledger. refl))
    (in_each _ (λ ledger. refl) (λ ledger. refl) (λ ledger. refl) (λ ledger. refl))
    (in_each _ (λ ledger. refl) (λ ledger. refl) (λ ledger. refl) (λ ledger. refl)) (λ image none. none)
    (appended s (state g old) (state g new) count h.executes) h.goes
