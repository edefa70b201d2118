-- What the text that writes `stack_approval` means: one approval more, behind those that stand, none of which is of the same stack by the same person.
use Rattle.std.proofs.Common.{◌≡◌, ℕ, pos, List, [], ◌∷◌, map, true, Result, Ok, Err, OnOk, IfOk, refl, ap}
use Rattle.sqlite_value.specs.declared.value.Value.TheVariants.{Int, Text}
use Rattle.sqlite_keyed.proofs.RuleLemmas.{first_of_both, second_of_both}
use Rattle.sqlite_tied.specs.Compute.{everything}
use Rattle.sqlite.specs.Listing.{understood}
use Rattle.sqlite.specs.declared.error.Error.{Error}
use Rattle.sqlite_trees.specs.declared.store.Store.{Ghosts}
use Rattle.sqlite.specs.State.{State, Executes}
use Rattle.sqlite.specs.Held.{Held, state}
use Rattle.tc_store.specs.Ledgers.{newest}
use Rattle.tc_store.specs.declared.versions.Version.TheVariants.{First, Second, Third}
use Rattle.tc_store.specs.declared.versions.Layout.TheVariants.{Made, Copied}
use Rattle.tc_store.specs.declared.versions.Layout.{Layout}
use Rattle.tc_store.specs.Steps.{Ran, Step}
use Rattle.tc_types.specs.declared.tables.rows.StackApproval.{StackApproval}
use Rattle.tc_types.specs.declared.tables.rows.Row.TheVariants.{StackApproved}
use Rattle.tc_sql.specs.Puts.{PutsInto}
use Rattle.tc_sql.specs.Numbered.{numbered, IsKeyedAt, AreAlike, HasAppended}
use Rattle.tc_sql.proofs.Appends.{appends, same_text}
use Rattle.tc_store.specs.StackApprovals.{stack_approval_tree, stack_approval_places, stack_approval_form, stack_approval_put, stack_approval_terms, stack_approval_values, is_same_stack_approval}
use Rattle.tc_store.specs.Schema.{schema_of}
use Rattle.tc_store.proofs.LayoutLemmas.{in_each}
use Rattle.tc_store.proofs.SchemaLemmas.{stepped_last}

approval_puts : (layout : Layout) → PutsInto (schema_of layout newest) stack_approval_form (stack_approval_tree layout) stack_approval_put stack_approval_terms
unfolding understood everything
approval_puts layout = record { at = 6; listed = refl; command = refl; plain = (refl, refl); single = refl; quiet = λ _ _. refl }

approval_keyed : (layout : Layout) → IsKeyedAt (schema_of layout newest) stack_approval_form (stack_approval_tree layout) stack_approval_places
approval_keyed Made = record { at = 4; index = _; listed = refl; guarded = refl; columns = refl; order = refl }
approval_keyed (Copied First) = record { at = 3; index = _; listed = refl; guarded = refl; columns = refl; order = refl }
approval_keyed (Copied Second) = record { at = 3; index = _; listed = refl; guarded = refl; columns = refl; order = refl }
approval_keyed (Copied Third) = record { at = 3; index = _; listed = refl; guarded = refl; columns = refl; order = refl }

-- two approvals of one stack by one person have the same key
tells : (y x : StackApproval) (m n : ℕ) → is_same_stack_approval y x ≡ true → AreAlike stack_approval_places (Int (pos m) ∷ stack_approval_values y) (Int (pos n) ∷ stack_approval_values x)
tells y x m n h = (
  (ap Text (same_text y.stack x.stack (first_of_both _ _ h)), refl),
  ((ap Text (same_text y.person x.person (second_of_both _ _ h)), refl), tt),
)

appended : (a : StackApproval) (old new : State) (count : ℕ) → Executes stack_approval_put (stack_approval_values a) old new (Ok count) → (xs : List StackApproval) (layout : Layout) → old.now.schema ≡ schema_of layout newest
    → old.now.trees (stack_approval_tree layout) ≡ numbered (map stack_approval_values xs) → HasAppended (stack_approval_tree layout) stack_approval_values is_same_stack_approval a xs old.now new.now
appended a old new count h xs layout has held =
    appends stack_approval_values is_same_stack_approval stack_approval_places tells (approval_puts layout) (approval_keyed layout) a xs (stack_approval_values a) old new (Ok count) has refl refl held h

pub approved : {S : Type 0} (g : Ghosts S) (a : StackApproval) (old new : Held S) (r : Result ℕ Error) → IfOk r (λ count. Ran g stack_approval_put (stack_approval_values a) count old new)
    → OnOk r (Step g (StackApproved a ∷ []) old new)
approved g a old new (Err e) h = tt
approved g a old new (Ok count) h =
    stepped_last g stack_approval_values is_same_stack_approval a (λ image. image.stack_approvals) stack_approval_tree (StackApproved a) old new (in_each _ (λ ledger. refl) (λ ledger. refl) (λ ledger. refl) (λ ledger. refl))
    (in_each _ (λ ledger. refl) (λ ledger. refl) (λ ledger. refl) (λ ledger. refl))
    (in_each _ (λ ledger. refl) (λ ledger. refl) (λ ledger. refl) (λ ledger. refl)) (λ image none. none)
    (appended a (state g old) (state g new) count h.executes) h.goes
