-- What the text that writes `request_approval` means: one approval more, behind those that stand, none of which is of the same request by the same person.
use Rattle.std.proofs.Common.{◌≡◌, ℕ, pos, List, [], ◌∷◌, map, true, Result, Ok, Err, OnOk, IfOk, refl, ap, eqb-true}
use Rattle.sqlite_value.specs.declared.value.Value.TheVariants.{Int, Text}
use Rattle.sqlite_keyed.proofs.RuleLemmas.{first_of_both, second_of_both}
use Rattle.sqlite_tied.specs.Compute.{everything}
use Rattle.sqlite.specs.Listing.{understood}
use Rattle.sqlite.specs.declared.error.Error.{Error}
use Rattle.sqlite_trees.specs.declared.store.Store.{Ghosts}
use Rattle.sqlite.specs.State.{State, Executes}
use Rattle.sqlite.specs.Held.{Held, state}
use Rattle.tc_store.specs.Ledgers.{newest}
use Rattle.tc_store.specs.declared.versions.Version.TheVariants.{First, Second, Third}
use Rattle.tc_store.specs.declared.versions.Layout.TheVariants.{Made, Copied}
use Rattle.tc_store.specs.declared.versions.Layout.{Layout}
use Rattle.tc_store.specs.Steps.{Ran, Step}
use Rattle.tc_types.specs.declared.tables.rows.Approval.{Approval}
use Rattle.tc_types.specs.declared.tables.rows.Row.TheVariants.{Approved}
use Rattle.tc_sql.specs.Puts.{PutsInto}
use Rattle.tc_sql.specs.Numbered.{numbered, IsKeyedAt, AreAlike, HasAppended}
use Rattle.tc_sql.proofs.Appends.{appends, same_text}
use Rattle.tc_store.specs.Approvals.{approval_tree, approval_places, approval_form, approval_put, approval_terms, approval_values, is_same_approval}
use Rattle.tc_store.specs.Schema.{schema_of}
use Rattle.tc_store.proofs.LayoutLemmas.{in_each}
use Rattle.tc_store.proofs.SchemaLemmas.{stepped_last}

approval_puts : (layout : Layout) → PutsInto (schema_of layout newest) approval_form (approval_tree layout) approval_put approval_terms
unfolding understood everything
approval_puts layout = record { at = 4; listed = refl; command = refl; plain = (refl, refl); single = refl; quiet = λ _ _. refl }

approval_keyed : (layout : Layout) → IsKeyedAt (schema_of layout newest) approval_form (approval_tree layout) approval_places
approval_keyed Made = record { at = 2; index = _; listed = refl; guarded = refl; columns = refl; order = refl }
approval_keyed (Copied First) = record { at = 1; index = _; listed = refl; guarded = refl; columns = refl; order = refl }
approval_keyed (Copied Second) = record { at = 1; index = _; listed = refl; guarded = refl; columns = refl; order = refl }
approval_keyed (Copied Third) = record { at = 1; index = _; listed = refl; guarded = refl; columns = refl; order = refl }

-- two approvals of one request by one person have the same key
tells : (y x : Approval) (m n : ℕ) → is_same_approval y x ≡ true → AreAlike approval_places (Int (pos m) ∷ approval_values y) (Int (pos n) ∷ approval_values x)
tells y x m n h = (
  (ap (λ k. Int (pos k)) (eqb-true y.request x.request (first_of_both _ _ h)), refl),
  ((ap Text (same_text y.person x.person (second_of_both _ _ h)), refl), tt),
)

appended : (a : Approval) (old new : State) (count : ℕ) → Executes approval_put (approval_values a) old new (Ok count) → (xs : List Approval) (layout : Layout) → old.now.schema ≡ schema_of layout newest
    → old.now.trees (approval_tree layout) ≡ numbered (map approval_values xs) → HasAppended (approval_tree layout) approval_values is_same_approval a xs old.now new.now
appended a old new count h xs layout has held =
    appends approval_values is_same_approval approval_places tells (approval_puts layout) (approval_keyed layout) a xs (approval_values a) old new (Ok count) has refl refl held h

pub approved : {S : Type 0} (g : Ghosts S) (a : Approval) (old new : Held S) (r : Result ℕ Error) → IfOk r (λ count. Ran g approval_put (approval_values a) count old new)
    → OnOk r (Step g (Approved a ∷ []) old new)
approved g a old new (Err e) h = tt
approved g a old new (Ok count) h =
    stepped_last g approval_values is_same_approval a (λ image. image.approvals) approval_tree (Approved a) old new (in_each _ (λ ledger. refl) (λ ledger. refl) (λ ledger. refl) (λ ledger. refl))
    (in_each _ (λ ledger. refl) (λ ledger. refl) (λ ledger. refl) (λ ledger. refl))
    (in_each _ (λ ledger. refl) (λ ledger. refl) (λ ledger. refl) (λ ledger. refl)) (λ image none. none)
    (appended a (state g old) (state g new) count h.executes) h.goes
