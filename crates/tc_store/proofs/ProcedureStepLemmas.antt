-- What the text that writes `step` means: one step more, behind those that stand, none of which is the same step of its procedure.
use Rattle.std.proofs.Common.{◌≡◌, ℕ, pos, List, [], ◌∷◌, map, true, Result, Ok, Err, OnOk, IfOk, refl, ap, eqb-true}
use Rattle.sqlite_value.specs.declared.value.Value.TheVariants.{Int, Text}
use Rattle.sqlite_keyed.proofs.RuleLemmas.{first_of_both, second_of_both}
use Rattle.sqlite_tied.specs.Compute.{everything}
use Rattle.sqlite.specs.Listing.{understood}
use Rattle.sqlite.specs.declared.error.Error.{Error}
use Rattle.sqlite_trees.specs.declared.store.Store.{Ghosts}
use Rattle.sqlite.specs.State.{State, Executes}
use Rattle.sqlite.specs.Held.{Held, state}
use Rattle.tc_store.specs.Ledgers.{newest}
use Rattle.tc_store.specs.declared.versions.Version.TheVariants.{First, Second, Third}
use Rattle.tc_store.specs.declared.versions.Layout.TheVariants.{Made, Copied}
use Rattle.tc_store.specs.declared.versions.Layout.{Layout}
use Rattle.tc_store.specs.Steps.{Ran, Step}
use Rattle.tc_types.specs.declared.tables.rows.ProcedureStep.{ProcedureStep}
use Rattle.tc_types.specs.declared.tables.rows.Row.TheVariants.{StepLoaded}
use Rattle.tc_sql.specs.Puts.{PutsInto}
use Rattle.tc_sql.specs.Numbered.{numbered, IsKeyedAt, AreAlike, HasAppended}
use Rattle.tc_sql.proofs.Appends.{appends, same_text}
use Rattle.tc_store.specs.ProcedureSteps.{step_tree, step_places, step_form, step_put, step_terms, step_values, is_same_step}
use Rattle.tc_store.specs.Schema.{schema_of}
use Rattle.tc_store.proofs.LayoutLemmas.{in_each}
use Rattle.tc_store.proofs.SchemaLemmas.{stepped_last}

step_puts : (layout : Layout) → PutsInto (schema_of layout newest) step_form (step_tree layout) step_put step_terms
unfolding understood everything
step_puts layout = record { at = 8; listed = refl; command = refl; plain = (refl, refl); single = refl; quiet = λ _ _. refl }

step_keyed : (layout : Layout) → IsKeyedAt (schema_of layout newest) step_form (step_tree layout) step_places
step_keyed Made = record { at = 6; index = _; listed = refl; guarded = refl; columns = refl; order = refl }
step_keyed (Copied First) = record { at = 5; index = _; listed = refl; guarded = refl; columns = refl; order = refl }
step_keyed (Copied Second) = record { at = 5; index = _; listed = refl; guarded = refl; columns = refl; order = refl }
step_keyed (Copied Third) = record { at = 5; index = _; listed = refl; guarded = refl; columns = refl; order = refl }

-- two rows of one step of a procedure have the same key
tells : (y x : ProcedureStep) (m n : ℕ) → is_same_step y x ≡ true → AreAlike step_places (Int (pos m) ∷ step_values y) (Int (pos n) ∷ step_values x)
tells y x m n h = (
  (ap Text (same_text y.procedure x.procedure (first_of_both _ _ h)), refl),
  ((ap (λ k. Int (pos k)) (eqb-true y.step x.step (second_of_both _ _ h)), refl), tt),
)

appended : (a : ProcedureStep) (old new : State) (count : ℕ) → Executes step_put (step_values a) old new (Ok count) → (xs : List ProcedureStep) (layout : Layout) → old.now.schema ≡ schema_of layout newest
    → old.now.trees (step_tree layout) ≡ numbered (map step_values xs) → HasAppended (step_tree layout) step_values is_same_step a xs old.now new.now
appended a old new count h xs layout has held =
    appends step_values is_same_step step_places tells (step_puts layout) (step_keyed layout) a xs (step_values a) old new (Ok count) has refl refl held h

pub loaded : {S : Type 0} (g : Ghosts S) (a : ProcedureStep) (old new : Held S) (r : Result ℕ Error) → IfOk r (λ count. Ran g step_put (step_values a) count old new)
    → OnOk r (Step g (StepLoaded a ∷ []) old new)
loaded g a old new (Err e) h = tt
loaded g a old new (Ok count) h =
    stepped_last g step_values is_same_step a (λ image. image.steps) step_tree (StepLoaded a) old new (in_each _ (λ ledger. refl) (λ ledger. refl) (λ ledger. refl) (λ ledger. refl))
    (in_each _ (λ ledger. refl) (λ ledger. refl) (λ ledger. refl) (λ ledger. refl))
    (in_each _ (λ ledger. refl) (λ ledger. refl) (λ ledger. refl) (λ ledger. refl)) (λ image none. none)
    (appended a (state g old) (state g new) count h.executes) h.goes
