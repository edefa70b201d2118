-- What the texts that write `request` mean: one request more in the image, or one in place of the one with its number.
use Rattle.std.proofs.Common.{◌≡◌, ℕ, List, [], ◌∷◌, map, Result, Ok, Err, OnOk, IfOk, refl}
use Rattle.sqlite_tied.specs.Compute.{everything}
use Rattle.sqlite.specs.Listing.{understood}
use Rattle.sqlite.specs.declared.error.Error.{Error}
use Rattle.sqlite_trees.specs.Tree.{IsTable}
use Rattle.sqlite_trees.specs.declared.store.Store.{Ghosts}
use Rattle.sqlite.specs.State.{State, Executes}
use Rattle.sqlite.specs.Held.{Held, state}
use Rattle.tc_store.specs.Ledgers.{newest}
use Rattle.tc_store.specs.declared.versions.Version.TheVariants.{First, Second, Third}
use Rattle.tc_store.specs.declared.versions.Layout.TheVariants.{Made, Copied}
use Rattle.tc_store.specs.declared.versions.Layout.{Layout}
use Rattle.tc_store.specs.Steps.{Ran, Step}
use Rattle.tc_types.specs.declared.history.places.Place.TheVariants as place
use Rattle.tc_types.specs.declared.requests.Request.{Request}
use Rattle.tc_types.specs.declared.tables.rows.PlacedRequest.{PlacedRequest}
use Rattle.tc_types.specs.declared.tables.rows.Row.TheVariants.{Entered, Placed}
use Rattle.tc_types.specs.Tables.{request_key}
use Rattle.tc_sql.specs.Puts.{PutsInto, UpsertsIn, HasPut, HasInserted}
use Rattle.tc_sql.proofs.Inserts.{puts}
use Rattle.tc_sql.proofs.Upserts.{upserts}
use Rattle.tc_store.specs.Requests.{request_tree, request_form, request_put, request_put_again, request_terms, request_again, request_given, request_row}
use Rattle.tc_store.specs.Schema.{schema_of}
use Rattle.tc_store.proofs.LayoutLemmas.{in_each}
use Rattle.tc_store.proofs.SchemaLemmas.{stepped, stepped_over}

request_puts : (layout : Layout) → PutsInto (schema_of layout newest) request_form request_tree request_put request_terms
unfolding understood everything
request_puts layout = record { at = 1; listed = refl; command = refl; plain = (refl, refl); single = refl; quiet = λ _ _. refl }

request_upserts : (layout : Layout) → UpsertsIn (schema_of layout newest) request_form request_tree request_put_again request_terms 15 request_again
unfolding understood everything
request_upserts Made = record { at = 1; listed = refl; command = refl; plain = (refl, refl); single = refl; quiet = λ _ _. refl; alone = λ _ _. refl }
request_upserts (Copied First) = record { at = 1; listed = refl; command = refl; plain = (refl, refl); single = refl; quiet = λ _ _. refl; alone = λ _ _. refl }
request_upserts (Copied Second) = record { at = 1; listed = refl; command = refl; plain = (refl, refl); single = refl; quiet = λ _ _. refl; alone = λ _ _. refl }
request_upserts (Copied Third) = record { at = 1; listed = refl; command = refl; plain = (refl, refl); single = refl; quiet = λ _ _. refl; alone = λ _ _. refl }

inserted : (r : PlacedRequest) (old new : State) (count : ℕ) → Executes request_put (request_given r) old new (Ok count) → (layout : Layout) → old.now.schema ≡ schema_of layout newest → HasInserted request_tree (request_row r) old.now new.now
inserted r old new count h layout has = puts (request_puts layout) request_key request_row (λ _. refl) r (request_given r) old new (Ok count) has refl refl h

put_again : (r : PlacedRequest) (old new : State) (count : ℕ) → Executes request_put_again (request_given r) old new (Ok count) → (xs : List PlacedRequest) (layout : Layout) → old.now.schema ≡ schema_of layout newest
    → old.now.trees request_tree ≡ map request_row xs → IsTable (map request_row xs) → HasPut request_tree (request_row r) old.now new.now
put_again r old new count h xs layout has held table =
    upserts (request_upserts layout) request_key request_row (λ _. refl) r xs (request_given r) old new (Ok count) has held table refl refl (record { placed = λ _. refl; again = λ _ _. refl }) h

-- a request that is entered, where it stands then
abbrev entered_at : Request → PlacedRequest
entered_at request = record { request = request; place = place.Entered }

pub entered : {S : Type 0} (g : Ghosts S) (m : Request) (old new : Held S) (r : Result ℕ Error) → IfOk r (λ count. Ran g request_put (request_given (entered_at m)) count old new)
    → OnOk r (Step g (Entered m ∷ []) old new)
entered g m old new (Err e) h = tt
entered g m old new (Ok count) h =
    stepped g request_key request_row (λ _. refl) (entered_at m) (λ image. image.requests) (λ _. request_tree) (Entered m) old new (in_each _ (λ ledger. refl) (λ ledger. refl) (λ ledger. refl) (λ ledger. refl))
    (in_each _ (λ ledger. refl) (λ ledger. refl) (λ ledger. refl) (λ ledger. refl))
    (in_each _ (λ ledger. refl) (λ ledger. refl) (λ ledger. refl) (λ ledger. refl)) (λ image none. none)
    (inserted (entered_at m) (state g old) (state g new) count h.executes) h.goes

pub placed : {S : Type 0} (g : Ghosts S) (m : PlacedRequest) (old new : Held S) (r : Result ℕ Error) → IfOk r (λ count. Ran g request_put_again (request_given m) count old new)
    → OnOk r (Step g (Placed m ∷ []) old new)
placed g m old new (Err e) h = tt
placed g m old new (Ok count) h =
    stepped_over g request_key request_row (λ _. refl) m (λ image. image.requests) (λ _. request_tree) (Placed m) old new (in_each _ (λ ledger. refl) (λ ledger. refl) (λ ledger. refl) (λ ledger. refl))
    (in_each _ (λ ledger. refl) (λ ledger. refl) (λ ledger. refl) (λ ledger. refl))
    (in_each _ (λ ledger. refl) (λ ledger. refl) (λ ledger. refl) (λ ledger. refl)) (λ image. tt)
    (put_again m (state g old) (state g new) count h.executes) h.goes
