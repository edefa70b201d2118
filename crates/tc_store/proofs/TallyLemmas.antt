-- What the texts of `tally` mean: a tally in place of the one of its place, and the amounts of all.
use Rattle.std.proofs.Common.{◌≡◌, ℕ, ◌+◌, ◌<◌, add-one, pos, List, [], ◌∷◌, ◌++◌, map, filter, take, set, length, get_or, true, Result, Ok, Err, OnOk, IfOk, refl, sym, ap, ap₂, ◌∙◌, arith}
use Rattle.std.proofs.lemmas.List.{get_or-map, length-map}
use Rattle.std.proofs.Math.Seq.{take-suc, take-suc-set}
use Rattle.sqlite_value.specs.declared.value.Value.TheVariants.{Int}
use Rattle.sqlite_value.specs.Order.{Row, column}
use Rattle.sqlite_tied.specs.Compute.{everything}
use Rattle.sqlite.specs.Listing.{understood}
use Rattle.sqlite.specs.declared.error.Error.{Error}
use Rattle.sqlite_trees.specs.Tree.{IsTable}
use Rattle.sqlite_trees.specs.declared.store.Store.{Ghosts}
use Rattle.sqlite.specs.State.{State, Executes, Shown}
use Rattle.sqlite.specs.Held.{Held, state}
use Rattle.tc_types.specs.declared.history.places.Place.TheVariants as place
use Rattle.tc_types.specs.declared.tables.rows.Row.TheVariants.{Tallied}
use Rattle.tc_types.specs.declared.tables.rows.Tally.{Tally}
use Rattle.tc_types.specs.Tables.{tally_key}
use Rattle.tc_store.specs.Ledgers.{newest}
use Rattle.tc_store.specs.declared.versions.Version.TheVariants.{First, Second, Third}
use Rattle.tc_store.specs.declared.versions.Layout.TheVariants.{Made, Copied}
use Rattle.tc_store.specs.declared.versions.Layout.{Layout}
use Rattle.tc_store.specs.declared.versions.Version.{Version}
use Rattle.tc_store.specs.Ledgers.{Ledger}
use Rattle.tc_sql.specs.Contents.{has_tree, rows_in}
use Rattle.tc_sql.specs.Lists.{ListsFrom, no_limit}
use Rattle.tc_sql.specs.Puts.{ReplacesIn, HasPut}
use Rattle.tc_sql.proofs.Replaces.{replaces}
use Rattle.tc_sql.proofs.Selects.{listed, listed_as}
use Rattle.tc_store.specs.Schema.{schema_of, contents_of, HoldsAs, layout_in}
use Rattle.tc_store.specs.Steps.{Ran, Step}
use Rattle.tc_store.specs.Tallies.{tally_tree, tally_form, tally_put, tally_terms, tally_given, tally_row, tally_columns, tally_shown, tallies_text}
use Rattle.tc_store.proofs.LayoutLemmas.{in_each}
use Rattle.tc_store.proofs.SchemaLemmas.{stepped_over}
use Rattle.tc_store.proofs.ReadLemmas.{rising}

tally_replaces : (layout : Layout) → ReplacesIn (schema_of layout newest) tally_form (tally_tree layout) tally_put tally_terms
unfolding understood everything
tally_replaces Made = record { at = 3; listed = refl; command = refl; plain = (refl, refl); single = refl; quiet = λ _ _. refl; alone = λ _ _. refl }
tally_replaces (Copied First) = record { at = 3; listed = refl; command = refl; plain = (refl, refl); single = refl; quiet = λ _ _. refl; alone = λ _ _. refl }
tally_replaces (Copied Second) = record { at = 3; listed = refl; command = refl; plain = (refl, refl); single = refl; quiet = λ _ _. refl; alone = λ _ _. refl }
tally_replaces (Copied Third) = record { at = 3; listed = refl; command = refl; plain = (refl, refl); single = refl; quiet = λ _ _. refl; alone = λ _ _. refl }

replaced : (t : Tally) (old new : State) (count : ℕ) → Executes tally_put (tally_given t) old new (Ok count) → (xs : List Tally) (layout : Layout) → old.now.schema ≡ schema_of layout newest → old.now.trees (tally_tree layout) ≡ map tally_row xs
    → IsTable (map tally_row xs) → HasPut (tally_tree layout) (tally_row t) old.now new.now
replaced t old new count h xs layout has held table = replaces (tally_replaces layout) tally_key tally_row (λ _. refl) t xs (tally_given t) old new (Ok count) has held table refl refl refl h

pub tallied : {S : Type 0} (g : Ghosts S) (t : Tally) (old new : Held S) (r : Result ℕ Error) → IfOk r (λ count. Ran g tally_put (tally_given t) count old new) → OnOk r (Step g (Tallied t ∷ []) old new)
tallied g t old new (Err e) h = tt
tallied g t old new (Ok count) h =
    stepped_over g tally_key tally_row (λ _. refl) t (λ image. image.tallies) tally_tree (Tallied t) old new (in_each _ (λ ledger. refl) (λ ledger. refl) (λ ledger. refl) (λ ledger. refl))
    (in_each _ (λ ledger. refl) (λ ledger. refl) (λ ledger. refl) (λ ledger. refl))
    (in_each _ (λ ledger. refl) (λ ledger. refl) (λ ledger. refl) (λ ledger. refl)) (λ image. tt)
    (replaced t (state g old) (state g new) count h.executes) h.goes

-- ---- the amounts

pub tallies_is : (layout : Layout) (version : Version) → ListsFrom (schema_of layout version) (tally_tree layout) tallies_text [] tally_columns no_limit
unfolding understood everything
tallies_is Made version = record { names = _; command = refl; plain = (refl, refl); unlisted = refl }
tallies_is (Copied First) version = record { names = _; command = refl; plain = (refl, refl); unlisted = refl }
tallies_is (Copied Second) version = record { names = _; command = refl; plain = (refl, refl); unlisted = refl }
tallies_is (Copied Third) version = record { names = _; command = refl; plain = (refl, refl); unlisted = refl }

filter_true : {X : Type 0} (xs : List X) → filter (λ _. true) xs ≡ xs
filter_true [] = refl
filter_true (x ∷ xs) = ap (λ l. x ∷ l) (filter_true xs)

tallies_named : (version : Version) (ledger : Ledger) (layout : Layout) → has_tree (tally_tree layout) (contents_of layout version ledger.image ledger.replies) ≡ true
tallies_named version ledger = in_each _ refl refl refl refl

tallies_there : (version : Version) (ledger : Ledger) (layout : Layout) → rows_in (tally_tree layout) (contents_of layout version ledger.image ledger.replies) ≡ map tally_row ledger.image.tallies
tallies_there version ledger = in_each _ refl refl refl refl

pub rows_tallies : (version : Version) (ledger : Ledger) (old new : State) (rows : List Row) → HoldsAs version old.now ledger → Shown tallies_text [] old new rows → rows ≡ map tally_shown ledger.image.tallies
rows_tallies version ledger old new rows held h =
    let tree = tally_tree (layout_in old.now) in
    let at = rising tree tally_row ledger.image.tallies version ledger old held (tallies_named version ledger (layout_in old.now)) (tallies_there version ledger (layout_in old.now)) in
    listed tree [] tally_columns no_limit [] (schema_of (layout_in old.now) version) tallies_text old new held.schema (tallies_is (layout_in old.now) version) rows at.1 h
    ∙ listed_as tree [] tally_columns no_limit [] tally_row tally_shown (λ (t : Tally). true) ledger.image.tallies old.now.trees at.0 (λ t. refl) (λ t. refl)
    ∙ ap (map tally_shown) (filter_true ledger.image.tallies)

abbrev none : Tally
none = record { place = place.Entered; amount = 0 }

-- one amount more was read
pub amounts_more : (rows : List Row) (all : List Tally) (amounts : List ℕ) (k n : ℕ) (d : Row) → length amounts ≡ 15 → length rows ≡ 15 → k < 15 → rows ≡ map tally_shown all → column (get_or rows k d) 0 ≡ Int (pos n)
    → take k amounts ≡ take k (map (λ (t : Tally). t.amount) all) → take (k + 1) (set amounts k n) ≡ take (k + 1) (map (λ (t : Tally). t.amount) all)
amounts_more rows all amounts k n d room whole within are read so_far =
    let low : k < length all = omega (arith, whole, within, ap length are, length-map all tally_shown) in
    let row : get_or rows k d ≡ tally_shown (get_or all k none) = ap (λ l. get_or l k d) are ∙ get_or-map tally_shown all k none d low in
    let is : Int (pos n) ≡ Int (pos (get_or all k none).amount) = sym read ∙ ap (λ r. column r 0) row in
    let amount : n ≡ (get_or all k none).amount = cc in
    rw add-one (
    take-suc-set amounts k n (omega (arith, room, within)) ∙ ap₂ (λ a b. a ++ b ∷ []) so_far (amount ∙ sym (get_or-map (λ (t : Tally). t.amount) all k none 0 low))
    ∙ sym (take-suc (map (λ (t : Tally). t.amount) all) k 0 (omega (arith, low, length-map all (λ (t : Tally). t.amount))))
    )
