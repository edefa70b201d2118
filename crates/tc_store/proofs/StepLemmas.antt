-- How the steps of a transaction follow one another.
use Rattle.std.proofs.Common.{◌≡◌, true, ℕ, ◌+◌, ◌<◌, arith, length, take, get_or, List, [], ◌∷◌, ◌++◌, Result, IfOk, refl, subst, sym, ◌∙◌}
use Rattle.std.specs.Borrow.{MutBor}
use Rattle.std.proofs.lemmas.List.{take_more}
use Rattle.std.proofs.lemmas.List.Sums.{fold_more}
use Rattle.sqlite_trees.specs.Tree.{Trees}
use Rattle.sqlite_trees.specs.declared.store.Store.{Ghosts}
use Rattle.sqlite_catalog.specs.Listing.{IsSound}
use Rattle.sqlite.specs.State.{State, HasCleanDisk, KeepsCommit, Survives}
use Rattle.sqlite.specs.Effect.{Database}
use Rattle.sqlite.specs.Held.{Held, state}
use Rattle.sqlite.proofs.StateLemmas.{survives_then}
use Rattle.tc_types.specs.declared.tables.rows.Row.{Row}
use Rattle.tc_store.specs.declared.batches.Batch.{Batch}
use Rattle.tc_types.specs.Tables.{Image, with_row, applied}
use Rattle.tc_store.specs.Ledgers.{Ledger, with_image, from_of, kept_in, written, empty_ledger}
use Rattle.tc_sql.specs.Builds.{no_schema}
use Rattle.tc_store.specs.Schema.{Holds, layout_in}
use Rattle.tc_store.specs.Steps.{Goes, Does, IsNewIn, AreNew, Step, Replied, Migrated, Wrote, Filled, HasRows, IsNewDesk, HasBatch}

-- two calls, neither of which commits
pub survives_both : (a b c : State) → Survives a b (λ _. ⊥) → Survives b c (λ _. ⊥) → Survives a c (λ _. ⊥)
survives_both a b c one two = survives_then a b c (λ _. ⊥) (λ _. ⊥) (λ _. ⊥) (λ _ db none. none) (λ _ db none. none) one two

pub keeps_then : (a b c : State) → KeepsCommit a b → KeepsCommit b c → KeepsCommit a c
keeps_then a b c one two = record { was_open = λ h. one.was_open (two.was_open h); committed = λ h. two.committed h ∙ one.committed (two.was_open h) }

-- one row more that is new
new_more : (image : Image) (rows : List Row) (row : Row) → AreNew image rows → IsNewIn (applied rows image) row → AreNew image (rows ++ row ∷ [])
new_more image [] row all one = (one, tt)
new_more image (first ∷ rows) row all one = (all.0, new_more (with_row image first) rows row all.1 one)

-- what the trees are of tables that hold a ledger
rows_of : (db : Database) (ledger : Ledger) → Holds db ledger → HasRows db.trees ledger
rows_of db ledger held = record { layout = layout_in db; fits = held.fits; rows = held.rows; listed = subst (λ s. IsSound s db.trees) held.schema held.sound }

module _ {S : Type 0} (g : Ghosts S) where
  -- what is done where a call was Ok follows from what that call did
  pub does_then : {T E : Type 0} {Done Other : T → Held S → Held S → Type 0} (old new : MutBor (Held S)) (r : Result T E) → Does g Done old new r
      → (IfOk r (λ x. Done x old.now new.now) → IfOk r (λ x. Other x old.now new.now)) → Does g Other old new r
  does_then old new r it other = record { same_reference = it.same_reference; done = λ clean inside. other (it.done clean inside); kept = it.kept; survives = it.survives }

  pub goes_same : (a : Held S) → Goes g a a
  goes_same a = record { committed = refl; mode = refl; is_open = refl }

  pub goes_then : (a b c : Held S) → Goes g a b → Goes g b c → Goes g a c
  goes_then a b c one two = record { committed = two.committed ∙ one.committed; mode = two.mode ∙ one.mode; is_open = two.is_open ∙ one.is_open }

  pub step_more : (a b c : Held S) (rows : List Row) (k : ℕ) (d : Row) → k < length rows → Step g (take k rows) a b → Step g (get_or rows k d ∷ []) b c
      → Step g (take (k + 1) rows) a c
  step_more a b c rows k d within one two = record {
    fresh = λ ledger held. subst (λ (done : List Row). AreNew ledger.image done) (sym (take_more rows k d within))
        (new_more ledger.image (take k rows) (get_or rows k d) (one.fresh ledger held) (two.fresh (with_image (take k rows) ledger) (one.holds ledger held)).0);
    holds = λ ledger held. subst (λ (it : Image). Holds (state g c).now (record ledger { image = it })) (sym (fold_more with_row ledger.image rows k d within)) (two.holds (with_image (take k rows) ledger) (one.holds ledger held));
    order = λ ledger held. two.order (with_image (take k rows) ledger) (one.holds ledger held) ∙ one.order ledger held;
    goes = goes_then a b c one.goes two.goes;
  }

  -- that a transaction was begun leaves nothing else
  survives_begun : (a b : Held S) (P : Trees → Type 0) → Survives (state g (record a { in_transaction = true })) (state g b) P → Survives (state g a) (state g b) P
  survives_begun a b P one = record { clean = one.clean; shield = one.shield; counts = one.counts; limit = one.limit; closes = one.closes; crash = one.crash }

  -- the commit of a transaction in which a batch was written leaves what stood before, or that with the whole batch
  pub survives_commit : (a b c : Held S) (batch : Batch) → Survives (state g (record a { in_transaction = true })) (state g b) (λ _. ⊥)
      → (HasCleanDisk (state g b) → Wrote g batch (record a { in_transaction = true }) b) → Survives (state g b) (state g c) (λ db. db ≡ (state g b).now.trees)
      → Survives (state g a) (state g c) (HasBatch (state g a).now batch)
  survives_commit a b c batch one step two = survives_then (state g a) (state g b) (state g c) (λ _. ⊥) (λ db. db ≡ (state g b).now.trees) (HasBatch (state g a).now batch) (λ _ db none. absurd none)
      (λ clean db is ledger held.
      let after = (step (omega (arith, clean, two.clean))).holds ledger held in
      subst (λ (trees : Trees). HasRows trees (written batch ledger)) (sym is) (rows_of (state g b).now (written batch ledger) after))
      (survives_begun a b (λ _. ⊥) one) two

  -- the commit of a transaction in which the tables of a new desk were made leaves none of them, or all
  pub survives_filled : (a b c : Held S) → Survives (state g (record a { in_transaction = true })) (state g b) (λ _. ⊥) → (HasCleanDisk (state g b) → Filled g (record a { in_transaction = true }) b) → a.schema ≡ no_schema
      → Survives (state g b) (state g c) (λ db. db ≡ (state g b).now.trees) → Survives (state g a) (state g c) IsNewDesk
  survives_filled a b c one step none two = survives_then (state g a) (state g b) (state g c) (λ _. ⊥) (λ db. db ≡ (state g b).now.trees) IsNewDesk (λ _ db never. absurd never)
      (λ clean db is.
      let after = (step (omega (arith, clean, two.clean))).holds none in
      subst (λ (trees : Trees). HasRows trees empty_ledger) (sym is) (rows_of (state g b).now empty_ledger after)) (survives_begun a b (λ _. ⊥) one) two

  -- a batch: the tables are brought to the newest version, then come the rows, then the reply
  pub wrote : (batch : Batch) (a b c d : Held S) → Migrated g (from_of batch) a b → Step g batch.rows.now b c → Replied g (kept_in batch) c d → Wrote g batch a d
  wrote batch a b c d one two three = record {
    fresh = λ ledger held. (two.fresh ledger (one.holds ledger held), three.fresh (with_image batch.rows.now ledger) (two.holds ledger (one.holds ledger held)));
    holds = λ ledger held. three.holds (with_image batch.rows.now ledger) (two.holds ledger (one.holds ledger held));
    order = λ ledger held. three.order (with_image batch.rows.now ledger) (two.holds ledger (one.holds ledger held)) ∙ two.order ledger (one.holds ledger held) ∙ one.order ledger held;
    goes = goes_then a b d one.goes (goes_then b c d two.goes three.goes);
  }
