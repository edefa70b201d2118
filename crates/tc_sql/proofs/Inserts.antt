-- A plain INSERT of one row of VALUES.
use Rattle.std.proofs.Common.{◌≡◌, ℕ, List, [], ◌∷◌, ◌++◌, append-nil, take, length, Bool, true, false, not, ◌&&◌, true≢false, None, Ok, Err, Result, OnOk, refl, sym, ap, subst, ◌∙◌}
use Rattle.sqlite.specs.Order.{Row}
use Rattle.sqlite.specs.Term.{Term, eval_all}
use Rattle.sqlite.specs.Schema.{Schema}
use Rattle.sqlite.specs.Source.TheVariants.{Values}
use Rattle.sqlite.specs.Command.TheVariants.{Insert}
use Rattle.sqlite_schema.specs.declared.schema.Keys.TheVariants.{Enforced}
use Rattle.sqlite.specs.Edit.{edit_of, edited, left_by, taken_by, with_rowid, is_taken, are_fresh, IsNoIndex}
use Rattle.sqlite.specs.Rowids.TheVariants.{Chosen}
use Rattle.sqlite.specs.Does.{Tally, Does, AtPlace, OnRows}
use Rattle.sqlite.specs.Rows.{Written}
use Rattle.sqlite.specs.Tree.{Trees, put_row}
use Rattle.sqlite.specs.declared.error.Error.{Error}
use Rattle.sqlite.specs.Listing.{understood}
use Rattle.sqlite.specs.Effect.{Database, value_rows}
use Rattle.sqlite.specs.State.{State, mode_of, Executes}
use Rattle.sqlite.proofs.Callers.{statement_of, runs_as, one_step}
use Rattle.tc_sql.specs.Forms.{Form, table_of, row_fits}
use Rattle.tc_sql.specs.Puts.{PutsInto, HasInserted, IsKeyed}
use Rattle.tc_sql.proofs.Keys.{keyed_rowid}
use Rattle.tc_sql.proofs.Parts.{went, same_value}
use Rattle.tc_sql.proofs.Casts.{cast_row_fits}

free : (b : Bool) → (not b && true) ≡ true → b ≡ false
free true h = absurd (true≢false (sym h))
free false h = refl

module _ {schema : Schema} {form : Form} {tree : ℕ} {text : List ℕ} {terms : List Term} (it : PutsInto schema form tree text terms) where
  pub inserts : (params values : Row) (old new : State) (r : Result ℕ Error) → old.now.schema ≡ schema → eval_all (take (length terms) terms) (params ∷ []) ≡ values → row_fits form values ≡ true
      → Executes text params old new r → OnOk r (HasInserted tree (with_rowid Chosen (old.now.trees tree) values) old.now new.now)
  inserts params values old new (Err e) has evaluated fit h = tt
  inserts params values old new (Ok count) has evaluated fit h =
      let width = length terms in
      let command = Insert it.at (Values terms width) in
      let db = old.now.trees in
      let table = table_of form tree in
      let w = runs_as text params old new schema has command it.command it.plain count h in
      let placed = subst (λ s. Does old.step_limit (mode_of old) params (record old.now { schema = s }) (statement_of text (understood schema text)) None command (Ok (w.tally, new.now))) has w.changed in
      let done : OnRows (record { limit = old.step_limit; keys = Enforced; schema = schema; table = table; params = params }) (mode_of old) None command db (Ok (w.tally, new.now)) =
      subst (λ o. AtPlace (λ t. OnRows (record { limit = old.step_limit; keys = Enforced; schema = schema; table = t; params = params }) (mode_of old) None command db) o (Ok (w.tally, new.now))) it.listed placed in
      let whole = went done in
      let sourced = went whole.1 in
      let given : sourced.0 ≡ values ∷ [] =
      sourced.1.1 ∙ ap (λ n. value_rows (params ++ []) width n terms) it.single ∙ ap (λ q. eval_all (take width terms) (q ∷ []) ∷ []) (append-nil params) ∙ ap (λ v. v ∷ []) evaluated in
      let put = went (went sourced.2).2 in
      let counted = went put.2 in
      let edit = edit_of db table [] Chosen 0 sourced.0 in
      let step = one_step schema Enforced db put.0 edit (it.quiet (taken_by db edit) edit.news) put.1 in
      let edit_is : edited db edit ≡ put_row (with_rowid Chosen (db tree) values) (db tree) =
      ap (λ all. edited db (edit_of db table [] Chosen 0 all)) given ∙ ap (λ v. put_row (with_rowid Chosen (db tree) v) (db tree)) (cast_row_fits form tree values fit) in
      let now : new.now ≡ record { schema = schema; trees = whole.0.trees } = ap (λ (p : Tally × Database). p.1) (same_value (went (went whole.2).2).2) in
      let trees : whole.0.trees ≡ put.0 = ap (λ (it : Written). it.trees) (same_value counted.2) ∙ same_value counted.1 in
      let seen : new.now.trees ≡ put.0 = ap (λ (d : Database). d.trees) now ∙ trees in
      let only = edit_of db table [] Chosen 0 (values ∷ []) in
      let clear : are_fresh (left_by db only) only.news ≡ true = subst (λ all. are_fresh (left_by db (edit_of db table [] Chosen 0 all)) (edit_of db table [] Chosen 0 all).news ≡ true) given step.fresh in
      record {
        put = record {
          schema = ap (λ (d : Database). d.schema) now ∙ sym has;
          rows = ap (λ (t : Trees). t tree) seen ∙ step.rows ∙ edit_is;
          others = λ t apart none. ap (λ (all : Trees). all t) seen ∙ step.others t apart (subst (λ s. IsNoIndex s t) has none);
          sound = w.sound;
        };
        fresh = free (is_taken (db tree) (with_rowid Chosen (db tree) values))
            (subst (λ v. (not (is_taken (db tree) (with_rowid Chosen (db tree) v)) && true) ≡ true) (cast_row_fits form tree values fit) clear);
      }

  -- the same of a row that has its key
  pub puts : {X : Type 0} (key : X → ℕ) (row : X → Row) → IsKeyed key row → (x : X) (params : Row) (old new : State) (r : Result ℕ Error) → old.now.schema ≡ schema
      → eval_all (take (length terms) terms) (params ∷ []) ≡ row x → row_fits form (row x) ≡ true → Executes text params old new r → OnOk r (HasInserted tree (row x) old.now new.now)
  puts key row keyed x params old new (Err e) has evaluated fit h = tt
  puts key row keyed x params old new (Ok count) has evaluated fit h =
      subst (λ v. HasInserted tree v old.now new.now) (keyed_rowid key row keyed (old.now.trees tree) x) (inserts params (row x) old new (Ok count) has evaluated fit h)
