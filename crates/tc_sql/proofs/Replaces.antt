-- An INSERT OR REPLACE of one row into a table that is keyed by a number: the row is in its place, and in place of the one with its key.
use Rattle.std.proofs.Common.{◌≡◌, ℕ, ℤ, pos, List, [], ◌∷◌, map, take, length, true, not, Option, None, Ok, Err, Result, OnOk, refl, sym, ap, subst, ◌∙◌}
use Rattle.std.specs.declared.cmp.Ordering.TheVariants.{Less}
use Rattle.std.specs.List.{AllByRecursion}
use Rattle.sqlite_value.specs.declared.value.Value.TheVariants.{Int}
use Rattle.sqlite_value.specs.Order.{Row, value_cmp}
use Rattle.sqlite_trees.specs.Tree.{Trees, rowid, has_rowid, put_row, without_rowid, IsTable}
use Rattle.sqlite_keyed.proofs.ListLemmas.{ascending-filter}
use Rattle.sqlite.specs.Term.{Term, eval_all}
use Rattle.sqlite.specs.Schema.{Schema}
use Rattle.sqlite_schema.specs.declared.command.Conflict.TheVariants.{Replace}
use Rattle.sqlite_schema.specs.declared.schema.Keys.TheVariants.{Enforced}
use Rattle.sqlite_rules.specs.Keys.{AreConflicts}
use Rattle.sqlite_rules.specs.Calls.{ids_of}
use Rattle.sqlite_rules.specs.Edit.{edit_of, taken_by, without_all}
use Rattle.sqlite.specs.Rowids.TheVariants.{Given}
use Rattle.sqlite.specs.Rows.{Written, mended, Clears}
use Rattle.sqlite.specs.declared.error.Error.{Error}
use Rattle.sqlite.specs.State.{State, Executes}
use Rattle.sqlite.proofs.Callers.{one_step}
use Rattle.tc_sql.specs.Forms.{Form, table_of, row_fits}
use Rattle.tc_sql.specs.Puts.{ReplacesIn, HasPut, IsKeyed}
use Rattle.tc_sql.proofs.Parts.{went}
use Rattle.tc_sql.proofs.Conflicts.{put_without, task, Leaves, put_done, same_ids, one_put}

put_without_all : (new : Row) (id : ℤ) → rowid new ≡ Int id → (ids : List ℤ) → AllByRecursion (λ i. i ≡ id) ids → (rows : List Row) → IsTable rows → put_row new (without_all rows ids) ≡ put_row new rows
put_without_all new id keyed [] same rows table = refl
put_without_all new id keyed (i ∷ ids) same rows table =
    put_without_all new id keyed ids same.1 (without_rowid i rows) (ascending-filter (λ a b. value_cmp (rowid a) (rowid b) ≡ Less) (λ r. not (has_rowid i r)) rows table)
    ∙ ap (λ j. put_row new (without_rowid j rows)) same.0 ∙ put_without new id keyed rows table

module _ {schema : Schema} {form : Form} {tree : ℕ} {text : List ℕ} {terms : List Term} (it : ReplacesIn schema form tree text terms) where
  cleared : (limit : Option ℕ) (params : Row) (db : Trees) (v : Row) (id : ℤ) (found : List Row) (one : Written) → row_fits form v ≡ true → rowid v ≡ Int id → IsTable (db tree)
      → AllByRecursion (λ i. i ≡ id) (ids_of found) → Clears (task it limit params) Replace v db found (Ok one) → Leaves it db v one.trees
  cleared limit params db v id [] one fit keyed table same h = put_done it limit params db v one fit h
  cleared limit params db v id (x ∷ more) one fit keyed table same h =
      let edit = edit_of db (table_of form tree) (ids_of (x ∷ more)) Given 0 [] in
      let cut = went h in
      let step = one_step schema Enforced db cut.0 edit (it.quiet (taken_by db edit) edit.news) cut.1 in
      let last = put_done it limit params cut.0 v one fit cut.2 in
      (last.0 ∙ ap (put_row v) step.rows ∙ put_without_all v id keyed (ids_of (x ∷ more)) same (db tree) table, λ t apart none. last.1 t apart none ∙ step.others t apart none)

  pub replaces : {X : Type 0} (key : X → ℕ) (row : X → Row) → IsKeyed key row → (x : X) (xs : List X) (params : Row) (old new : State) (r : Result ℕ Error) → old.now.schema ≡ schema
      → old.now.trees tree ≡ map row xs → IsTable (map row xs) → eval_all (take (length terms) terms) (params ∷ []) ≡ row x → row_fits form (row x) ≡ true
      → mended Replace (table_of form tree) (row x) ≡ row x → Executes text params old new r → OnOk r (HasPut tree (row x) old.now new.now)
  replaces key row keyed x xs params old new (Err e) has held table evaluated fit whole_row h = tt
  replaces key row keyed x xs params old new (Ok count) has held table evaluated fit whole_row h =
      one_put it key row keyed x (λ why. refl) params old new count has evaluated fit whole_row h (λ one up.
      cleared old.step_limit params old.now.trees (row x) (pos (key x)) up.0 one fit (keyed x) (subst IsTable (sym held) table)
      (same_ids it key row keyed x refl xs up.0 (subst (λ rows. AreConflicts None schema.indexes (table_of form tree) rows (row x) up.0) held up.1)) up.2)
