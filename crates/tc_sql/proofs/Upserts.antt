-- An INSERT with ON CONFLICT DO UPDATE of one row into a table that is keyed by a number: the row is in its place, and in place of the one with its key.
use Rattle.std.proofs.Common.{◌≡◌, inl, inr, ℕ, ℤ, pos, List, [], ◌∷◌, ◌++◌, map, filter, drop, take, flat_map, length, true, false, cond, Option, Some, Ok, Err, Result, OnOk, refl, sym, ap, ap₂, subst, ◌∙◌, is_eq, IsPermutation}
use Rattle.std.proofs.Math.Bool.{and-true}
use Rattle.std.specs.Cmp.{tied_itself}
use Rattle.std.specs.declared.cmp.Ordering.{Ordering}
use Rattle.std.specs.declared.cmp.Ordering.TheVariants.{Less, Equal, Greater}
use Rattle.std.specs.Ordering.{is_lt}
use Rattle.sqlite_value.specs.declared.value.Value.TheVariants.{Null, Int}
use Rattle.sqlite_value.specs.Order.{Row, column, value_cmp}
use Rattle.sqlite_value.proofs.OrderLemmas.{value_cmp_total}
use Rattle.sqlite_trees.specs.Tree.{Trees, rowid, put_row, without_rowid, IsTable}
use Rattle.sqlite_trees.proofs.TreeLemmas.{later_rowids}
use Rattle.sqlite_rules.proofs.ListLemmas.{all_has}
use Rattle.sqlite_keyed.proofs.ListLemmas.{filter_none, filter-map, filter_same}
use Rattle.sqlite_keyed.proofs.SortLemmas.{sorted_unique}
use Rattle.sqlite.specs.Term.{Term, Env, eval_all}
use Rattle.sqlite.specs.Schema.{Schema}
use Rattle.sqlite_schema.specs.declared.command.Conflict.TheVariants.{Abort}
use Rattle.sqlite_schema.specs.declared.schema.Keys.TheVariants.{Enforced}
use Rattle.sqlite_value.specs.declared.keys.Collation.TheVariants.{Binary}
use Rattle.sqlite_sql.specs.declared.ops.BinaryOp.TheVariants.{Compare}
use Rattle.sqlite_sql.specs.declared.ops.CompareOp.TheVariants.{Eq}
use Rattle.sqlite_sql.specs.Ops.{binary, is_true}
use Rattle.sqlite_sql.specs.Query.{Query, IsAnswer, Output, output, output_cmp, page}
use Rattle.sqlite_sql.specs.Program.{overlay}
use Rattle.sqlite_sql.proofs.QueryLemmas.{output_cmp_total}
use Rattle.sqlite_rules.specs.Lists.{Has}
use Rattle.sqlite_rules.specs.Keys.{conflicts, AreConflicts}
use Rattle.sqlite_rules.specs.Calls.{ids_of}
use Rattle.sqlite_rules.specs.Edit.{edit_of, edited, taken_by, id_in}
use Rattle.sqlite.specs.Rowids.TheVariants.{Given}
use Rattle.sqlite.specs.Rows.{Written, Updates, Clears, Meets, Upserts, shown}
use Rattle.sqlite.specs.declared.error.Error.{Error}
use Rattle.sqlite.specs.State.{State, Executes}
use Rattle.sqlite.proofs.Callers.{one_step}
use Rattle.tc_sql.specs.Forms.{Form, table_of, row_fits}
use Rattle.tc_sql.specs.Lists.{passes}
use Rattle.tc_sql.specs.Puts.{UpsertsIn, HasPut, IsKeyed, row_again, updating, ShowsAgain}
use Rattle.tc_sql.proofs.Casts.{cast_row_fits}
use Rattle.tc_sql.proofs.Keys.{value_cmp-keyed, eq_of}
use Rattle.tc_sql.proofs.Parts.{went, same_value}
use Rattle.tc_sql.proofs.Selects.{equal_numbers, overlay_none, kept_rows}
use Rattle.tc_sql.proofs.Conflicts.{put_without, task, Leaves, put_done, same_key, has_mapped, one_put}

-- ---- the row that has a rowid

no_less : (o : Ordering) → is_eq o ≡ true → is_lt o ≡ false
no_less Less e = absurd cc
no_less Equal e = refl
no_less Greater e = refl

-- of rows whose rowids rise, one has it
one_with : (there : Row) (rows : List Row) → IsTable rows → Has rows there → filter (λ r. is_eq (value_cmp (rowid r) (rowid there))) rows ≡ there ∷ []
one_with there [] table h = absurd h
one_with there (r ∷ rows) table (inl same) =
    let tie : is_eq (value_cmp (rowid r) (rowid there)) ≡ true = ap (λ z. is_eq (value_cmp (rowid z) (rowid there))) (sym same) ∙ ap is_eq (tied_itself value_cmp_total (rowid there)) in
    let none = filter_none (λ y. is_eq (value_cmp (rowid y) (rowid there))) rows (later_rowids (rowid there) r rows (no_less _ tie) table.0) in
    rw (tie, none) (ap (λ z. z ∷ []) (sym same))
one_with there (r ∷ rows) table (inr more) =
    rw (ap is_eq (all_has (λ y. value_cmp (rowid r) (rowid y) ≡ Less) rows there table.0 more)) (one_with there rows table.1 more)

-- ---- what the query of the update shows

module _ (tree at : ℕ) (columns : List Term) (given : Row) where
  abbrev q : Query
  q = row_again tree at columns

  answers : (db : Trees) (rows : List Row) → IsAnswer q (overlay db []) given rows → (there : Row) → filter (passes q.filter given) (db tree) ≡ there ∷ [] → rows ≡ eval_all columns (given ∷ there ∷ []) ∷ []
  answers db rows a there only =
      let env : Row → Env = λ r. given ∷ r ∷ [] in
      let staged : a.staged ≡ env there ∷ [] =
      a.grouped ∙ ap (flat_map (λ r. cond (passes q.filter given r) (env r ∷ []) [])) (overlay_none db tree) ∙ kept_rows (passes q.filter given) env (db tree) ∙ ap (map env) only in
      let kept : a.kept ≡ output q (env there) ∷ [] = a.distinct ∙ ap (map (output q)) staged in
      let ordered : a.ordered ≡ output q (env there) ∷ [] =
      sorted_unique (output_cmp q) (output_cmp_total q) (output q (env there) ∷ []) a.ordered (tt, tt) (subst (λ k. IsPermutation k a.ordered) kept a.same) a.sorted in
      a.shown ∙ ap (λ os. page q given (map (λ (o : Output). o.1) os)) ordered

-- a row that fits a table begins with its rowid
begins : (form : Form) (v : Row) → row_fits form v ≡ true → rowid v ∷ drop 1 v ≡ v
begins form [] fit = absurd cc
begins form (id ∷ v) fit = refl

-- ---- the statement

module _ {schema : Schema} {form : Form} {tree : ℕ} {text : List ℕ} {terms : List Term} {at : ℕ} {columns : List Term} (it : UpsertsIn schema form tree text terms at columns) where
  -- no row had its number
  fresh : (limit : Option ℕ) (params : Row) (db : Trees) (v : Row) (found : List Row) (one : Written) → row_fits form v ≡ true → Clears (task it limit params) Abort v db found (Ok one) → Leaves it db v one.trees
  fresh limit params db v [] one fit h = put_done it limit params db v one fit h
  fresh limit params db v (x ∷ more) one fit h = put_done it limit params db v one fit h

  -- one row had it, and is written again
  over : (limit : Option ℕ) (params given : Row) (db : Trees) (v : Row) (id : ℤ) (one : Written) → row_fits form v ≡ true → rowid v ≡ Int id → IsTable (db tree) → (there : Row) → rowid there ≡ rowid v
      → filter (passes (row_again tree at columns).filter given) (db tree) ≡ there ∷ [] → eval_all columns (given ∷ there ∷ []) ≡ rowid there ∷ rowid there ∷ drop 1 v
      → Updates (task it limit params) (record { lets = []; body = row_again tree at columns }) given db (Ok one) → Leaves it db v one.trees
  over limit params given db v id one fit keyed table there same only again h =
      let queried = went h in
      let shows : queried.0 ≡ (rowid v ∷ v) ∷ [] =
      answers tree at columns given db queried.0 (queried.1.answer Null) there only ∙ ap (λ r. r ∷ []) (again ∙ ap (λ i. i ∷ i ∷ drop 1 v) same ∙ ap (λ w. rowid v ∷ w) (begins form v fit)) in
      let put = went queried.2 in
      let edit = edit_of db (table_of form tree) (ids_of queried.0) Given 1 queried.0 in
      let step = one_step schema Enforced db put.0 edit (it.quiet (taken_by db edit) edit.news) put.1 in
      let trees : one.trees ≡ put.0 = ap (λ (w : Written). w.trees) (same_value put.2) in
      let rows : edited db edit ≡ put_row v (db tree) =
      ap (λ all. edited db (edit_of db (table_of form tree) (ids_of all) Given 1 all)) shows ∙ ap (λ w. put_row w (without_rowid (id_in (rowid v)) (db tree))) (cast_row_fits form tree v fit)
      ∙ ap (λ i. put_row v (without_rowid (id_in i) (db tree))) keyed ∙ put_without v id keyed (db tree) table in (
        ap (λ (all : Trees). all tree) trees ∙ step.rows ∙ rows,
        λ t apart none. ap (λ (all : Trees). all t) trees ∙ step.others t apart none,
      )

  module _ {X : Type 0} (key : X → ℕ) (row : X → Row) (keyed : IsKeyed key row) (x : X) (xs : List X) (table : IsTable (map row xs)) where
    -- the query finds the row of the value that has the key
    finds : (given there : Row) → Has (map row xs) there → rowid there ≡ rowid (row x) → column given at ≡ rowid (row x) → filter (passes (row_again tree at columns).filter given) (map row xs) ≡ there ∷ []
    finds given there has same is =
        filter-map (passes (row_again tree at columns).filter given) row xs
        ∙ ap (map row) (filter_same (λ y. passes (row_again tree at columns).filter given (row y)) (λ y. is_eq (value_cmp (rowid (row y)) (rowid there)))
        (λ y. and-true _ ∙ ap₂ (λ a b. is_true (binary (Compare Eq Binary) a b)) (keyed y) (is ∙ keyed x) ∙ equal_numbers (key y) (key x)
        ∙ sym (ap (λ i. is_eq (value_cmp (rowid (row y)) i)) same ∙ ap is_eq (value_cmp-keyed key row keyed y x) ∙ eq_of (key y) (key x))) xs)
        ∙ sym (filter-map (λ r. is_eq (value_cmp (rowid r) (rowid there))) row xs) ∙ one_with there (map row xs) table has

    -- either way the row is in its place
    met : (limit : Option ℕ) (params : Row) (db : Trees) (found : List Row) (one : Written) → db tree ≡ map row xs → row_fits form (row x) ≡ true
        → ShowsAgain form tree at columns params (row x) → AreConflicts (Some (0 ∷ [])) schema.indexes (table_of form tree) (db tree) (row x) found
        → Meets (task it limit params) (Upserts (task it limit params) Abort (row x) db []) (row x) db (updating tree at columns) found (Ok one) → Leaves it db (row x) one.trees
    met limit params db [] one held fit shows c h = fresh limit params db (row x) h.0 one fit h.2
    met limit params db (there ∷ more) one held fit shows c h =
        let s = c.sound there (inl refl) in
        let has = subst (λ rows. Has rows s.0) held s.1 in
        let value = has_mapped row xs s.0 has in
        let tie = same_key it key row keyed x refl value.0 (subst (λ r. conflicts (Some (0 ∷ [])) schema.indexes (table_of form tree) (row x) r ≡ true) value.1 s.2) in
        let same : rowid s.0 ≡ rowid (row x) = ap rowid value.1 ∙ keyed value.0 ∙ ap (λ k. Int (pos k)) tie ∙ sym (keyed x) in
        let given = params ++ rowid there ∷ shown (table_of form tree) (row x) in
        over limit params given db (row x) (pos (key x)) one fit (keyed x) (subst IsTable (sym held) table) s.0 same
        (ap (filter (passes (row_again tree at columns).filter given)) held ∙ finds given s.0 has same (shows.placed (rowid there) ∙ ap rowid s.3 ∙ same)) (shows.again (rowid there) s.0) h

  pub upserts : {X : Type 0} (key : X → ℕ) (row : X → Row) → IsKeyed key row → (x : X) (xs : List X) (params : Row) (old new : State) (r : Result ℕ Error) → old.now.schema ≡ schema
      → old.now.trees tree ≡ map row xs → IsTable (map row xs) → eval_all (take (length terms) terms) (params ∷ []) ≡ row x → row_fits form (row x) ≡ true
      → ShowsAgain form tree at columns params (row x) → Executes text params old new r → OnOk r (HasPut tree (row x) old.now new.now)
  upserts key row keyed x xs params old new (Err e) has held table evaluated fit shows h = tt
  upserts key row keyed x xs params old new (Ok count) has held table evaluated fit shows h =
      one_put it key row keyed x (λ why. refl) params old new count has evaluated fit refl h (λ one up. met key row keyed x xs table old.step_limit params old.now.trees up.0 one held fit shows up.1 up.2)
