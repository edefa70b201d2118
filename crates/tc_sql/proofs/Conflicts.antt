-- A row that is put into a table that is keyed by a number, where a row may have its key: only that row conflicts, and the new one is in its place.
use Rattle.std.proofs.Common.{◌≡◌, ◌≢◌, inl, inr, ℕ, ℤ, pos, List, [], ◌∷◌, ◌++◌, append-nil, map, take, length, Bool, true, false, not, ◌&&◌, ◌||◌, true≢false, cond, Option, Some, None, Ok, refl, sym, ap, subst, ◌∙◌, eqb-true}
use Rattle.std.specs.declared.cmp.Ordering.{Ordering}
use Rattle.std.specs.declared.cmp.Ordering.TheVariants.{Less, Equal, Greater}
use Rattle.std.specs.List.{AllByRecursion}
use Rattle.std.specs.Ordering.{ordering_reverse, match_ordering, is_eq, is_lt}
use Rattle.sqlite_value.specs.declared.value.Value.TheVariants.{Int}
use Rattle.sqlite_value.specs.Order.{Row, value_cmp}
use Rattle.sqlite_value.proofs.KeyLemmas.{first_key-plain}
use Rattle.sqlite_value.proofs.OrderLemmas.{value_cmp_total}
use Rattle.sqlite_trees.specs.Tree.{Trees, rowid, has_rowid, put_row, without_rowid, IsTable}
use Rattle.sqlite_trees.proofs.TreeLemmas.{later_rowids}
use Rattle.sqlite_keyed.proofs.ListLemmas.{filter_all, all_weaker}
use Rattle.sqlite.specs.Term.{Term, eval_all}
use Rattle.sqlite.specs.Schema.{Schema}
use Rattle.sqlite.specs.Source.TheVariants.{Values}
use Rattle.sqlite.specs.Command.TheVariants.{InsertOr}
use Rattle.sqlite_schema.specs.declared.command.Conflict.{Conflict}
use Rattle.sqlite_schema.specs.declared.command.Upsert.{Upsert}
use Rattle.sqlite_schema.specs.declared.schema.Keys.TheVariants.{Enforced}
use Rattle.sqlite_schema.specs.Rules.{equal}
use Rattle.sqlite_sql.specs.Ops.{is_true, binary}
use Rattle.sqlite_rules.proofs.ListLemmas.{all_from}
use Rattle.sqlite_rules.specs.Lists.{Has}
use Rattle.sqlite_rules.specs.Keys.{aims, conflicts, AreConflicts}
use Rattle.sqlite_rules.specs.Calls.{ids_of}
use Rattle.sqlite_rules.specs.Cast.{cast_row}
use Rattle.sqlite_rules.specs.Edit.{edit_of, taken_by, id_in, with_rowid, IsNoIndex}
use Rattle.sqlite_rules.specs.declared.error.Refusal.{Refusal}
use Rattle.sqlite.specs.Rowids.TheVariants.{Chosen, Given}
use Rattle.sqlite.specs.Does.{Tally, Does, AtPlace, OnRows}
use Rattle.sqlite.specs.Rows.{Task, Written, nothing, mended, count_of, passes_over, Puts, Upserts, Judged, Tries, TriesEach}
use Rattle.sqlite.specs.Listing.{understood}
use Rattle.sqlite.specs.Effect.{Database, value_rows}
use Rattle.sqlite.specs.State.{State, mode_of, Executes}
use Rattle.sqlite.proofs.Callers.{statement_of, runs_as, one_step}
use Rattle.tc_sql.specs.Forms.{Form, table_of, row_fits}
use Rattle.tc_sql.specs.Puts.{PutsOver, HasPut, IsKeyed}
use Rattle.tc_sql.proofs.Casts.{cast_row_fits}
use Rattle.tc_sql.proofs.Keys.{keyed_rowid}
use Rattle.tc_sql.proofs.Selects.{equal_numbers}
use Rattle.tc_sql.proofs.Parts.{went, same_value}

-- ---- a row that is put where one with its rowid was taken out

put_first : (new : Row) (rows : List Row) → AllByRecursion (λ y. value_cmp (rowid new) (rowid y) ≡ Less) rows → put_row new rows ≡ new ∷ rows
put_first new [] above = refl
put_first new (y ∷ ys) above =
    ap (λ o. match_ordering o (y ∷ put_row new ys) (new ∷ ys) (new ∷ y ∷ ys)) (value_cmp_total.antisymm (rowid y) (rowid new) ∙ ap ordering_reverse above.0)

pub put_without : (new : Row) (id : ℤ) → rowid new ≡ Int id → (rows : List Row) → IsTable rows → put_row new (without_rowid id rows) ≡ put_row new rows
put_without new id keyed [] table = refl
put_without new id keyed (r ∷ rows) table = go (value_cmp (rowid r) (rowid new)) refl (put_without new id keyed rows table.1)
  where
    tie : (o : Ordering) → value_cmp (rowid r) (rowid new) ≡ o → has_rowid id r ≡ is_eq o
    tie o e = ap is_eq (ap (value_cmp (rowid r)) (sym keyed) ∙ e)

    others : (o : Ordering) → value_cmp (rowid r) (rowid new) ≡ o → is_lt o ≡ false → without_rowid id rows ≡ rows
    others o e low =
        filter_all (λ y. not (has_rowid id y)) rows
        (all_weaker (λ y. is_eq (value_cmp (rowid y) (Int id)) ≡ false) (λ y. not (has_rowid id y) ≡ true) (λ y apart. ap not apart) rows
        (later_rowids (Int id) r rows (ap is_lt (ap (value_cmp (rowid r)) (sym keyed) ∙ e) ∙ low) table.0))

    go : (o : Ordering) → value_cmp (rowid r) (rowid new) ≡ o → put_row new (without_rowid id rows) ≡ put_row new rows
        → put_row new (cond (not (has_rowid id r)) (r ∷ without_rowid id rows) (without_rowid id rows)) ≡ put_row new (r ∷ rows)
    go Less e more =
        ap (λ b. put_row new (cond (not b) (r ∷ without_rowid id rows) (without_rowid id rows))) (tie Less e)
        ∙ ap (λ o. match_ordering o (r ∷ put_row new (without_rowid id rows)) (new ∷ without_rowid id rows) (new ∷ r ∷ without_rowid id rows)) e ∙ ap (λ l. r ∷ l) more
        ∙ sym (ap (λ o. match_ordering o (r ∷ put_row new rows) (new ∷ rows) (new ∷ r ∷ rows)) e)
    go Equal e more =
        ap (λ b. put_row new (cond (not b) (r ∷ without_rowid id rows) (without_rowid id rows))) (tie Equal e) ∙ ap (put_row new) (others Equal e refl)
        ∙ put_first new rows (all_weaker (λ y. value_cmp (rowid r) (rowid y) ≡ Less) (λ y. value_cmp (rowid new) (rowid y) ≡ Less) (λ y h. sym (value_cmp_total.congr (rowid r) (rowid new) (rowid y) e) ∙ h) rows table.0)
        ∙ sym (ap (λ o. match_ordering o (r ∷ put_row new rows) (new ∷ rows) (new ∷ r ∷ rows)) e)
    go Greater e more =
        ap (λ b. put_row new (cond (not b) (r ∷ without_rowid id rows) (without_rowid id rows))) (tie Greater e) ∙ ap (λ l. put_row new (r ∷ l)) (others Greater e refl)

-- ---- only a row with the same key conflicts

all_ids : (id : ℤ) (found : List Row) → AllByRecursion (λ x. id_in (rowid x) ≡ id) found → AllByRecursion (λ i. i ≡ id) (ids_of found)
all_ids id [] h = tt
all_ids id (x ∷ xs) h = (h.0, all_ids id xs h.1)

left_of : (a b : Bool) → b ≡ false → (a || b) ≡ true → a ≡ true
left_of true b none some = refl
left_of false b none some = absurd (true≢false (sym some ∙ none))

both_left : (a : Bool) → (a && true) ≡ true → a ≡ true
both_left true h = refl
both_left false h = h

pub has_mapped : {X : Type 0} (row : X → Row) (xs : List X) (r : Row) → Has (map row xs) r → (x : X) × (r ≡ row x)
has_mapped row [] r h = absurd h
has_mapped row (x ∷ xs) r (inl same) = (x, same)
has_mapped row (x ∷ xs) r (inr more) = has_mapped row xs r more

-- ---- the statement

module _ {schema : Schema} {form : Form} {tree : ℕ} {text : List ℕ} {terms : List Term} {way : Conflict} {target : Option (List ℕ)} {clauses : List Upsert} (it : PutsOver way target clauses schema form tree text terms) where
  abbrev pub task : Option ℕ → Row → Task
  task limit params = record { limit = limit; keys = Enforced; schema = schema; table = table_of form tree; params = params }

  -- the row is in its place, and each other tree that is no index is as it was
  abbrev pub Leaves : Trees → Row → Trees → Type 0
  Leaves db v after = (after tree ≡ put_row v (db tree)) × ((t : ℕ) → t ≢ tree → IsNoIndex schema t → after t ≡ db t)

  pub put_done : (limit : Option ℕ) (params : Row) (db : Trees) (v : Row) (one : Written) → row_fits form v ≡ true → Puts (task limit params) v db (Ok one) → Leaves db v one.trees
  put_done limit params db v one fit h =
      let edit = edit_of db (table_of form tree) [] Given 0 (v ∷ []) in
      let put = went h in
      let step = one_step schema Enforced db put.0 edit (it.quiet (taken_by db edit) edit.news) put.1 in
      let trees : one.trees ≡ put.0 = ap (λ (w : Written). w.trees) (same_value put.2) in (
        ap (λ (all : Trees). all tree) trees ∙ step.rows ∙ ap (λ w. put_row w (db tree)) (cast_row_fits form tree v fit),
        λ t apart none. ap (λ (all : Trees). all t) trees ∙ step.others t apart none,
      )

  module _ (stops : (why : Refusal) → passes_over way why ≡ false) (limit : Option ℕ) (params : Row) where
    judged : (db : Trees) (v : Row) (one : Written) (verdict : Option Refusal) → Judged (task limit params) way clauses v db verdict (Ok one) → Upserts (task limit params) way v db clauses (Ok one)
    judged db v one None h = h
    judged db v one (Some why) h = absurd (let e = rw (stops why) at h in cc)

    tried : (db : Trees) (v : Row) (one : Written) → Tries (task limit params) way clauses v db (Ok one) → Upserts (task limit params) way v db clauses (Ok one)
    tried db v one (inl refused) = absurd (let e = refused.1 in cc)
    tried db v one (inr h) = judged db v one h.0 h.2

  module _ {X : Type 0} (key : X → ℕ) (row : X → Row) (keyed : IsKeyed key row) (x : X) where
    module _ (aimed : aims target (0 ∷ []) ≡ true) where
      pub same_key : (y : X) → conflicts target schema.indexes (table_of form tree) (row x) (row y) ≡ true → key y ≡ key x
      same_key y h =
          let ties = both_left _ (left_of _ _ (it.alone (row x) (row y)) (rw aimed at h)) in
          let equals : is_true (binary _ (rowid (row y)) (rowid (row x))) ≡ true = sym (ap (λ k. equal k.collation (rowid (row y)) (rowid (row x))) first_key-plain) ∙ ties in
          eqb-true (key y) (key x) (sym (equal_numbers (key y) (key x)) ∙ (rw (keyed x, keyed y) at equals))

      pub same_ids : (xs : List X) (found : List Row) → AreConflicts target schema.indexes (table_of form tree) (map row xs) (row x) found → AllByRecursion (λ i. i ≡ pos (key x)) (ids_of found)
      same_ids xs found c =
          all_ids (pos (key x)) found (all_from (λ f. id_in (rowid f) ≡ pos (key x)) found (λ f has.
          let s = c.sound f has in
          let there = has_mapped row xs s.0 s.1 in
          let tie = same_key there.0 (subst (λ r. conflicts target schema.indexes (table_of form tree) (row x) r ≡ true) there.1 s.2) in
          ap (λ (r : Row). id_in (rowid r)) s.3 ∙ ap (λ r. id_in (rowid r)) there.1 ∙ ap id_in (keyed there.0) ∙ ap pos tie))

    -- Where the statement went well, the table is as what its clauses do leaves it.
    pub one_put : (stops : (why : Refusal) → passes_over way why ≡ false) (params : Row) (old new : State) (count : ℕ) → old.now.schema ≡ schema → eval_all (take (length terms) terms) (params ∷ []) ≡ row x
        → row_fits form (row x) ≡ true → mended way (table_of form tree) (row x) ≡ row x → Executes text params old new (Ok count)
        → ((one : Written) → Upserts (task old.step_limit params) way (row x) old.now.trees clauses (Ok one) → Leaves old.now.trees (row x) one.trees) → HasPut tree (row x) old.now new.now
    one_put stops params old new count has evaluated fit whole_row h leaves =
        let width = length terms in
        let command = InsertOr it.at way (Values terms width) clauses in
        let db = old.now.trees in
        let w = runs_as text params old new schema has command it.command it.plain count h in
        let placed = subst (λ s. Does old.step_limit (mode_of old) params (record old.now { schema = s }) (statement_of text (understood schema text)) None command (Ok (w.tally, new.now))) has w.changed in
        let done : OnRows (task old.step_limit params) (mode_of old) None command db (Ok (w.tally, new.now)) =
        subst (λ o. AtPlace (λ t. OnRows (record { limit = old.step_limit; keys = Enforced; schema = schema; table = t; params = params }) (mode_of old) None command db) o (Ok (w.tally, new.now))) it.listed placed in
        let whole = went done in
        let sourced = went whole.1 in
        let given : sourced.0 ≡ row x ∷ [] =
        sourced.1.1 ∙ ap (λ n. value_rows (params ++ []) width n terms) it.single ∙ ap (λ q. eval_all (take width terms) (q ∷ []) ∷ []) (append-nil params) ∙ ap (λ v. v ∷ []) evaluated in
        let counter = went sourced.2 in
        let each = went counter.2 in
        let counted = went each.2 in
        let first = went (subst (λ rows. TriesEach (task old.step_limit params) way clauses rows (count_of counter.0) (nothing db) (Ok each.0)) given each.1) in
        let new_is : with_rowid Chosen (db tree) (cast_row (table_of form tree) (mended way (table_of form tree) (row x))) ≡ row x =
        ap (λ v. with_rowid Chosen (db tree) (cast_row (table_of form tree) v)) whole_row ∙ ap (with_rowid Chosen (db tree)) (cast_row_fits form tree (row x) fit) ∙ keyed_rowid key row keyed (db tree) x in
        let put = leaves first.0 (tried stops old.step_limit params db (row x) first.0 (subst (λ v. Tries (task old.step_limit params) way clauses v db (Ok first.0)) new_is first.1)) in
        let now : new.now ≡ record { schema = schema; trees = whole.0.trees } = ap (λ (p : Tally × Database). p.1) (same_value (went (went whole.2).2).2) in
        let trees : whole.0.trees ≡ first.0.trees =
        ap (λ (w : Written). w.trees) (same_value counted.2) ∙ same_value counted.1 ∙ ap (λ (p : Written × ℤ). p.0.trees) (same_value first.2) in
        let seen : new.now.trees ≡ first.0.trees = ap (λ (d : Database). d.trees) now ∙ trees in
        record {
          schema = ap (λ (d : Database). d.schema) now ∙ sym has;
          rows = ap (λ (t : Trees). t tree) seen ∙ put.0;
          others = λ t apart none. ap (λ (all : Trees). all t) seen ∙ put.1 t apart (subst (λ s. IsNoIndex s t) has none);
          sound = w.sound;
        }
