-- A plain INSERT into a table whose key is a text or several columns: the row comes last, with the next number, and no row had its key.
use Rattle.std.proofs.Common.{◌≡◌, ℕ, ◌+◌, ◌<◌, arith, pos, ◌+ℤ◌, List, [], ◌∷◌, ◌++◌, map, filter, take, length, fold, Bool, true, false, not, cond, ◌&&◌, ◌||◌, is_eq, Some, Ok, Err, Result, OnOk, refl, sym, ap, ap₂, subst, ◌∙◌}
use Rattle.std.proofs.lemmas.Bool.Decides.{nat_tests}
use Rattle.std.proofs.lemmas.Cmp.{tied_itself}
use Rattle.std.proofs.lemmas.List.{length-map}
use Rattle.std.proofs.lemmas.Slice.Eq.{bytes_eq-Decides}
use Rattle.std.specs.Str.{bytes_eq}
use Rattle.std.specs.declared.cmp.Ordering.TheVariants.{Less}
use Rattle.std.specs.Ordering.{nat_cmp, is_ne, match_ordering}
use Rattle.std.specs.List.{AllByRecursion, list_any}
use Rattle.sqlite_value.specs.declared.value.Value.{Value}
use Rattle.sqlite_value.specs.declared.value.Value.TheVariants.{Null, Int}
use Rattle.sqlite_value.specs.declared.keys.Collation.TheVariants.{Binary}
use Rattle.sqlite_value.specs.Order.{Row, column, value_cmp}
use Rattle.sqlite_value.specs.Keys.{plain}
use Rattle.sqlite_value.proofs.KeyLemmas.{first_key-plain}
use Rattle.sqlite_value.proofs.OrderLemmas.{value_cmp-Int, value_cmp_total}
use Rattle.sqlite_trees.specs.Tree.{rowid, put_row}
use Rattle.sqlite_trees.proofs.ListLemmas.{all-slice_get}
use Rattle.sqlite_sql.specs.Ops.{binary, is_true, is_null, from_truth}
use Rattle.sqlite_sql.specs.Term.{Term, eval_all}
use Rattle.sqlite_schema.specs.declared.schema.Constraint.TheVariants.{Unique}
use Rattle.sqlite_schema.specs.declared.schema.Table.{Table}
use Rattle.sqlite_schema.specs.declared.schema.Schema.{Schema}
use Rattle.sqlite_schema.specs.Rules.{agree, equal, differ, clashes, guards, passes}
use Rattle.sqlite_keyed.proofs.ListLemmas.{all_from_test}
use Rattle.sqlite_rules.specs.declared.error.Rowids.TheVariants.{Chosen}
use Rattle.sqlite_rules.specs.Edit.{id_in, with_rowid}
use Rattle.sqlite.specs.declared.error.Error.{Error}
use Rattle.sqlite.specs.Effect.{Database}
use Rattle.sqlite.specs.State.{State, Executes}
use Rattle.tc_sql.specs.Forms.{Form, table_of, row_fits}
use Rattle.tc_sql.specs.Puts.{PutsInto, HasPut}
use Rattle.tc_sql.specs.Contents.{Contents, Matches, has_tree, rows_in, with_rows, are_tables}
use Rattle.tc_sql.specs.Numbered.{numbered_from, numbered, IsKeyedAt, AreAlike, HasAppended}
use Rattle.tc_sql.proofs.Keys.{int_cmp-pos}
use Rattle.tc_sql.proofs.Inserts.{inserts}
use Rattle.tc_sql.proofs.Changes.{matches_at, matches_put}

-- ---- the number of the next row, and where it comes

less_of : (m n : ℕ) → m < n → nat_cmp m n ≡ Less
less_of m n h = grind (arith, nat_tests, h)

below : (m n : ℕ) → m < n → value_cmp (Int (pos m)) (Int (pos n)) ≡ Less
below m n h = value_cmp-Int (pos m) (pos n) ∙ int_cmp-pos m n ∙ less_of m n h

next_number : (n : ℕ) (rows : List Row) → fold (λ _ r. id_in (rowid r) +ℤ pos 1) (pos n) (numbered_from n rows) ≡ pos (n + length rows)
next_number n [] = ap pos (omega arith)
next_number n (r ∷ rows) = next_number (n + 1) rows ∙ ap pos (omega arith)

put_last : (n m : ℕ) (values : Row) (rows : List Row) → m ≡ n + length rows → put_row (Int (pos m) ∷ values) (numbered_from n rows) ≡ numbered_from n (rows ++ values ∷ [])
put_last n m values [] is = ap (λ k. (Int (pos k) ∷ values) ∷ []) (omega (arith, is))
put_last n m values (r ∷ rows) is =
    ap (λ o. match_ordering o ((Int (pos n) ∷ r) ∷ put_row (Int (pos m) ∷ values) (numbered_from (n + 1) rows)) ((Int (pos m) ∷ values) ∷ numbered_from (n + 1) rows)
    ((Int (pos m) ∷ values) ∷ (Int (pos n) ∷ r) ∷ numbered_from (n + 1) rows)) (below n m (omega (arith, is)))
    ∙ ap (λ l. (Int (pos n) ∷ r) ∷ l) (put_last (n + 1) m values rows (omega (arith, is)))

pub next_row : (values : Row) (rows : List Row) → with_rowid Chosen (numbered rows) (Null ∷ values) ≡ Int (pos (1 + length rows)) ∷ values
next_row values rows = ap (λ n. Int n ∷ values) (next_number 1 rows)

-- ---- a key that is there already

truth_of : (b : Bool) → is_true (from_truth (Some b)) ≡ b
truth_of true = refl
truth_of false = refl

differ_numbers : (m n : ℕ) → m < n → differ (Int (pos m)) (Int (pos n)) ≡ true
unfolding binary
differ_numbers m n h = truth_of _ ∙ ap is_ne (below m n h)

equal_values : (a b : Value) → a ≡ b → is_null b ≡ false → equal Binary a b ≡ true
unfolding binary
equal_values a b same there =
    ap (λ (v : Value). equal Binary v b) same ∙ ap (λ n. is_true (cond (n || n) Null (from_truth (Some (is_eq (value_cmp b b)))))) there ∙ truth_of _ ∙ ap is_eq (tied_itself value_cmp_total b)

pub agree_alike : (places : List ℕ) (a b : Row) → AreAlike places a b → agree plain places a places b ≡ true
agree_alike [] a b alike = refl
agree_alike (p ∷ ps) a b alike =
    ap₂ (λ x y. x && y) (ap (λ k. equal k.collation (column a p) (column b p)) first_key-plain ∙ equal_values (column a p) (column b p) alike.0.0 alike.0.1) (agree_alike ps a b alike.1)

pub same_text : (s t : List ℕ) → bytes_eq s t ≡ true → s ≡ t
same_text s t = (bytes_eq-Decides s t).0

neither : (a b : Bool) → (a || b) ≡ false → (a ≡ false) × (b ≡ false)
neither false b h = (refl, h)
neither true b h = absurd cc

not_both : (a b : Bool) → (a && b) ≡ false → b ≡ true → a ≡ false
not_both false b h there = refl
not_both true b h there = absurd (let e = h in let f = there in cc)

unguarded : (a b : Bool) → not (a && b) ≡ true → a ≡ true → b ≡ false
unguarded true false h there = refl
unguarded true true h there = absurd (let e = h in cc)
unguarded false b h there = absurd (let e = there in cc)

not_so : (a b : Bool) → (a ≡ true → b ≡ true) → b ≡ false → a ≡ false
not_so false b h none = refl
not_so true b h none = absurd (let e = h refl in cc)

module _ {X : Type 0} (values : X → Row) (same : X → X → Bool) (places : List ℕ)
    (tells : (y x : X) (m n : ℕ) → same y x ≡ true → AreAlike places (Int (pos m) ∷ values y) (Int (pos n) ∷ values x)) where
  -- where no row of the table clashes with the last one, none before it has its key
  none_same : (n m : ℕ) (x : X) (xs : List X) → m ≡ n + length xs
      → list_any (λ other. agree plain places other places (Int (pos m) ∷ values x) && differ (rowid other) (Int (pos m))) (numbered_from n (map values xs ++ values x ∷ [])) ≡ false → list_any (λ y. same y x) xs ≡ false
  none_same n m x [] is none = refl
  none_same n m x (y ∷ ys) is none =
      let low : n < m = omega (arith, is) in
      let later : m ≡ (n + 1) + length ys = omega (arith, is) in
      let parts = neither _ _ none in
      let apart = not_both _ _ parts.0 (differ_numbers n m low) in
      ap₂ (λ a b. a || b) (not_so (same y x) _ (λ h. agree_alike places _ _ (tells y x n m h)) apart) (none_same (n + 1) m x ys later parts.1)

  last_of : (P : Row → Type 0) (n m : ℕ) (x : X) (xs : List X) → m ≡ n + length xs → AllByRecursion P (numbered_from n (map values xs ++ values x ∷ [])) → P (Int (pos m) ∷ values x)
  last_of P n m x [] is all = subst (λ k. P (Int (pos k) ∷ values x)) (omega (arith, is)) all.0
  last_of P n m x (y ∷ ys) is all = last_of P (n + 1) m x ys (omega (arith, is)) all.1

  module _ {schema : Schema} {form : Form} {tree : ℕ} {text : List ℕ} {terms : List Term} (it : PutsInto schema form tree text terms) (key : IsKeyedAt schema form tree places) where
    unclashed : (db : Database) (x : X) (xs : List X) → db.schema ≡ schema → db.trees tree ≡ numbered (map values xs ++ values x ∷ [])
        → AllByRecursion (λ (t : Table). AllByRecursion (λ row. passes Unique db.schema db.trees t row ≡ true) (db.trees t.tree)) db.schema.tables → list_any (λ y. same y x) xs ≡ false
    unclashed db x xs has is rules =
        let last = Int (pos (1 + length xs)) ∷ values x in
        let ours : AllByRecursion (λ row. passes Unique schema db.trees (table_of form tree) row ≡ true) (db.trees tree) =
        all-slice_get (λ (t : Table). AllByRecursion (λ row. passes Unique schema db.trees t row ≡ true) (db.trees t.tree)) schema.tables it.at (table_of form tree) it.listed
        (subst (λ (s : Schema). AllByRecursion (λ (t : Table). AllByRecursion (λ row. passes Unique s db.trees t row ≡ true) (db.trees t.tree)) s.tables) has rules) in
        let row : passes Unique schema db.trees (table_of form tree) last ≡ true =
        last_of (λ r. passes Unique schema db.trees (table_of form tree) r ≡ true) 1 (1 + length xs) x xs refl (subst (AllByRecursion (λ r. passes Unique schema db.trees (table_of form tree) r ≡ true)) is ours) in
        let clash : clashes key.index.order key.index.columns (db.trees tree) last ≡ false =
        unguarded (guards key.index (table_of form tree)) _
        (all-slice_get (λ i. not (guards i (table_of form tree) && clashes i.order i.columns (db.trees tree) last) ≡ true) schema.indexes key.at key.index key.listed
        (all_from_test (λ i. not (guards i (table_of form tree) && clashes i.order i.columns (db.trees tree) last)) schema.indexes row)) key.guarded in
        none_same 1 (1 + length xs) x xs refl
        (ap (λ rows. clashes plain places rows last) (sym is) ∙ sym (ap₂ (λ o ps. clashes o ps (db.trees tree) last) key.order key.columns) ∙ clash)

    pub appends : (x : X) (xs : List X) (params : Row) (old new : State) (r : Result ℕ Error) → old.now.schema ≡ schema → eval_all (take (length terms) terms) (params ∷ []) ≡ Null ∷ values x
        → row_fits form (Null ∷ values x) ≡ true → old.now.trees tree ≡ numbered (map values xs) → Executes text params old new r → OnOk r (HasAppended tree values same x xs old.now new.now)
    appends x xs params old new (Err e) has evaluated fit held h = tt
    appends x xs params old new (Ok count) has evaluated fit held h =
        let done = (inserts it params (Null ∷ values x) old new (Ok count) has evaluated fit h).put in
        let row : with_rowid Chosen (old.now.trees tree) (Null ∷ values x) ≡ Int (pos (1 + length xs)) ∷ values x =
        ap (λ rows. with_rowid Chosen rows (Null ∷ values x)) held ∙ next_row (values x) (map values xs) ∙ ap (λ n. Int (pos (1 + n)) ∷ values x) (length-map xs values) in
        let put : HasPut tree (Int (pos (1 + length xs)) ∷ values x) old.now new.now = subst (λ v. HasPut tree v old.now new.now) row done in
        let rows : new.now.trees tree ≡ numbered (map values xs ++ values x ∷ []) =
        put.rows ∙ ap (put_row (Int (pos (1 + length xs)) ∷ values x)) held ∙ put_last 1 (1 + length xs) (values x) (map values xs) (ap (λ n. 1 + n) (sym (length-map xs values))) in
        record { put = put; alone = unclashed new.now x xs (put.schema ∙ has) rows (put.sound.obeys.rules Unique) }

-- ---- the tables with one row more in one of them

map_last : {X : Type 0} (values : X → Row) (x : X) (xs : List X) → map values xs ++ values x ∷ [] ≡ map values (xs ++ x ∷ [])
map_last values x [] = refl
map_last values x (y ∷ ys) = ap (λ l. values y ∷ l) (map_last values x ys)

pub matches_appended : {X : Type 0} (values : X → Row) (same : X → X → Bool) (x : X) (xs : List X) (tree : ℕ) (old new : Database) (all : Contents) → HasAppended tree values same x xs old new
    → are_tables old.schema all ≡ true → has_tree tree all ≡ true → rows_in tree all ≡ numbered (map values xs) → Matches old.trees all → Matches new.trees (with_rows tree (numbered (map values (xs ++ x ∷ []))) all)
matches_appended values same x xs tree old new all appended clear named is it =
    matches_put tree (Int (pos (1 + length xs)) ∷ values x) (numbered (map values (xs ++ x ∷ []))) old new all appended.put clear
    (ap numbered (sym (map_last values x xs)) ∙ sym (put_last 1 (1 + length xs) (values x) (map values xs) (ap (λ n. 1 + n) (sym (length-map xs values))))
    ∙ ap (put_row (Int (pos (1 + length xs)) ∷ values x)) (sym ((matches_at old.trees tree all it named).0 ∙ is))) it

-- ---- what a SELECT shows of such a table

pub shown_numbered : {X : Type 0} (values shown : X → Row) (passes : Row → Bool) (pass : X → Bool) (show : Row → Row) → ((n : ℕ) (x : X) → passes (Int (pos n) ∷ values x) ≡ pass x)
    → ((n : ℕ) (x : X) → show (Int (pos n) ∷ values x) ≡ shown x) → (n : ℕ) (xs : List X) → map show (filter passes (numbered_from n (map values xs))) ≡ map shown (filter pass xs)
shown_numbered values shown passes pass show same showed n [] = refl
shown_numbered {X} values shown passes pass show same showed n (x ∷ xs) =
    ap (λ b. map show (cond b ((Int (pos n) ∷ values x) ∷ filter passes (numbered_from (n + 1) (map values xs))) (filter passes (numbered_from (n + 1) (map values xs))))) (same n x)
    ∙ go (pass x) (shown_numbered values shown passes pass show same showed (n + 1) xs)
  where
    go : (b : Bool) → map show (filter passes (numbered_from (n + 1) (map values xs))) ≡ map shown (filter pass xs)
        → map show (cond b ((Int (pos n) ∷ values x) ∷ filter passes (numbered_from (n + 1) (map values xs))) (filter passes (numbered_from (n + 1) (map values xs)))) ≡ map shown (cond b (x ∷ filter pass xs) (filter pass xs))
    go true h = ap₂ (λ a l. a ∷ l) (showed n x) h
    go false h = h
