-- One row more in one table: its tree takes the row, and each other table is as it was.
use Rattle.std.proofs.Common.{◌≡◌, ◌≢◌, ℕ, ◌==◌, List, [], ◌∷◌, map, Bool, true, false, not, cond, refl, sym, ap, subst, ◌∙◌, eqb-true, eq-eqb, true≢false, ◌||◌}
use Rattle.std.specs.List.{AllByRecursion, list_any}
use Rattle.sqlite_value.specs.Order.{Row}
use Rattle.sqlite_trees.specs.Tree.{Trees, IsTable, put_row}
use Rattle.sqlite_trees.proofs.TreeLemmas.{IsTable-put_row}
use Rattle.sqlite_schema.specs.declared.schema.Index.{Index}
use Rattle.sqlite_keyed.proofs.RuleLemmas.{first_of_both, second_of_both}
use Rattle.sqlite.specs.Effect.{Database}
use Rattle.tc_sql.specs.Puts.{HasPut, IsKeyed, put_by}
use Rattle.tc_sql.proofs.Keys.{put_keyed}
use Rattle.tc_sql.specs.Contents.{Contents, Matches, has_tree, rows_in, with_rows, are_tables}

other_number : (m n : ℕ) → (m == n) ≡ false → m ≢ n
other_number m n h same = absurd (true≢false (sym (eq-eqb m n same) ∙ h))

no_index : (indexes : List Index) (t : ℕ) → not (list_any (λ i. i.tree == t) indexes) ≡ true → AllByRecursion (λ i. i.tree ≢ t) indexes
no_index [] t h = tt
no_index (i ∷ is) t h = go (i.tree == t) refl h (no_index is t)
  where
    go : (b : Bool) → (i.tree == t) ≡ b → not (b || list_any (λ j. j.tree == t) is) ≡ true → (not (list_any (λ j. j.tree == t) is) ≡ true → AllByRecursion (λ j. j.tree ≢ t) is)
        → (i.tree ≢ t) × AllByRecursion (λ j. j.tree ≢ t) is
    go true same none more = absurd (true≢false (sym none))
    go false apart none more = (other_number i.tree t apart, more none)

-- a tree that is named has the rows that it is named with
pub matches_at : (trees : Trees) (tree : ℕ) (all : Contents) → Matches trees all → has_tree tree all ≡ true → (trees tree ≡ rows_in tree all) × IsTable (rows_in tree all)
matches_at trees tree [] it has = absurd cc
matches_at trees tree (e ∷ all) it has = go (e.0 == tree) refl has (matches_at trees tree all it.1)
  where
    go : (b : Bool) → (e.0 == tree) ≡ b → (b || has_tree tree all) ≡ true → (has_tree tree all ≡ true → (trees tree ≡ rows_in tree all) × IsTable (rows_in tree all))
        → (trees tree ≡ cond b e.1 (rows_in tree all)) × IsTable (cond b e.1 (rows_in tree all))
    go true same named more = (subst (λ t. trees t ≡ e.1) (eqb-true e.0 tree same) it.0.0, it.0.1)
    go false apart named more = more named

-- an INSERT makes of what the trees have what the tables have with one row more
pub matches_put : (tree : ℕ) (row : Row) (rows : List Row) (old new : Database) (all : Contents) → HasPut tree row old new → are_tables old.schema all ≡ true → rows ≡ put_row row (old.trees tree)
    → Matches old.trees all → Matches new.trees (with_rows tree rows all)
matches_put tree row rows old new [] put clear is it = tt
matches_put tree row rows old new (e ∷ all) put clear is it = (go (e.0 == tree) refl, matches_put tree row rows old new all put (second_of_both _ _ clear) is it.1)
  where
    go : (b : Bool) → (e.0 == tree) ≡ b → (new.trees e.0 ≡ cond b rows e.1) × IsTable (cond b rows e.1)
    go true same =
        let there = eqb-true e.0 tree same in
        (ap new.trees there ∙ put.rows ∙ sym is, subst IsTable (ap (put_row row) (sym it.0.0 ∙ ap old.trees there) ∙ sym is) (IsTable-put_row row e.1 it.0.1))
    go false apart = (put.others e.0 (other_number e.0 tree apart) (no_index old.schema.indexes e.0 (first_of_both _ _ clear)) ∙ it.0.0, it.0.1)

-- the same where the table holds values in order of a key
pub matches_keyed : {X : Type 0} (key : X → ℕ) (row : X → Row) → IsKeyed key row → (x : X) (xs : List X) (tree : ℕ) (old new : Database) (all : Contents) → HasPut tree (row x) old new
    → are_tables old.schema all ≡ true → has_tree tree all ≡ true → rows_in tree all ≡ map row xs → Matches old.trees all → Matches new.trees (with_rows tree (map row (put_by key x xs)) all)
matches_keyed key row keyed x xs tree old new all put clear named is it =
    matches_put tree (row x) (map row (put_by key x xs)) old new all put clear
    (sym (put_keyed key row keyed x xs) ∙ ap (put_row (row x)) (sym ((matches_at old.trees tree all it named).0 ∙ is))) it
