-- A tree that holds the rows of values in order of a key takes one more as the list of values does.
use Rattle.std.proofs.Common.{◌≡◌, ℕ, arith, nat_lt, ◌==◌, ◌||◌, pos, List, [], ◌∷◌, map, drop, cond, is_eq, refl, ap, ap₂, ◌∙◌}
use Rattle.std.specs.List.{list_any}
use Rattle.std.proofs.lemmas.Bool.Decides.{nat_tests}
use Rattle.std.specs.declared.cmp.Ordering.{Ordering}
use Rattle.std.specs.declared.cmp.Ordering.TheVariants.{Less, Equal, Greater}
use Rattle.std.specs.Ordering.{nat_cmp, int_cmp, match_ordering}
use Rattle.sqlite_value.specs.declared.value.Value.TheVariants.{Int}
use Rattle.sqlite_value.specs.Order.{Row, value_cmp}
use Rattle.sqlite_value.proofs.OrderLemmas.{value_cmp-Int}
use Rattle.sqlite_trees.specs.Tree.{rowid, put_row}
use Rattle.sqlite_sql.specs.Ops.{is_null}
use Rattle.sqlite_rules.specs.declared.error.Rowids.TheVariants.{Chosen}
use Rattle.sqlite_rules.specs.Edit.{with_rowid, at_least, next_rowid, is_taken}
use Rattle.tc_sql.specs.Puts.{put_by, IsKeyed}

pub int_cmp-pos : (m n : ℕ) → int_cmp (pos m) (pos n) ≡ nat_cmp m n
int_cmp-pos m n = grind (arith, nat_tests)

pub eq_of : (m n : ℕ) → is_eq (nat_cmp m n) ≡ (m == n)
eq_of m n = grind (arith, nat_tests)

module _ {X : Type 0} (key : X → ℕ) (row : X → Row) (keyed : IsKeyed key row) where
  pub value_cmp-keyed : (a b : X) → value_cmp (rowid (row a)) (rowid (row b)) ≡ nat_cmp (key a) (key b)
  value_cmp-keyed a b = rw (keyed a, keyed b, value_cmp-Int) (int_cmp-pos (key a) (key b))

  -- what the two orders of tests decide
  by_tests : (m n : ℕ) (low same high : List X) → match_ordering (nat_cmp m n) low same high ≡ cond (nat_lt n m) high (cond (n == m) same low)
  by_tests m n low same high = grind (arith, nat_tests)

  put_at : (o : Ordering) (new x : X) (xs : List X) → put_row (row new) (map row xs) ≡ map row (put_by key new xs)
      → match_ordering o (row x ∷ put_row (row new) (map row xs)) (row new ∷ map row xs) (row new ∷ row x ∷ map row xs) ≡ map row (match_ordering o (x ∷ put_by key new xs) (new ∷ xs) (new ∷ x ∷ xs))
  put_at Less new x xs h = ap (λ r. row x ∷ r) h
  put_at Equal new x xs h = refl
  put_at Greater new x xs h = refl

  -- the tree takes the row of one more value as the list takes the value
  pub put_keyed : (new : X) (xs : List X) → put_row (row new) (map row xs) ≡ map row (put_by key new xs)
  put_keyed new [] = refl
  put_keyed new (x ∷ xs) =
      ap (λ o. match_ordering o (row x ∷ put_row (row new) (map row xs)) (row new ∷ map row xs) (row new ∷ row x ∷ map row xs)) (value_cmp-keyed x new)
      ∙ put_at (nat_cmp (key x) (key new)) new x xs (put_keyed new xs) ∙ ap (map row) (by_tests (key x) (key new) (x ∷ put_by key new xs) (new ∷ xs) (new ∷ x ∷ xs))

  -- a row that has its key keeps it as its rowid
  pub keyed_rowid : (rows : List Row) (x : X) → with_rowid Chosen rows (row x) ≡ row x
  keyed_rowid rows x = ap (λ id. cond (is_null id) (Int (at_least Chosen (next_rowid rows)) ∷ drop 1 (row x)) (row x)) (keyed x)

  -- a row has the rowid of one of these where its value has the key of one
  pub taken_keyed : (x : X) (xs : List X) → is_taken (map row xs) (row x) ≡ list_any (λ y. key y == key x) xs
  taken_keyed x [] = refl
  taken_keyed x (y ∷ ys) = ap₂ (λ a b. a || b) (ap is_eq (value_cmp-keyed y x) ∙ eq_of (key y) (key x)) (taken_keyed x ys)
