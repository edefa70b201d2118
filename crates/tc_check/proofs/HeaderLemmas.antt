-- The columns of a record, held beside those of a header.
use Rattle.std.proofs.Common.{◌≡◌, ◌∙◌, ℕ, zero, suc, ◌+◌, ◌<◌, ◌≤◌, true, false, Some, None, List, [], ◌∷◌, length, get_or, drop, refl, sym, ap, subst, arith}
use Rattle.std.proofs.Math.Seq.{drop-cons}
use native.Mathlib.Numerals.{unary_clauses}
use Rattle.csv.specs.Records.{field_at}
use Rattle.tc_csv.specs.declared.columns.Column.{Column}
use Rattle.tc_check.specs.Headers.{columns_found, extra_column, is_named, missing_column, other_column}

drop_suc : (fields : List (List ℕ)) (i : ℕ) (field : List ℕ) → field_at fields i ≡ Some field → drop i fields ≡ field ∷ drop (suc i) fields
unfolding field_at
drop_suc [] i field there = cc
drop_suc (f ∷ fs) zero field there = let same : f ≡ field = cc in ap (λ x. x ∷ fs) same
drop_suc (f ∷ fs) (suc i) field there = drop_suc fs i field there

-- a field that is there, and those behind it
drop_some : (fields : List (List ℕ)) (i : ℕ) (field : List ℕ) → field_at fields i ≡ Some field → drop i fields ≡ field ∷ drop (i + 1) fields
drop_some fields i field there = simp unary_clauses (drop_suc fields i field there)

-- no field is there
drop_none : (fields : List (List ℕ)) (i : ℕ) → field_at fields i ≡ None → drop i fields ≡ []
unfolding field_at
drop_none [] zero none = refl
drop_none [] (suc i) none = refl
drop_none (f ∷ fs) zero none = cc
drop_none (f ∷ fs) (suc i) none = drop_none fs i none

none_left : (columns : List Column) (i : ℕ) → length columns ≤ i → drop i columns ≡ []
none_left [] zero past = refl
none_left [] (suc i) past = refl
none_left (c ∷ cs) zero past = absurd (omega (arith, past))
none_left (c ∷ cs) (suc i) past = none_left cs i (omega (arith, past))

-- a column that is there, and those behind it
column_at : (columns : List Column) (i : ℕ) (d : Column) → i < length columns → drop i columns ≡ get_or columns i d ∷ drop (i + 1) columns
column_at columns i d low = simp unary_clauses (drop-cons columns i d low)

-- the columns behind this one
pub next_column : (columns : List Column) (fields : List (List ℕ)) (i : ℕ) (d : Column) (field all : List ℕ) → i < length columns → field_at fields i ≡ Some field
    → is_named field (get_or columns i d) ≡ true → all ≡ columns_found (i + 1) (drop i columns) (drop i fields)
    → all ≡ columns_found (i + 1 + 1) (drop (i + 1) columns) (drop (i + 1) fields)
next_column columns fields i d field all low there same so = so ∙ rw (column_at columns i d low, drop_some fields i field there, same) refl

-- this one has another name
pub wrong_column : (columns : List Column) (fields : List (List ℕ)) (i : ℕ) (d : Column) (field all : List ℕ) → i < length columns → field_at fields i ≡ Some field
    → is_named field (get_or columns i d) ≡ false → all ≡ columns_found (i + 1) (drop i columns) (drop i fields) → other_column (i + 1) (get_or columns i d) field ≡ all
wrong_column columns fields i d field all low there other so = sym (so ∙ rw (column_at columns i d low, drop_some fields i field there, other) refl)

-- this one is not there
pub no_column : (columns : List Column) (fields : List (List ℕ)) (i : ℕ) (d : Column) (all : List ℕ) → i < length columns → field_at fields i ≡ None
    → all ≡ columns_found (i + 1) (drop i columns) (drop i fields) → missing_column (i + 1) (get_or columns i d) ≡ all
no_column columns fields i d all low none so = sym (so ∙ rw (column_at columns i d low, drop_none fields i none) refl)

-- a field behind the last column
pub one_column_more : (columns : List Column) (fields : List (List ℕ)) (i : ℕ) (field all : List ℕ) → i ≡ length columns → field_at fields (length columns) ≡ Some field
    → all ≡ columns_found (i + 1) (drop i columns) (drop i fields) → extra_column (length columns + 1) field ≡ all
one_column_more columns fields i field all end there so =
    let at_end : all ≡ columns_found (length columns + 1) (drop (length columns) columns) (drop (length columns) fields) = subst (λ n. all ≡ columns_found (n + 1) (drop n columns) (drop n fields)) end so in
    sym (at_end ∙ rw (none_left columns (length columns) (omega arith), drop_some fields (length columns) field there) refl)

pub no_column_more : (columns : List Column) (fields : List (List ℕ)) (i : ℕ) (all : List ℕ) → i ≡ length columns → field_at fields (length columns) ≡ None
    → all ≡ columns_found (i + 1) (drop i columns) (drop i fields) → [] ≡ all
no_column_more columns fields i all end none so =
    let at_end : all ≡ columns_found (length columns + 1) (drop (length columns) columns) (drop (length columns) fields) = subst (λ n. all ≡ columns_found (n + 1) (drop n columns) (drop n fields)) end so in
    sym (at_end ∙ rw (none_left columns (length columns) (omega arith), drop_none fields (length columns) none) refl)
