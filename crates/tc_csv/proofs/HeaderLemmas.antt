-- A record whose fields are the names of the columns, field by field.
use Rattle.std.proofs.Common.{◌≡◌, ℕ, zero, suc, ◌+◌, ◌<◌, Some, List, [], ◌∷◌, length, map, take, get_or, refl, arith}
use native.Mathlib.Numerals.{unary_clauses}
use Rattle.csv.specs.Records.{field_at}
use Rattle.tc_csv.specs.declared.columns.Column.{Column}
use Rattle.tc_csv.specs.Tables.{column_name, header}

more : (fields : List (List ℕ)) (columns : List Column) (i : ℕ) (d : Column) → i < length columns → field_at fields i ≡ Some (column_name (get_or columns i d))
    → take i fields ≡ map column_name (take i columns) → take (suc i) fields ≡ map column_name (take (suc i) columns)
unfolding field_at
more [] columns i d low is before = cc
more (f ∷ fs) [] i d low is before = absurd (omega (arith, low))
more (f ∷ fs) (c ∷ cs) zero d low is before = let same : f ≡ column_name c = cc in λ j. same j ∷ []
more (f ∷ fs) (c ∷ cs) (suc i) d low is before =
    let same : f ≡ column_name c = cc in
    let rest : take i fs ≡ map column_name (take i cs) = cc in
    let next = more fs cs i d (omega (arith, low)) is rest in
    λ j. same j ∷ next j

-- one field more
pub named_more : (fields : List (List ℕ)) (columns : List Column) (i : ℕ) (d : Column) → i < length columns → field_at fields i ≡ Some (column_name (get_or columns i d))
    → take i fields ≡ map column_name (take i columns) → take (i + 1) fields ≡ map column_name (take (i + 1) columns)
named_more fields columns i d low is before = simp unary_clauses (more fields columns i d low is before)

-- the field at a place of a header
pub named_at : (columns : List Column) (i : ℕ) (d : Column) → i < length columns → field_at (header columns) i ≡ Some (column_name (get_or columns i d))
unfolding field_at
named_at [] i d low = absurd (omega (arith, low))
named_at (c ∷ cs) zero d low = refl
named_at (c ∷ cs) (suc i) d low = named_at cs i d (omega (arith, low))
