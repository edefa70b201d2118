-- All that is wrong with rows, found one row after the other.
use Rattle.std.proofs.Common.{◌≡◌, ◌∙◌, inl, inr, ℕ, zero, suc, ◌+◌, ◌<◌, ◌≤◌, List, [], ◌∷◌, ◌++◌, length, get_or, drop, map, refl, sym, ap, subst, append_assoc, arith}
use Rattle.std.proofs.lemmas.List.{append-nil}
use native.Mathlib.Numerals.{unary_clauses}
use Rattle.csv.specs.Records.{Row, fields_of}
use Rattle.tc_csv.specs.declared.faults.Rule.{Rule}
use Rattle.tc_csv.specs.declared.faults.Fault.{Fault}
use Rattle.tc_csv.specs.Faults.{RowKeeps, KeepsAll, FirstBroken, FirstBrokenRow}
use Rattle.tc_csv.specs.FaultLists.{AddsRow, BrokenRows}
use Rattle.tc_csv.proofs.RowLemmas.{fault_same, first_once, kept_unbroken}

-- ---- the list

head_of : (a b : Fault) (xs ys : List Fault) → a ∷ xs ≡ b ∷ ys → a ≡ b
head_of a b xs ys same = ap (λ (l : List Fault). get_or l 0 a) same

-- the first of them is of the first row that breaks a rule
pub head_broken : (Keeps : RowKeeps) (rules : List Rule) (number : ℕ) (rows : List (List (List ℕ))) (fault : Fault) (others : List Fault)
    → BrokenRows Keeps rules number rows (fault ∷ others) → FirstBrokenRow Keeps rules number rows fault
head_broken Keeps rules number [] fault others all = cc
head_broken Keeps rules number (row ∷ rows) fault others (inl (kept, more)) = inr (kept, head_broken Keeps rules (number + 1) rows fault others more)
head_broken Keeps rules number (row ∷ rows) fault others (inr (first, behind, is, broken, more)) =
    inl (subst (λ (f : Fault). FirstBroken (Keeps number row) rules f.rule × (f.row ≡ number)) (sym (head_of fault first others behind is)) broken)

-- where there are none, no row breaks one
pub none_broken : (Keeps : RowKeeps) (rules : List Rule) (number : ℕ) (rows : List (List (List ℕ))) (fault : Fault)
    → BrokenRows Keeps rules number rows [] → FirstBrokenRow Keeps rules number rows fault → ⊥
none_broken Keeps rules number [] fault all first = first
none_broken Keeps rules number (row ∷ rows) fault (inl (kept, more)) (inl here) = kept_unbroken (Keeps number row) rules fault.rule kept here.0
none_broken Keeps rules number (row ∷ rows) fault (inl (kept, more)) (inr later) = none_broken Keeps rules (number + 1) rows fault more later.1
none_broken Keeps rules number (row ∷ rows) fault (inr (found, behind, is, broken, more)) first = cc

-- there is one such list
pub broken_once : (Keeps : RowKeeps) (rules : List Rule) (number : ℕ) (rows : List (List (List ℕ))) (a b : List Fault)
    → BrokenRows Keeps rules number rows a → BrokenRows Keeps rules number rows b → a ≡ b
broken_once Keeps rules number [] a b x y = x ∙ sym y
broken_once Keeps rules number (row ∷ rows) a b (inl x) (inl y) = broken_once Keeps rules (number + 1) rows a b x.1 y.1
broken_once Keeps rules number (row ∷ rows) a b (inl x) (inr (fault, others, is, broken, more)) = absurd (kept_unbroken (Keeps number row) rules fault.rule x.0 broken.0)
broken_once Keeps rules number (row ∷ rows) a b (inr (fault, others, is, broken, more)) (inl y) = absurd (kept_unbroken (Keeps number row) rules fault.rule y.0 broken.0)
broken_once Keeps rules number (row ∷ rows) a b (inr (fault, others, is, broken, more)) (inr (also, behind, same, first, rest)) =
    let one = fault_same fault also (broken.1 ∙ sym first.1) (first_once (Keeps number row) rules fault.rule also.rule broken.0 first.0) in
    let more_same = broken_once Keeps rules (number + 1) rows others behind more rest in
    is ∙ ((λ i. one i ∷ more_same i) ∙ sym same)

-- ---- one row after the other

-- the rows that are left, and what was found of those before
pub record FoundSoFar (Keeps : RowKeeps) (rules : List Rule) (number : ℕ) (left all : List (List (List ℕ))) (found : List Fault) : Type 0 where
  pub goes_on : (others : List Fault) → BrokenRows Keeps rules number left others → BrokenRows Keeps rules 1 all (found ++ others)

pub found_none : (Keeps : RowKeeps) (rules : List Rule) (all : List (List (List ℕ))) (found : List Fault) → found ≡ [] → FoundSoFar Keeps rules 1 all all found
found_none Keeps rules all found none = record { goes_on = λ others is. rw none is }

found_kept : (Keeps : RowKeeps) (rules : List Rule) (number : ℕ) (row : List (List ℕ)) (left all : List (List (List ℕ))) (found : List Fault)
    → FoundSoFar Keeps rules number (row ∷ left) all found → KeepsAll (Keeps number row) rules → FoundSoFar Keeps rules (number + 1) left all found
found_kept Keeps rules number row left all found so kept = record { goes_on = λ others is. so.goes_on others (inl (kept, is)) }

found_broken : (Keeps : RowKeeps) (rules : List Rule) (number : ℕ) (row : List (List ℕ)) (left all : List (List (List ℕ))) (found : List Fault) (fault : Fault)
    → FoundSoFar Keeps rules number (row ∷ left) all found → FirstBroken (Keeps number row) rules fault.rule → fault.row ≡ number
    → FoundSoFar Keeps rules (number + 1) left all (found ++ fault ∷ [])
found_broken Keeps rules number row left all found fault so broken at = record {
  goes_on = λ others is.
      subst (λ (faults : List Fault). BrokenRows Keeps rules 1 all faults) (sym (append_assoc found (fault ∷ []) others))
      (so.goes_on (fault ∷ others) (inr (fault, others, refl, (broken, at), is)));
}

-- a row more
pub found_row : (Keeps : RowKeeps) (rules : List Rule) (number : ℕ) (row : List (List ℕ)) (left all : List (List (List ℕ))) (old new : List Fault)
    → FoundSoFar Keeps rules number (row ∷ left) all old → AddsRow Keeps rules number row old new → FoundSoFar Keeps rules (number + 1) left all new
found_row Keeps rules number row left all old new so (inl (kept, same)) =
    subst (λ (found : List Fault). FoundSoFar Keeps rules (number + 1) left all found) (sym same) (found_kept Keeps rules number row left all old so kept)
found_row Keeps rules number row left all old new so (inr (fault, broken, more)) =
    subst (λ (found : List Fault). FoundSoFar Keeps rules (number + 1) left all found) (sym more) (found_broken Keeps rules number row left all old fault so broken.0 broken.1)

-- a row, and those behind it
left_suc : (rows : List Row) (i : ℕ) (row : Row) → i < length rows → row ≡ get_or rows i row → drop i (map fields_of rows) ≡ fields_of row ∷ drop (suc i) (map fields_of rows)
left_suc [] i row low is = absurd (omega (arith, low))
left_suc (r ∷ rs) zero row low is = ap (λ x. fields_of x ∷ map fields_of rs) (sym is)
left_suc (r ∷ rs) (suc i) row low is = left_suc rs i row (omega (arith, low)) is

pub left_at : (rows : List Row) (i : ℕ) (row : Row) → i < length rows → row ≡ get_or rows i row → drop i (map fields_of rows) ≡ fields_of row ∷ drop (i + 1) (map fields_of rows)
left_at rows i row low is = simp unary_clauses (left_suc rows i row low is)

-- where no row is left, all was found
pub found_all : (Keeps : RowKeeps) (rules : List Rule) (number i : ℕ) (rows : List Row) (found : List Fault)
    → FoundSoFar Keeps rules number (drop i (map fields_of rows)) (map fields_of rows) found → length rows ≤ i → BrokenRows Keeps rules 1 (map fields_of rows) found
found_all Keeps rules number i rows found so past =
    subst (λ (faults : List Fault). BrokenRows Keeps rules 1 (map fields_of rows) faults) (append-nil found) (so.goes_on [] (rw (none_left rows i past) refl))
  where
    none_left : (rows : List Row) (i : ℕ) → length rows ≤ i → drop i (map fields_of rows) ≡ []
    none_left [] zero past = refl
    none_left [] (suc i) past = refl
    none_left (r ∷ rs) zero past = absurd (omega (arith, past))
    none_left (r ∷ rs) (suc i) past = none_left rs i (omega (arith, past))
