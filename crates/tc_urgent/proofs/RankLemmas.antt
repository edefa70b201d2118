-- Lines that ascend by rank ascend by urgency.
use Rattle.std.proofs.Common.{◌≡◌, ℕ, suc, ◌+◌, ◌<◌, ◌≤◌, Bool, true, false, if◌then◌else◌, List, [], ◌∷◌, ◌++◌, length, fold, inl, inr, subst, append-nil, arith, get_or}
use Rattle.std.specs.Prelude.{nat_lt}
use Rattle.std.specs.Ordering.{is_lt, nat_cmp, ordering_then}
use Rattle.std.specs.List.{AllByRecursion}
use Rattle.std.specs.List.Sorted.{IsNonDecreasingBy}
use Rattle.std.proofs.lemmas.Bool.{cases_lt}
use Rattle.std.proofs.lemmas.Bool.Decides.{nat_tests}
use Rattle.std.proofs.lemmas.List.Sorted.{IsNonDecreasingBy-from_all_adjacent}
use Rattle.tc_urgent.specs.declared.lines.UrgentLine.{UrgentLine}
use Rattle.tc_urgent.specs.Kinds.{urgency}
use Rattle.tc_urgent.specs.Folds.{both, folded, takes_in, with_next}
use Rattle.tc_urgent.specs.Laws.{AreByUrgency, NoneMoreUrgent}

first_rises : (a b c d : ℕ) → is_lt (ordering_then (nat_cmp b a) (nat_cmp d c)) ≡ false → a ≤ b
first_rises a b c d up =
    elim (cases_lt b a) [
      | inl less ↦ (let is : nat_lt b a ≡ true = grind (arith, nat_tests, less) in let wrong : true ≡ false = rw is at up in grind (arith, wrong))
      | inr le ↦ le
    ]

rising : (lines : List UrgentLine) → AreByUrgency lines → IsNonDecreasingBy (λ (line : UrgentLine). urgency line.kind) lines
rising lines up =
    IsNonDecreasingBy-from_all_adjacent (λ (line : UrgentLine). urgency line.kind) lines
    (λ k d below. first_rises (urgency (get_or lines k d).kind) (urgency (get_or lines (k + 1) d).kind) (get_or lines k d).number (get_or lines (k + 1) d).number (up k d (omega arith) below))

all_at : {X : Type 0} (P : X → Type 0) (xs : List X) → ((k : ℕ) (d : X) → k < length xs → P (get_or xs k d)) → AllByRecursion P xs
all_at P [] at = tt
all_at P (x ∷ xs) at = (at 0 x (omega arith), all_at P xs (λ k d low. at (suc k) d (omega (arith, low))))

each_later : (lines : List UrgentLine) → IsNonDecreasingBy (λ (line : UrgentLine). urgency line.kind) lines → NoneMoreUrgent lines
each_later [] up = tt
each_later (line ∷ lines) up = (
  all_at (λ (later : UrgentLine). urgency line.kind ≤ urgency later.kind) lines (λ k d low. up 0 (suc k) d (omega arith) (omega (arith, low))),
  each_later lines (λ i j d le low. up (suc i) (suc j) d (omega (arith, le)) (omega (arith, low))),
)

pub none_later : (lines : List UrgentLine) → AreByUrgency lines → NoneMoreUrgent lines
none_later lines up = each_later lines (rising lines up)

-- ---- folded

-- what is so of the kinds of all stays so
all_next : (least : ℕ) (done : List UrgentLine) (next : UrgentLine) (lines : List UrgentLine) → AllByRecursion (λ (l : UrgentLine). least ≤ urgency l.kind) (done ++ next ∷ lines)
    → AllByRecursion (λ (l : UrgentLine). least ≤ urgency l.kind) (with_next done next ++ lines)
all_next least [] next lines all = all
all_next least (line ∷ []) next lines all = by_test (takes_in line next)
  where
    by_test : (t : Bool) → AllByRecursion (λ (l : UrgentLine). least ≤ urgency l.kind) ((if t then both line next ∷ [] else line ∷ next ∷ []) ++ lines)
    by_test true = (all.0, all.1.1)
    by_test false = all
all_next least (line ∷ second ∷ done) next lines all = (all.0, all_next least (second ∷ done) next lines all.1)

next_later : (done : List UrgentLine) (next : UrgentLine) (lines : List UrgentLine) → NoneMoreUrgent (done ++ next ∷ lines) → NoneMoreUrgent (with_next done next ++ lines)
next_later [] next lines none = none
next_later (line ∷ []) next lines none = by_test (takes_in line next)
  where
    by_test : (t : Bool) → NoneMoreUrgent ((if t then both line next ∷ [] else line ∷ next ∷ []) ++ lines)
    by_test true = (none.0.1, none.1.1)
    by_test false = none
next_later (line ∷ second ∷ done) next lines none = (all_next (urgency line.kind) (second ∷ done) next lines none.0, next_later (second ∷ done) next lines none.1)

fold_later : (done lines : List UrgentLine) → NoneMoreUrgent (done ++ lines) → NoneMoreUrgent (fold with_next done lines)
fold_later done [] none = subst NoneMoreUrgent (append-nil done) none
fold_later done (next ∷ lines) none = fold_later (with_next done next) lines (next_later done next lines none)

pub folded_later : (lines : List UrgentLine) → NoneMoreUrgent lines → NoneMoreUrgent (folded lines)
folded_later lines none = fold_later [] lines none
