-- All that is wrong with the rows of a text.
use Rattle.std.specs.Prelude.{◌≡◌, ◌⊎◌, ℕ, ◌+◌, Option, Some, None, List, [], ◌∷◌, ◌++◌}
use Rattle.tc_csv.specs.declared.faults.Rule.{Rule}
use Rattle.tc_csv.specs.declared.faults.Fault.{Fault}
use Rattle.tc_csv.specs.Faults.{RowKeeps, KeepsAll, FirstBroken}

-- of each row that breaks one of these rules the first that it breaks, in order of the rows; the first row here has this number
abbrev pub BrokenRows : RowKeeps → List Rule → ℕ → List (List (List ℕ)) → List Fault → Type 0
BrokenRows Keeps rules number [] faults = faults ≡ []
BrokenRows Keeps rules number (row ∷ rows) faults =
    (KeepsAll (Keeps number row) rules × BrokenRows Keeps rules (number + 1) rows faults)
    ⊎ ((fault : Fault) × (others : List Fault) × (faults ≡ fault ∷ others) × (FirstBroken (Keeps number row) rules fault.rule × (fault.row ≡ number)) × BrokenRows Keeps rules (number + 1) rows others)

-- the first of some faults, if there is one
abbrev pub first_fault : List Fault → Option Fault
first_fault [] = None
first_fault (fault ∷ others) = Some fault

-- to what was found so far is added what this row breaks, if it breaks a rule
abbrev pub AddsRow : RowKeeps → List Rule → ℕ → List (List ℕ) → List Fault → List Fault → Type 0
AddsRow Keeps rules number row old new =
    (KeepsAll (Keeps number row) rules × (new ≡ old))
    ⊎ ((fault : Fault) × (FirstBroken (Keeps number row) rules fault.rule × (fault.row ≡ number)) × (new ≡ old ++ fault ∷ []))
