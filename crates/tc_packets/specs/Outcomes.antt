-- How the rehearsal spacecraft will behave, in octets: kind, steps, code. A real spacecraft never sees them.
use Rattle.std.specs.Prelude.{◌≡◌, ℕ, Option, Some, None, List, [], ◌∷◌}
use Rattle.tc_types.specs.Grammar.{IsOutcome}
use Rattle.tc_types.specs.declared.requests.Outcome.{Outcome}
use Rattle.tc_types.specs.declared.requests.Outcome.TheVariants as outcomes

abbrev pub outcome_octets_of : Outcome → List ℕ
outcome_octets_of outcomes.Completes = 0 ∷ 0 ∷ 0 ∷ []
outcome_octets_of (outcomes.CompletesInSteps steps) = 1 ∷ steps ∷ 0 ∷ []
outcome_octets_of (outcomes.Refuses code) = 2 ∷ 0 ∷ code ∷ []
outcome_octets_of (outcomes.StartFails code) = 3 ∷ 0 ∷ code ∷ []
outcome_octets_of (outcomes.Halts steps code) = 4 ∷ steps ∷ code ∷ []
outcome_octets_of (outcomes.Fails code) = 5 ∷ 0 ∷ code ∷ []

-- What a reader says of octets: the outcome that they are, or that they are none.
abbrev pub ReadsOutcome : List ℕ → Option Outcome → Type 0
ReadsOutcome octets (Some outcome) = IsOutcome outcome × (octets ≡ outcome_octets_of outcome)
ReadsOutcome octets None = (outcome : Outcome) → IsOutcome outcome → ¬ (octets ≡ outcome_octets_of outcome)
