-- What the loop over the steps of a request has told so far.
use Rattle.std.proofs.Common.{◌≡◌, ℕ, ◌+◌, ◌-◌, ◌≤◌, zero, suc, List, [], ◌∷◌, ◌++◌, map, sym, ◌∙◌, ap, arith}
use Rattle.std.proofs.lemmas.List.{append_assoc, map-append}
use Rattle.tc_types.specs.declared.link.reports.Verification.{Verification}
use Rattle.tc_types.specs.declared.link.reports.Verification.TheVariants as report
use Rattle.tc_board.specs.Reports.{steps_from}

-- the last of the steps
steps_suc : (first n : ℕ) → steps_from first (suc n) ≡ steps_from first n ++ report.StepDone (first + n) ∷ []
steps_suc first zero = ap (λ k. report.StepDone k ∷ []) (omega arith)
steps_suc first (suc n) = ap (λ l. report.StepDone first ∷ l) (steps_suc (first + 1) n ∙ ap (λ k. steps_from (first + 1) n ++ report.StepDone k ∷ []) (omega arith))

-- one step more
pub step_more : {T : Type 0} (tell : Verification → T) (old now new : List T) (step : ℕ) → 1 ≤ step → now ≡ old ++ map tell (steps_from 1 (step - 1)) → new ≡ now ++ tell (report.StepDone step) ∷ []
    → new ≡ old ++ map tell (steps_from 1 (step + 1 - 1))
step_more tell old now new zero low before after = absurd (omega arith)
step_more tell old now new (suc n) low before after =
    let past : suc n - 1 ≡ n = omega arith in
    let next : suc n ≡ suc n + 1 - 1 = omega arith in
    let this : suc n ≡ 1 + n = omega arith in
    after
    ∙ ap (λ l. l ++ tell (report.StepDone (suc n)) ∷ []) (before ∙ ap (λ k. old ++ map tell (steps_from 1 k)) past)
    ∙ append_assoc old (map tell (steps_from 1 n)) (tell (report.StepDone (suc n)) ∷ [])
    ∙ ap (λ l. old ++ l)
    (sym (map-append tell (steps_from 1 n) (report.StepDone (suc n) ∷ []))
    ∙ ap (λ k. map tell (steps_from 1 n ++ report.StepDone k ∷ [])) this
    ∙ ap (map tell) (sym (steps_suc 1 n))
    ∙ ap (λ k. map tell (steps_from 1 k)) next)
