-- The reports of a request (ECSS-E-ST-70-41C, 6.1 and 8.1): a success is reported where it is asked for, a failure always.
use Rattle.std.specs.Prelude.{◌≡◌, ℕ, ◌+◌, ◌-◌, ◌≤◌, Bool, true, false, zero, suc, if◌then◌else◌, Result, OnOk, List, [], ◌∷◌, ◌++◌, map, Vec, vec_len}
use Rattle.tc_types.specs.declared.requests.Ack.{Ack}
use Rattle.tc_types.specs.declared.requests.Outcome.{Outcome}
use Rattle.tc_types.specs.declared.requests.Outcome.TheVariants.{Completes, CompletesInSteps, Refuses, StartFails, Halts, Fails}
use Rattle.tc_types.specs.declared.link.reports.Verification.{Verification}
use Rattle.tc_types.specs.declared.link.reports.Verification.TheVariants as report
use Rattle.tc_types.specs.declared.link.reports.Telemetry.{Telemetry}
use Rattle.tc_types.specs.declared.link.reports.Telemetry.TheVariants as telemetry
use Rattle.tc_board.specs.declared.outcomes.Reporter.{Reporter}

-- a report on this request
abbrev pub tells : Reporter → Verification → Telemetry
tells r verification = telemetry.Verification verification r.request r.identity

-- Behind the reports that stand there come these of a reporter, where memory is not refused. At most so many come, however that ends.
pub record Appends {A T E : Type 0} (r : Reporter) (said : List Verification) (most : ℕ) (old new : Vec Telemetry A) (result : Result T E) : Type 0 where
  pub told : OnOk result (new.items ≡ old.items ++ map (tells r) said)
  pub few : vec_len new ≤ vec_len old + most

-- a request that the spacecraft does not accept
abbrev pub is_refused : Outcome → Bool
is_refused Completes = false
is_refused (CompletesInSteps n) = false
is_refused (Refuses code) = true
is_refused (StartFails code) = false
is_refused (Halts n code) = false
is_refused (Fails code) = false

-- a report of success, where it is asked for
abbrev pub asked : Bool → List Verification → List Verification
asked wanted reports = if wanted then reports else []

-- so many steps done, from this one on
abbrev pub steps_from : ℕ → ℕ → List Verification
steps_from first zero = []
steps_from first (suc n) = report.StepDone first ∷ steps_from (first + 1) n

-- the report that is made at once
abbrev pub first_reports : Ack → Outcome → List Verification
first_reports ack (Refuses code) = report.AcceptanceFailed code ∷ []
first_reports ack Completes = asked ack.acceptance (report.Accepted ∷ [])
first_reports ack (CompletesInSteps n) = asked ack.acceptance (report.Accepted ∷ [])
first_reports ack (StartFails code) = asked ack.acceptance (report.Accepted ∷ [])
first_reports ack (Halts n code) = asked ack.acceptance (report.Accepted ∷ [])
first_reports ack (Fails code) = asked ack.acceptance (report.Accepted ∷ [])

-- The reports that are made as it is carried out. Progress steps count from 1.
abbrev pub later_reports : Ack → Outcome → List Verification
later_reports ack (Refuses code) = []
later_reports ack Completes = asked ack.start (report.Started ∷ []) ++ asked ack.completion (report.Completed ∷ [])
later_reports ack (CompletesInSteps n) =
    asked ack.start (report.Started ∷ [])
    ++ asked ack.progress (steps_from 1 n)
    ++ asked ack.completion (report.Completed ∷ [])
later_reports ack (StartFails code) = report.StartFailed code ∷ []
later_reports ack (Halts n code) =
    asked ack.start (report.Started ∷ [])
    ++ asked ack.progress (steps_from 1 (n - 1))
    ++ report.StepFailed n code
    ∷ report.CompletionFailed code
    ∷ []
later_reports ack (Fails code) = asked ack.start (report.Started ∷ []) ++ report.CompletionFailed code ∷ []

-- all reports of a request
abbrev pub reports_of : Ack → Outcome → List Verification
reports_of ack outcome = first_reports ack outcome ++ later_reports ack outcome
