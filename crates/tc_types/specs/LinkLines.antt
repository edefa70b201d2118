-- The first lines of replies that tell what came over the link, or what the spacecraft did, as bytes without their LF.
use Rattle.std.specs.Prelude.{ℕ, ◌-◌, Bool, false, if◌then◌else◌, List, [], ◌∷◌, ◌++◌, codes, length, replicate}
use Rattle.std.specs.Fmt.{decimal, digits}
use Rattle.tc_types.specs.declared.link.reports.Verification.{Verification}
use Rattle.tc_types.specs.declared.link.reports.Verification.TheVariants as verification
use Rattle.tc_types.specs.declared.requests.Identity.{Identity}
use Rattle.tc_types.specs.Lines.{identity_word, spaced}

-- ok accepted N
abbrev pub accepted_line : ℕ → List ℕ
accepted_line n = spaced (codes "ok" ∷ codes "accepted" ∷ decimal n ∷ [])

-- ok work APID/COUNT
abbrev pub worked_line : Identity → List ℕ
worked_line identity = spaced (codes "ok" ∷ codes "work" ∷ identity_word identity ∷ [])

-- ok now T
abbrev pub time_line : ℕ → List ℕ
time_line time = spaced (codes "ok" ∷ codes "now" ∷ decimal time ∷ [])

-- a control word as eight digits, sixteen to a place, in lower case
abbrev pub word_digits : ℕ → List ℕ
word_digits word = replicate (8 - length (digits 16 false word)) 48 ++ digits 16 false word

-- ok clcw HHHHHHHH
abbrev pub word_line : ℕ → List ℕ
word_line word = spaced (codes "ok" ∷ codes "clcw" ∷ word_digits word ∷ [])

-- the subtype of a report of service 1 (ECSS-E-ST-70-41C, 8.1)
abbrev pub verification_subtype : Verification → ℕ
verification_subtype verification.Accepted = 1
verification_subtype (verification.AcceptanceFailed code) = 2
verification_subtype verification.Started = 3
verification_subtype (verification.StartFailed code) = 4
verification_subtype (verification.StepDone step) = 5
verification_subtype (verification.StepFailed step code) = 6
verification_subtype verification.Completed = 7
verification_subtype (verification.CompletionFailed code) = 8

-- the step that it tells of, 0 where it tells of none
abbrev pub verification_step : Verification → ℕ
verification_step verification.Accepted = 0
verification_step (verification.AcceptanceFailed code) = 0
verification_step verification.Started = 0
verification_step (verification.StartFailed code) = 0
verification_step (verification.StepDone step) = step
verification_step (verification.StepFailed step code) = step
verification_step verification.Completed = 0
verification_step (verification.CompletionFailed code) = 0

-- the code of its failure, 0 where it tells of none
abbrev pub verification_code : Verification → ℕ
verification_code verification.Accepted = 0
verification_code (verification.AcceptanceFailed code) = code
verification_code verification.Started = 0
verification_code (verification.StartFailed code) = code
verification_code (verification.StepDone step) = 0
verification_code (verification.StepFailed step code) = code
verification_code verification.Completed = 0
verification_code (verification.CompletionFailed code) = code

-- ok tm 1,T APID/COUNT step N code C
abbrev pub verified_line : Verification → Identity → List ℕ
verified_line v identity = spaced (codes "ok" ∷ codes "tm" ∷ (codes "1," ++ decimal (verification_subtype v)) ∷ identity_word identity
    ∷ codes "step" ∷ decimal (verification_step v) ∷ codes "code" ∷ decimal (verification_code v) ∷ [])

-- enabled or disabled
abbrev pub status_word : Bool → List ℕ
status_word enabled = if enabled then codes "enabled" else codes "disabled"

-- mirror enabled N, or disabled: so many activities
abbrev pub mirror_line : Bool → ℕ → List ℕ
mirror_line enabled count = spaced (codes "mirror" ∷ status_word enabled ∷ decimal count ∷ [])

-- activity APID/COUNT TIME
abbrev pub activity_line : Identity → ℕ → List ℕ
activity_line identity time = spaced (codes "activity" ∷ identity_word identity ∷ decimal time ∷ [])

-- ok tm 11,13 enabled N, or disabled: so many activities
abbrev pub summarized_line : Bool → ℕ → List ℕ
summarized_line enabled count = spaced (codes "ok" ∷ codes "tm" ∷ codes "11,13" ∷ status_word enabled ∷ decimal count ∷ [])
