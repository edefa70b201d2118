-- The lines about procedures and their executions.
use Rattle.std.specs.Prelude.{ℕ, List, [], ◌∷◌, codes}
use Rattle.std.specs.Fmt.{decimal}
use Rattle.tc_types.specs.declared.tables.rows.StepRecord.{StepRecord}
use Rattle.tc_types.specs.Lines.{spaced}
use Rattle.tc_types.specs.StepGrammar.{verdict_word, second_word}

-- ok procedure NAME STEPS
abbrev pub procedure_line : List ℕ → ℕ → List ℕ
procedure_line name steps = spaced (codes "ok" ∷ codes "procedure" ∷ name ∷ decimal steps ∷ [])

-- ok execution E
abbrev pub begun_line : ℕ → List ℕ
begun_line execution = spaced (codes "ok" ∷ codes "execution" ∷ decimal execution ∷ [])

-- execution E PROC next S
abbrev pub execution_line : ℕ → List ℕ → ℕ → List ℕ
execution_line execution procedure next = spaced (codes "execution" ∷ decimal execution ∷ procedure ∷ codes "next" ∷ decimal next ∷ [])

-- step S MOMENT PERSON VERDICT SECOND
abbrev pub record_line : StepRecord → List ℕ
record_line given = spaced (codes "step" ∷ decimal given.step ∷ decimal given.moment ∷ given.by ∷ verdict_word given.verdict ∷ second_word given.second ∷ [])
