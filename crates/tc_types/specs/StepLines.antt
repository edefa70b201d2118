-- The lines of a procedure and its steps.
use Rattle.std.specs.Prelude.{ℕ, Option, Some, None, List, [], ◌∷◌, codes}
use Rattle.std.specs.Fmt.{decimal}
use Rattle.tc_types.specs.declared.tables.rows.LoadedProcedure.{LoadedProcedure}
use Rattle.tc_types.specs.declared.tables.rows.ProcedureStep.{ProcedureStep}
use Rattle.tc_types.specs.Grammar.{yes_no}
use Rattle.tc_types.specs.Lines.{spaced}

-- procedure NAME author PERSON steps K
abbrev pub procedure_head_line : LoadedProcedure → ℕ → List ℕ
procedure_head_line loaded steps = spaced (codes "procedure" ∷ loaded.name ∷ codes "author" ∷ loaded.author ∷ codes "steps" ∷ decimal steps ∷ [])

-- the number of a request, - for none
abbrev pub released_word : Option ℕ → List ℕ
released_word None = codes "-"
released_word (Some n) = decimal n

-- step S second yes|no request N|- TEXT
abbrev pub step_line : ProcedureStep → List ℕ
step_line s = spaced (codes "step" ∷ decimal s.step ∷ codes "second" ∷ yes_no s.is_countersigned ∷ codes "request" ∷ released_word s.request ∷ s.text ∷ [])
