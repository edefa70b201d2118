-- The tests of an act: each says whether it holds, and with what the act is refused where it does.
use Rattle.std.specs.Prelude.{Bool, if◌then◌else◌, Option, Some, None, List, [], ◌∷◌}
use Rattle.tc_types.specs.declared.refusals.Refusal.{Refusal}

-- the refusal of the first test that holds
abbrev pub first_refusal : List (Bool × Refusal) → Option Refusal
first_refusal [] = None
first_refusal (test ∷ tests) = if test.0 then Some test.1 else first_refusal tests
