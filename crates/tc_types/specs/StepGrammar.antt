-- The words of a step of an execution: what became of it, and its second person.
use Rattle.std.specs.Prelude.{ℕ, Option, Some, None, IfSome, List, codes}
use Rattle.tc_types.specs.declared.verdicts.Verdict.{Verdict}
use Rattle.tc_types.specs.declared.verdicts.Verdict.TheVariants.{Done, Skipped, Failed}
use Rattle.tc_types.specs.Names.{IsPerson}

-- what became of a step, in a word
abbrev pub verdict_word : Verdict → List ℕ
verdict_word Done = codes "done"
verdict_word Skipped = codes "skipped"
verdict_word Failed = codes "failed"

-- the second person, or - where none is named
abbrev pub second_word : Option (List ℕ) → List ℕ
second_word None = codes "-"
second_word (Some second) = second

abbrev pub IsSecond : Option (List ℕ) → Type 0
IsSecond second = IfSome second IsPerson
