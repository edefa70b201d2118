-- What became of a step of a procedure, by number.
use Rattle.std.specs.Prelude.{ℕ}
use Rattle.tc_types.specs.declared.verdicts.Verdict.{Verdict}
use Rattle.tc_types.specs.declared.verdicts.Verdict.TheVariants.{Done, Skipped, Failed}

-- the number of a verdict, in tables
abbrev pub verdict_number : Verdict → ℕ
verdict_number Done = 1
verdict_number Skipped = 2
verdict_number Failed = 3
