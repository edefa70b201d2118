use Rattle.std.proofs.Common.{◌≡◌, take}
use Rattle.tc_proc.specs.KeptLogs.{marks_in}
use Rattle.tc_proc.proofs.steps.marks_of.Given as goal

-- the marks of the steps so far
abbrev pub invariant-loop-step : goal.invariant-loop-step
invariant-loop-step g l = l.marks.items ≡ marks_in l.name (take l.step-index l.steps)
