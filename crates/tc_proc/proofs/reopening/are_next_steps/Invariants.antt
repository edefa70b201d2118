use Rattle.std.proofs.Common.{[], take}
use Rattle.tc_types.specs.History.{AllAfter}
use Rattle.tc_proc.specs.GoodLogs.{IsNextStep}
use Rattle.tc_proc.proofs.reopening.are_next_steps.Given as goal

abbrev pub invariant-loop-at : goal.invariant-loop-at
invariant-loop-at l = AllAfter IsNextStep [] (take l.at l.steps)
