use Rattle.std.proofs.Common.{[], take}
use Rattle.tc_types.specs.History.{AllAfter}
use Rattle.tc_proc.specs.GoodLogs.{HasNewName}
use Rattle.tc_proc.proofs.reopening.have_new_names.Given as goal

abbrev pub invariant-loop-at : goal.invariant-loop-at
invariant-loop-at l = AllAfter HasNewName [] (take l.at l.loaded)
