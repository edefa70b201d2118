-- Why nothing is opened over tables that were left.
use Rattle.tc_types.specs.declared.refusals.Refusal.{Refusal}
use Rattle.tc_types.specs.declared.refusals.Refusal.TheVariants as refusal
use Rattle.tc_proc.specs.declared.faults.ReopenFault.{ReopenFault}
use Rattle.tc_proc.specs.declared.faults.ReopenFault.TheVariants.{Unsound, Memory}

-- what an operator is told of it
abbrev pub refusal_of : ReopenFault → Refusal
refusal_of Unsound = refusal.Store
refusal_of Memory = refusal.Memory
