use Rattle.std.proofs.Common.{◌<◌, length, filter, take}
use Rattle.std.specs.List.{AllByRecursion}
use Rattle.tc_types.specs.Names.{is_same_name}
use Rattle.tc_types.specs.declared.tables.rows.LoadedProcedure.{LoadedProcedure}
use Rattle.tc_types.specs.declared.tables.rows.ProcedureStep.{ProcedureStep}
use Rattle.tc_proc.proofs.reopening.have_steps.Given as goal

abbrev pub invariant-loop-at : goal.invariant-loop-at
invariant-loop-at l = AllByRecursion (λ (p : LoadedProcedure). 0 < length (filter (λ (s : ProcedureStep). is_same_name s.procedure p.name) l.steps)) (take l.at l.loaded)
