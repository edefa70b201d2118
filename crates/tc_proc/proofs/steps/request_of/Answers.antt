use Rattle.std.proofs.Common.{◌∙◌, ap}
use Rattle.std.specs.Option.{option_and_then}
use Rattle.tc_types.specs.declared.tables.rows.ProcedureStep.{ProcedureStep}
use Rattle.tc_proc.proofs.StepLemmas.{request_found}
use Rattle.tc_proc.proofs.steps.request_of.Goals as goal

pub returns-in-Some : goal.returns-in-Some
returns-in-Some c = ap (option_and_then (λ (s : ProcedureStep). s.request)) c.in-Some.ensures ∙ request_found c.args.name.now c.args.number c.args.steps.now c.requires

pub returns-in-None : goal.returns-in-None
returns-in-None c = ap (option_and_then (λ (s : ProcedureStep). s.request)) c.in-None.ensures ∙ request_found c.args.name.now c.args.number c.args.steps.now c.requires
