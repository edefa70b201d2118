-- A procedure: its steps, in order (this desk's own).
use Rattle.std.specs.Prelude.{◌≡◌, ◌<◌, ◌≤◌, true, IfSome, List, length}
use Rattle.std.specs.List.{AllByRecursion}
use Rattle.tc_types.specs.Limits.{most_steps}
use Rattle.tc_types.specs.Numbers.{IsNumber}
use Rattle.tc_types.specs.StepTexts.{is_step_text}
use Rattle.tc_proc.specs.declared.procedures.Step.{Step}

-- a request's number has 32 bits
pub record IsStep (step : Step) : Type 0 where
  pub text : is_step_text step.text ≡ true
  pub request : IfSome step.request IsNumber

-- one step or more, as many as a procedure has at most
pub record IsProcedure (steps : List Step) : Type 0 where
  pub some : 0 < length steps
  pub few : length steps ≤ most_steps
  pub each : AllByRecursion IsStep steps
