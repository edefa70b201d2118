-- Which rows are told from any other by what their columns hold: a value that stands for none is nowhere the value itself.
use Rattle.std.specs.Prelude.{◌≡◌, ◌≢◌, ◌==◌, ◌≤◌, ℕ, ℤ, [], length, Some, IfSome}
use Rattle.std.specs.List.{AllByRecursion}
use Rattle.tc_types.specs.declared.requests.Origin.{Origin}
use Rattle.tc_types.specs.declared.requests.Command.{Command}
use Rattle.tc_types.specs.declared.tables.rows.PlacedRequest.{PlacedRequest}
use Rattle.tc_types.specs.declared.tables.rows.ProcedureStep.{ProcedureStep}
use Rattle.tc_types.specs.declared.tables.rows.StepRecord.{StepRecord}
use Rattle.tc_types.specs.Grammar.{IsCommand, IsOutcome}
use Rattle.tc_types.specs.Schedule.{is_schedule, inserted}
use Rattle.tc_types.specs.Tables.{Image}
use Rattle.tc_store.specs.Requests.{service_of, subtype_of, target_of, time_of}

-- a stack has a name, and the line before is a line
pub record IsToldOrigin (o : Origin) : Type 0 where
  pub stack : o.stack ≢ []
  pub after : o.after ≢ Some 0

-- an insert has one activity in the row of its request: those behind it stand in the table of cargo
pub record IsToldCommand (c : Command) : Type 0 where
  pub known : IsCommand c
  pub alone : length (inserted c) ≤ 1

pub record IsToldRequest (p : PlacedRequest) : Type 0 where
  pub command : IsToldCommand p.request.body.command
  pub outcome : IsOutcome p.request.body.outcome
  pub origin : IfSome p.request.origin IsToldOrigin

abbrev pub IsToldStep : ProcedureStep → Type 0
IsToldStep s = s.request ≢ Some 0

abbrev pub IsToldRecord : StepRecord → Type 0
IsToldRecord r = r.second ≢ Some []

-- so it is of all rows of all tables
pub record IsTold (image : Image) : Type 0 where
  pub requests : AllByRecursion IsToldRequest image.requests
  pub steps : AllByRecursion IsToldStep image.steps
  pub records : AllByRecursion IsToldRecord image.records

-- a command with these columns, of service 11 where it is of the on-board schedule, and nowhere else
pub record ShowsCommand (of kind named : ℕ) (at : ℤ) (c : Command) : Type 0 where
  pub service : service_of c ≡ of
  pub subtype : subtype_of c ≡ kind
  pub target : target_of c ≡ named
  pub time : time_of c ≡ at
  pub told : is_schedule c ≡ (of == 11)
