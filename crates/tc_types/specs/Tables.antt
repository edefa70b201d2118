-- The rows of the desk's tables, and what a batch makes of them.
use Rattle.std.specs.Prelude.{ℕ, ◌==◌, nat_lt, if◌then◌else◌, List, [], ◌∷◌, ◌++◌, map, fold}
use Rattle.tc_types.specs.declared.history.places.Place.{Place}
use Rattle.tc_types.specs.declared.history.places.Place.TheVariants.{Entered}
use Rattle.tc_types.specs.declared.history.moves.Move.{Move}
use Rattle.tc_types.specs.declared.tables.rows.PlacedRequest.{PlacedRequest}
use Rattle.tc_types.specs.declared.tables.rows.Tally.{Tally}
use Rattle.tc_types.specs.declared.tables.rows.Approval.{Approval}
use Rattle.tc_types.specs.declared.tables.rows.LoadedStack.{LoadedStack}
use Rattle.tc_types.specs.declared.tables.rows.StackApproval.{StackApproval}
use Rattle.tc_types.specs.declared.tables.rows.LoadedProcedure.{LoadedProcedure}
use Rattle.tc_types.specs.declared.tables.rows.ProcedureStep.{ProcedureStep}
use Rattle.tc_types.specs.declared.tables.rows.BegunExecution.{BegunExecution}
use Rattle.tc_types.specs.declared.tables.rows.StepRecord.{StepRecord}
use Rattle.tc_types.specs.declared.tables.cargo.Cargo.{Cargo}
use Rattle.tc_types.specs.declared.tables.rows.Row.{Row}
use Rattle.tc_types.specs.declared.tables.rows.Row.TheVariants as row
use Rattle.tc_types.specs.Lawful.{place_number, all_places}

-- all rows of all tables: each table whose key is one number in order of it, each other in the order in which its rows came
pub record Image : Type 0 where
  pub requests : List PlacedRequest
  pub moves : List Move
  pub tallies : List Tally
  pub approvals : List Approval
  pub stacks : List LoadedStack
  pub stack_approvals : List StackApproval
  pub procedures : List LoadedProcedure
  pub steps : List ProcedureStep
  pub executions : List BegunExecution
  pub records : List StepRecord
  pub cargo : List Cargo

-- a tally of each place, in order of number
abbrev pub tallies_by : (Place → ℕ) → List Tally
tallies_by amount = map (λ place. let tally : Tally = record { place = place; amount = amount place } in tally) all_places

-- the tables of a desk where nothing happened yet
abbrev pub empty_image : Image
empty_image = record {
  requests = [];
  moves = [];
  tallies = tallies_by (λ place. 0);
  approvals = [];
  stacks = [];
  stack_approvals = [];
  procedures = [];
  steps = [];
  executions = [];
  records = [];
  cargo = [];
}

-- a table with this row: in place of the one with the same key, else in order of key
abbrev pub put_by : {X : Type 0} → (X → ℕ) → X → List X → List X
put_by key row [] = row ∷ []
put_by key row (first ∷ others) =
    if nat_lt (key row) (key first) then row ∷ first ∷ others
    else if key row == key first then row ∷ others
    else first ∷ put_by key row others

-- the keys of the tables
abbrev pub request_key : PlacedRequest → ℕ
request_key r = r.request.number

abbrev pub move_key : Move → ℕ
move_key m = m.seq

abbrev pub tally_key : Tally → ℕ
tally_key t = place_number t.place

abbrev pub execution_key : BegunExecution → ℕ
execution_key e = e.execution

-- the tables with one more row, or with this one in place of the one with its key
abbrev pub with_row : Image → Row → Image
with_row image (row.Entered request) = record image { requests = put_by request_key (record { request = request; place = Entered }) image.requests }
with_row image (row.Placed placed) = record image { requests = put_by request_key placed image.requests }
with_row image (row.Moved move) = record image { moves = put_by move_key move image.moves }
with_row image (row.Tallied tally) = record image { tallies = put_by tally_key tally image.tallies }
with_row image (row.Approved approval) = record image { approvals = image.approvals ++ approval ∷ [] }
with_row image (row.Loaded stack) = record image { stacks = image.stacks ++ stack ∷ [] }
with_row image (row.StackApproved approval) = record image { stack_approvals = image.stack_approvals ++ approval ∷ [] }
with_row image (row.ProcedureLoaded procedure) = record image { procedures = image.procedures ++ procedure ∷ [] }
with_row image (row.StepLoaded step) = record image { steps = image.steps ++ step ∷ [] }
with_row image (row.Begun execution) = record image { executions = put_by execution_key execution image.executions }
with_row image (row.Recorded given) = record image { records = image.records ++ given ∷ [] }
with_row image (row.Carried cargo) = record image { cargo = image.cargo ++ cargo ∷ [] }

-- the tables with all rows of a batch, in order
abbrev pub applied : List Row → Image → Image
applied batch image = fold with_row image batch
