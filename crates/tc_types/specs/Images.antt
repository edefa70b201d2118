-- The rows that were read, in the words of the tables.
use Rattle.tc_types.specs.Tables.{Image as Rows}
use Rattle.tc_types.specs.declared.tables.images.Image.{Image}

abbrev pub rows_in : Image → Rows
rows_in image = record {
  requests = image.requests.items;
  moves = image.moves.items;
  tallies = image.tallies.items;
  approvals = image.approvals.items;
  stacks = image.stacks.items;
  stack_approvals = image.stack_approvals.items;
  procedures = image.procedures.items;
  steps = image.steps.items;
  executions = image.executions.items;
  records = image.records.items;
  cargo = image.cargo.items;
}
