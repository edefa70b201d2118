use Rattle.std.proofs.Common.{map}
use Rattle.csv.specs.Records.{fields_of}
use Rattle.tc_csv.proofs.RowLemmas.{rows_behind}
use Rattle.tc_csv.proofs.ProcedureRowLemmas.{table_judged}
use Rattle.tc_csv.proofs.procedure_texts.readers.read_steps.Goals as goal

pub returns : goal.returns
returns c =
    table_judged c.args.text.now (map fields_of c.in_ok-records.records.items) c.steps_of.result c.in_ok-records.ensures
    (rw (c.deref.ensures.value, rows_behind c.in_ok-records.records.items) at c.steps_of.ensures)
