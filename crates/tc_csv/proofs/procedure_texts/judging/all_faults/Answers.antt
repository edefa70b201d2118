use Rattle.std.proofs.Common.{map, inl}
use Rattle.std.proofs.lemmas.Result.{IfOk-weaker}
use Rattle.csv.specs.Records.{fields_of}
use Rattle.tc_csv.proofs.RowLemmas.{rows_behind}
use Rattle.tc_csv.proofs.ProcedureFaultLemmas.{table_faults}
use Rattle.tc_csv.proofs.procedure_texts.judging.all_faults.Goals as goal

pub returns-in-Ok : goal.returns-in-Ok
returns-in-Ok c =
    IfOk-weaker c.broken_steps.result _ _ (λ v are. table_faults c.args.text.now (map fields_of c.in-Ok.records.items) v.items c.in-Ok.ensures are)
    (rw (c.deref.ensures.value, rows_behind c.in-Ok.records.items) at c.broken_steps.ensures)

pub returns-in-Err-Wrong : goal.returns-in-Err-Wrong
returns-in-Err-Wrong c = IfOk-weaker c.only.result _ _ (λ v is. inl (c.in-Err-Wrong.fault, rw c.in-Err-Wrong.field-0-is at c.in-Err-Wrong.ensures, is)) c.only.ensures
