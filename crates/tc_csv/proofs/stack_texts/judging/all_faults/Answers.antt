use Rattle.std.proofs.Common.{map, inl}
use Rattle.std.proofs.lemmas.Result.{IfOk-weaker}
use Rattle.csv.specs.Records.{fields_of}
use Rattle.tc_csv.proofs.RowLemmas.{rows_behind}
use Rattle.tc_csv.proofs.StackFaultLemmas.{few_behind, table_faults}
use Rattle.tc_csv.proofs.stack_texts.judging.all_faults.Goals as goal

pub faults_of-requires : goal.faults_of-requires
faults_of-requires c = rw c.deref.ensures.value (few_behind c.in-Ok.records.items c.args.text.now c.in-Ok.ensures)

pub returns-in-Ok : goal.returns-in-Ok
returns-in-Ok c =
    IfOk-weaker c.faults_of.result _ _ (λ v are. table_faults c.args.text.now (map fields_of c.in-Ok.records.items) v.items c.in-Ok.ensures are)
    (rw (c.deref.ensures.value, rows_behind c.in-Ok.records.items) at c.faults_of.ensures)

pub returns-in-Err-Wrong : goal.returns-in-Err-Wrong
returns-in-Err-Wrong c = IfOk-weaker c.only.result _ _ (λ v is. inl (c.in-Err-Wrong.fault, rw c.in-Err-Wrong.field-0-is at c.in-Err-Wrong.ensures, is)) c.only.ensures
