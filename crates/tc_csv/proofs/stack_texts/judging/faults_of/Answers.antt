use Rattle.std.proofs.Common.{map, arith}
use Rattle.std.proofs.lemmas.List.{length-map}
use Rattle.std.proofs.lemmas.Result.{IfOk-weaker}
use Rattle.csv.specs.Records.{fields_of}
use Rattle.tc_csv.proofs.RowLemmas.{spell_length}
use Rattle.tc_csv.specs.RowTexts.{SpellsOnlyRow}
use Rattle.tc_csv.proofs.StackFaultLemmas.{read_barred, read_broken}
use Rattle.tc_csv.proofs.stack_texts.judging.faults_of.Goals as goal

pub barred_rows-requires : goal.barred_rows-requires
barred_rows-requires c =
    let many = spell_length SpellsOnlyRow 1 (map fields_of c.args.records.now) c.in-Ok.rows.items c.in-Ok.ensures in
    let mapped = length-map c.args.records.now fields_of in
    let few = c.requires in
    rw c.deref.ensures.value (omega (arith, many, mapped, few))

pub returns-in-Ok : goal.returns-in-Ok
returns-in-Ok c =
    IfOk-weaker c.barred_rows.result _ _ (λ v is. read_barred (map fields_of c.args.records.now) c.in-Ok.rows.items v.items c.in-Ok.ensures is) (rw c.deref.ensures.value at c.barred_rows.ensures)

pub returns-in-Err-Wrong : goal.returns-in-Err-Wrong
returns-in-Err-Wrong c =
    IfOk-weaker c.broken_rows.result _ _ (λ v are. read_broken (map fields_of c.args.records.now) v.items c.in-Err-Wrong._fault (rw c.in-Err-Wrong.field-0-is at c.in-Err-Wrong.ensures) are) c.broken_rows.ensures
