use Rattle.std.proofs.Common.{map, drop, sym}
use Rattle.csv.specs.Records.{fields_of}
use Rattle.tc_csv.specs.Rows.{SpellRows}
use Rattle.tc_csv.proofs.RowLemmas.{rows_behind}
use Rattle.tc_csv.specs.RowTexts.{SpellsOnlyRow}
use Rattle.tc_csv.proofs.StackTextLemmas.{few_rows, stack_read, barred_read}
use Rattle.tc_csv.proofs.stack_texts.readers.read_rows.Goals as goal

pub first_barred-requires : goal.first_barred-requires
first_barred-requires c =
    let spelled : SpellRows SpellsOnlyRow 1 (drop 1 (map fields_of c.in_ok-records.records.items)) c.in_ok-rows.rows.items = rw (c.deref.ensures.value, rows_behind c.in_ok-records.records.items) at c.in_ok-rows.ensures in
    rw c.deref-2.ensures.value (few_rows c.args.text.now (map fields_of c.in_ok-records.records.items) c.in_ok-rows.rows.items c.in_ok-records.ensures spelled)

pub returns-in-None : goal.returns-in-None
returns-in-None c =
    let spelled : SpellRows SpellsOnlyRow 1 (drop 1 (map fields_of c.in_ok-records.records.items)) c.in_ok-rows.rows.items = rw (c.deref.ensures.value, rows_behind c.in_ok-records.records.items) at c.in_ok-rows.ensures in
    stack_read c.args.text.now (map fields_of c.in_ok-records.records.items) c.in_ok-rows.rows.items c.in_ok-records.ensures spelled (sym (rw c.deref-2.ensures.value at c.in-None.ensures))

pub returns : goal.returns
returns c =
    let spelled : SpellRows SpellsOnlyRow 1 (drop 1 (map fields_of c.in_ok-records.records.items)) c.in_ok-rows.rows.items = rw (c.deref.ensures.value, rows_behind c.in_ok-records.records.items) at c.in_ok-rows.ensures in
    rw c.wrong.ensures (barred_read c.args.text.now (map fields_of c.in_ok-records.records.items) c.in_ok-rows.rows.items c.in-Some.line c.in_ok-records.ensures spelled (sym (rw c.deref-2.ensures.value at c.in-Some.ensures)))
