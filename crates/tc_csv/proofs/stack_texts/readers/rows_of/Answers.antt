use Rattle.std.proofs.Common.{◌≡◌, rules, true}
use Rattle.std.specs.Result.{is_ok}
use Rattle.tc_csv.proofs.StackTextLemmas.{row_more, row_broken}
use Rattle.tc_csv.proofs.stack_texts.readers.rows_of.Goals as goal

pub returns-in-Err : goal.returns-in-Err
returns-in-Err c = rw c.wrong.ensures (row_broken c.args.records.now c.loop-index.index c.index-records-index.result c.loop-index.rows.items c.in-Err.rule (search rules) c.index-records-index.is c.loop-index.invariant c.in-Err.ensures.broken)

pub loop-index-preserved : goal.loop-index-preserved
loop-index-preserved c =
    let good : is_ok c.push.result ≡ true = search rules in
    rw (rw good at c.push.ensures.items) (row_more c.args.records.now c.loop-index.index c.index-records-index.result c.loop-index.rows.items c.in-Ok.row (search rules) c.index-records-index.is c.loop-index.invariant c.in-Ok.ensures.found)
