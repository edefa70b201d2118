use Rattle.std.proofs.Common.{rules, sym}
use Rattle.tc_csv.proofs.StackFaultLemmas.{barred_next}
use Rattle.tc_csv.proofs.stack_texts.judging.barred_rows.Goals as goal

pub loop-index-preserved : goal.loop-index-preserved
loop-index-preserved c =
    rw c.in_ok-add_barred.ensures (barred_next c.args.rows.now c.args.rows.now c.loop-index.index c.index-rows-index.result c.loop-index.faults.items c.names_barred.result (search rules) c.index-rows-index.is
    (sym c.names_barred.ensures) c.loop-index.invariant)
