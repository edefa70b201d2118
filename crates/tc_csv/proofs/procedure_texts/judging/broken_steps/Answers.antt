use Rattle.std.proofs.Common.{◌+◌, rules, drop, map}
use Rattle.csv.specs.Records.{fields_of}
use Rattle.tc_csv.proofs.FaultListLemmas.{found_none, found_row, found_all, left_at}
use Rattle.tc_csv.specs.ProcedureTexts.{KeepsStep, step_rules}
use Rattle.tc_csv.proofs.procedure_texts.judging.broken_steps.Goals as goal

pub loop-index-init : goal.loop-index-init
loop-index-init c = found_none KeepsStep step_rules (map fields_of c.args.rows.now) c.new-faults.result.items (search rules)

pub loop-index-preserved : goal.loop-index-preserved
loop-index-preserved c =
    let rows = c.args.rows.now in
    let index = c.loop-index.index in
    found_row KeepsStep step_rules (index + 1) (fields_of c.index-rows-index.result) (drop (index + 1) (map fields_of rows)) (map fields_of rows) c.loop-index.faults.items _
    (rw (left_at rows index c.index-rows-index.result (search rules) c.index-rows-index.is) at c.loop-index.invariant) c.in_ok-add_broken.ensures

pub returns : goal.returns
returns c = found_all KeepsStep step_rules (c.loop-index.index + 1) c.loop-index.index c.args.rows.now c.loop-index.faults.items c.loop-index.invariant (search rules)
