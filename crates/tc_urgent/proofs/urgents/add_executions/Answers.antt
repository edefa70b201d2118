-- One more.
use Rattle.std.proofs.Common.{◌<◌, ◌++◌, [], length, ap, ◌∙◌, arith}
use Rattle.std.specs.List.{cons_option}
use Rattle.tc_urgent.specs.Lines.{execution_line}
use Rattle.tc_urgent.proofs.LineLemmas.{given_more}
use Rattle.tc_urgent.proofs.urgents.add_executions.Goals as goal

pub loop-at-preserved : goal.loop-at-preserved
loop-at-preserved g c =
    let all = c.count_executions-at-end.ensures.count in
    let low : c.loop-at.at < length c.args.book.now.book.log.executions = omega (arith, all) in
    given_more (execution_line c.args.book.now.book.log) c.args.book.now.book.log.executions c.loop-at.at c.args.lines.now.items c.loop-at.lines.items c.add_one.new.items.items low c.loop-at.invariant
    (c.in_ok-add_one.ensures ∙ ap (λ o. c.loop-at.lines.items ++ cons_option o []) c.execution_line.ensures)
