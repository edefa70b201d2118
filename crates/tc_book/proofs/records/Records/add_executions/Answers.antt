-- One more.
use Rattle.std.proofs.Common.{◌<◌, ◌++◌, [], length, ap, ◌∙◌, arith}
use Rattle.std.specs.List.{cons_option}
use Rattle.tc_book.specs.Waiting.{execution_waits}
use Rattle.tc_book.proofs.WaitingLemmas.{given_more}
use Rattle.tc_book.proofs.records.Records.add_executions.Goals as goal

pub loop-at-preserved : goal.loop-at-preserved
loop-at-preserved g c =
    let all = c.count_executions-at-end.ensures.count in
    let low : c.loop-at.at < length c.args.self.now.book.log.executions = omega (arith, all) in
    given_more (execution_waits c.args.self.now.book.log) c.args.self.now.book.log.executions c.loop-at.at c.args.waiting.now.items c.loop-at.waiting.items c.add_one.new.waiting.items low c.loop-at.invariant
    (c.in_ok-add_one.ensures ∙ ap (λ o. c.loop-at.waiting.items ++ cons_option o []) c.execution_waits.ensures)
