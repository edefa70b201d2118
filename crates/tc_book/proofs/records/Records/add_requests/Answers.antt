-- One more.
use Rattle.std.proofs.Common.{◌<◌, ◌++◌, [], length, ap, ◌∙◌, arith}
use Rattle.std.specs.List.{cons_option}
use Rattle.tc_book.specs.Waiting.{request_waits}
use Rattle.tc_book.proofs.WaitingLemmas.{given_more}
use Rattle.tc_book.proofs.records.Records.add_requests.Goals as goal

pub loop-at-preserved : goal.loop-at-preserved
loop-at-preserved g c =
    let all = c.count-at-end.ensures.count in
    let low : c.loop-at.at < length c.args.self.now.book.requests = omega (arith, all) in
    given_more (request_waits c.args.self.now.book) c.args.self.now.book.requests c.loop-at.at c.args.waiting.now.items c.loop-at.waiting.items c.add_one.new.waiting.items low c.loop-at.invariant
    (c.in_ok-add_one.ensures ∙ ap (λ o. c.loop-at.waiting.items ++ cons_option o []) c.request_waits.ensures)
