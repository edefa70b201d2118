-- One more.
use Rattle.std.proofs.Common.{◌<◌, ◌++◌, [], length, ap, ◌∙◌, arith}
use Rattle.std.specs.List.{cons_option}
use Rattle.tc_urgent.specs.Judging.{open_insert}
use Rattle.tc_urgent.proofs.LineLemmas.{given_more}
use Rattle.tc_urgent.proofs.inserts.open_inserts.Goals as goal

pub loop-at-preserved : goal.loop-at-preserved
loop-at-preserved g c =
    let all = c.count-at-end.ensures.count in
    let low : c.loop-at.at < length c.args.book.now.book.requests = omega (arith, all) in
    given_more (open_insert c.args.book.now.book) c.args.book.now.book.requests c.loop-at.at [] c.loop-at.inserts.items c.add_one.new.items.items low c.loop-at.invariant
    (c.in_ok-add_one.ensures ∙ ap (λ o. c.loop-at.inserts.items ++ cons_option o []) c.open_insert.ensures)
