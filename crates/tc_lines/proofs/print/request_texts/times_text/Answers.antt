use Rattle.std.proofs.Common.{rules, ◌∙◌, ap}
use Rattle.tc_types.specs.Grammar.{time_word}
use Rattle.tc_types.specs.RequestLine.{with_word}
use Rattle.tc_types.proofs.RideLemmas.{listed_more}
use Rattle.tc_lines.proofs.print.request_texts.times_text.Goals as goal

pub loop-at-preserved : goal.loop-at-preserved
loop-at-preserved g c =
    c.in_ok-push_time.ensures
    ∙ ap (λ t. with_word t c.loop-at.at (time_word c.index-rides-at.result)) c.loop-at.invariant
    ∙ rw (c.index-rides-at.is) (listed_more time_word c.args.rides.now c.loop-at.at c.index-rides-at.result c.loop-at-test.true)
