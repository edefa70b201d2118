use Rattle.std.proofs.Common.{rules, ◌∙◌, ap}
use Rattle.tc_types.specs.Grammar.{target_word}
use Rattle.tc_types.specs.RequestLine.{with_word}
use Rattle.tc_types.proofs.RideLemmas.{listed_more}
use Rattle.tc_lines.proofs.print.request_texts.targets_text.Goals as goal

pub loop-at-preserved : goal.loop-at-preserved
loop-at-preserved g c =
    c.in_ok-push_target.ensures
    ∙ ap (λ t. with_word t c.loop-at.at (target_word c.index-rides-at.result)) c.loop-at.invariant
    ∙ rw (c.index-rides-at.is) (listed_more target_word c.args.rides.now c.loop-at.at c.index-rides-at.result c.loop-at-test.true)
