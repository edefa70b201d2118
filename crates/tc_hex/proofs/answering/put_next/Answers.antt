use Rattle.std.proofs.Common.{◌≡◌, ◌∙◌}
use Rattle.tc_hex.specs.Answers.{Answers, separator, without_end}
use Rattle.tc_hex.proofs.AnswerLemmas.{put_apart}
use Rattle.tc_hex.proofs.answering.put_next.Goals as goal

pub returns-clause-answer : goal.returns-clause-answer
returns-clause-answer g c =
    let text : c.as_bytes.result.now ≡ separator c.args.is_later = c.as_bytes.ensures.value ∙ c.separator.ensures in
    put_apart c.put_answer.result (λ answer is. Answers c.args.profile.now c.args.layer (without_end c.args.line.now) answer is) _ _ _ (separator c.args.is_later)
    (rw text at c.in_ok-put.ensures.text) (rw c.without_end.ensures at c.put_answer.ensures.answer)
