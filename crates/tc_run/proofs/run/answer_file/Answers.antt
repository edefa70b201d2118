use Rattle.std.proofs.Common.{inl}
use Rattle.tc_run.proofs.run.answer_file.Goals as goal

pub returns-in_ok-answer_load-in-Ok-clause-answered : goal.returns-in_ok-answer_load-in-Ok-clause-answered
returns-in_ok-answer_load-in-Ok-clause-answered g c =
    let h = c.in_ok-answer_load-in-Ok.ensures.answered.replied in
    (h.reply, c.in-Ok.text.items, rw c.deref.ensures.value at h.made, c.in-Ok.ensures.gave, h.says.0, h.says.2, h.opened)

pub returns-in_err-answer_load-in-Ok-clause-memory : goal.returns-in_err-answer_load-in-Ok-clause-memory
returns-in_err-answer_load-in-Ok-clause-memory g c was =
    let h = c.in_err-answer_load-in-Ok.ensures.answered.replied in
    inl (h.reply, c.in-Ok.text.items, rw c.deref.ensures.value at h.made, c.in-Ok.ensures.gave)
