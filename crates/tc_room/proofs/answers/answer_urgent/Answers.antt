use Rattle.std.proofs.Common.{refl}
use Rattle.tc_desk.specs.Replies.{refusal_reply}
use Rattle.tc_urgent.specs.Pages.{page_lines}
use Rattle.tc_room.proofs.answers.answer_urgent.Goals as goal

pub returns-in-Ok : goal.returns-in-Ok
returns-in-Ok g c =
    let reply = page_lines c.args.from c.in-Ok.shown.items in
    record { reply = reply; made = (c.in-Ok.ensures.answered c.args.from).answered; says = c.granted.ensures reply (rw c.deref.ensures.value at c.urgent_reply.ensures.text) (rw c.deref.ensures.value at c.urgent_reply.ensures.lines) refl; opened = refl }

pub returns-in-Err : goal.returns-in-Err
returns-in-Err g c = record { reply = refusal_reply c.in-Err.refusal; made = (c.in-Err.ensures.answered c.args.from).answered; says = c.refusal_answer.ensures.says; opened = refl }
