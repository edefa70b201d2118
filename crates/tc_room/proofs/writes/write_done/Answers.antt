use Rattle.std.proofs.Common.{◌≡◌, ◌∙◌, string_bytes}
use Rattle.tc_desk.specs.Replies.{act_reply}
use Rattle.tc_room.specs.Replies.{ended}
use Rattle.tc_room.proofs.OnceLemmas.{ok_text}
use Rattle.tc_room.proofs.writes.write_done.Goals as goal

pub returns-in_err-ok-clause-crash : goal.returns-in_err-ok-clause-crash
returns-in_err-ok-clause-crash g c =
    let said : string_bytes c.in_ok-text.text ≡ ended (act_reply c.args.done.now.first c.as_slice.result.now c.deref.result.now) = ok_text c.act_reply.result c.in_ok-text.text _ c.in_ok-text.ensures.value c.act_reply.ensures.text in
    let body = c.as_str.ensures.value ∙ (rw (c.as_slice.ensures, c.deref.ensures.value) at said) in
    rw (body, c.deref-2.ensures.value) at c.write_reply.ensures.crash

pub returns-clause-crash : goal.returns-clause-crash
returns-clause-crash g c =
    let said : string_bytes c.in_ok-text.text ≡ ended (act_reply c.args.done.now.first c.as_slice.result.now c.deref.result.now) = ok_text c.act_reply.result c.in_ok-text.text _ c.in_ok-text.ensures.value c.act_reply.ensures.text in
    let body = c.as_str.ensures.value ∙ (rw (c.as_slice.ensures, c.deref.ensures.value) at said) in
    rw (body, c.deref-2.ensures.value) at c.write_reply.ensures.crash
