use Rattle.std.proofs.Common.{refl}
use Rattle.tc_desk.specs.Replies.{refusal_reply}
use Rattle.tc_api.proofs.ServingLemmas.{body_served, body_unread}
use Rattle.tc_api.proofs.serving.serve_post.Goals as goal

pub returns-in-Ok : goal.returns-in-Ok
returns-in-Ok g c =
    let made = c.serve_value.ensures in record { reply = made.reply; makes = body_served g.S.Store _ _ _ _ _ _ c.in-Ok.ensures.read made.makes; text = made.text; opened = made.opened }

pub returns-in-Err : goal.returns-in-Err
returns-in-Err g c =
    record { reply = refusal_reply c.in-Err.refusal; makes = body_unread g.S.Store _ _ _ _ _ c.in-Err.ensures.refused c.refused.ensures.0; text = c.refused.ensures.1; opened = refl }
