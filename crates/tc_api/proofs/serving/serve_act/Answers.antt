use Rattle.std.proofs.Common.{ap, refl}
use Rattle.tc_desk.specs.Replies.{refusal_reply}
use Rattle.tc_api.specs.Acts.{act_outcome, act_seen}
use Rattle.tc_api.proofs.ServingLemmas.{act_called, act_refused}
use Rattle.tc_api.proofs.serving.serve_act.Goals as goal

pub returns-in-Ok : goal.returns-in-Ok
returns-in-Ok g c =
    let told = c.act_once-called.ensures.called in
    let made = c.answer_served.ensures told.reply told.says in
    record {
      reply = told.reply;
      makes = act_called g.S.Store _ _ _ (act_seen c.in-Ok.post) _ _ _ _ (ap act_outcome c.in-Ok.is) c.judge_act.ensures c.as_bytes-text.ensures.value told.made made.0 told.tells;
      text = made.1;
      opened = told.opened;
    }

pub returns-in-Err : goal.returns-in-Err
returns-in-Err g c =
    record { reply = refusal_reply c.in-Err.refusal; makes = act_refused g.S.Store c.args.room.now _ _ _ _ (ap act_outcome c.in-Err.is) c.judge_act.ensures c.refused.ensures.0; text = c.refused.ensures.1; opened = refl }
