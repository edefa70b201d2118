use Rattle.std.proofs.Common.{ap, refl}
use Rattle.tc_desk.specs.Replies.{refusal_reply}
use Rattle.tc_api.specs.Loads.{load_outcome, load_seen}
use Rattle.tc_api.proofs.ServingLemmas.{load_called, load_refused}
use Rattle.tc_api.proofs.serving.serve_load.Goals as goal

pub returns-in-Ok : goal.returns-in-Ok
returns-in-Ok g c =
    let told = c.load_once-called.ensures.called in
    let made = c.answer_served.ensures told.reply told.says in
    record {
      reply = told.reply;
      makes = load_called g.S.Store _ _ c.args.kind _ (load_seen c.in-Ok.post) _ _ _ _ _ (ap load_outcome c.in-Ok.is) c.judge_load.ensures c.as_bytes-name.ensures.value c.as_bytes-csv.ensures.value told.made made.0 told.tells;
      text = made.1;
      opened = told.opened;
    }

pub returns-in-Err : goal.returns-in-Err
returns-in-Err g c =
    record { reply = refusal_reply c.in-Err.refusal; makes = load_refused g.S.Store c.args.room.now c.args.kind _ _ _ _ (ap load_outcome c.in-Err.is) c.judge_load.ensures c.refused.ensures.0; text = c.refused.ensures.1; opened = refl }
