use Rattle.std.proofs.Common.{[], inl, inr, refl}
use Rattle.std.specs.String.{string_bytes}
use Rattle.tc_desk.specs.Replies.{refusal_reply}
use Rattle.tc_api.proofs.serving.serve_wall.Goals as goal

pub returns-in-Ok : goal.returns-in-Ok
returns-in-Ok g c =
    record { reply = []; makes = record { same = refl; shown = inl (string_bytes c.in-Ok.page, c.in-Ok.ensures.told, refl) }; text = refl; opened = refl }

pub returns-in-Err : goal.returns-in-Err
returns-in-Err g c = record {
  reply = refusal_reply c.in-Err.refusal;
  makes = record { same = refl; shown = inr (c.in-Err.refusal, c.in-Err.ensures.refused, c.refused.ensures.0) };
  text = c.refused.ensures.1;
  opened = refl;
}
