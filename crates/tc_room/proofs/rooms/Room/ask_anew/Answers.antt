use Rattle.std.proofs.Common.{inl, inr, refl}
use Rattle.tc_desk.specs.Replies.{refusal_reply}
use Rattle.tc_room.proofs.OnceLemmas.{judged_spells, stays_so}
use Rattle.tc_room.proofs.StopLemmas.{act_text_low, stops_refused}
use Rattle.tc_room.proofs.RoomLemmas.{kept_book}
use Rattle.tc_room.proofs.TruthLemmas.{link_stays, text_true}
use Rattle.tc_room.proofs.rooms.Room.ask_anew.Goals as goal

pub returns-in-Ok-clause-called : goal.returns-in-Ok-clause-called
returns-in-Ok-clause-called g c =
    let is = c.ask_once.ensures.called in
    record { reply = is.reply; made = λ replies held clean. inr (c.in-Ok.line, c.in-Ok.ensures.judged, is.made replies held clean); says = is.says; opened = is.opened; tells = text_true c.args.text.now c.in-Ok.line.act is.reply _ _ (judged_spells c.args.text.now c.args.caller.by c.args.moment c.in-Ok.line c.in-Ok.ensures.judged) is.tells }

pub returns-in-Err-clause-called : goal.returns-in-Err-clause-called
returns-in-Err-clause-called g c =
    record {
      reply = refusal_reply c.in-Err.refusal;
      made = λ replies held clean. inl (c.in-Err.refusal, c.in-Err.ensures.judged, refl, stays_so g.S.Store replies _ c.requires.going held clean);
      says = c.refused.ensures.says;
      opened = refl;
      tells = inl (link_stays _);
    }

pub returns-in-Ok-clause-keeps : goal.returns-in-Ok-clause-keeps
returns-in-Ok-clause-keeps g c = c.ask_once.ensures.keeps

pub returns-in-Err-clause-keeps : goal.returns-in-Err-clause-keeps
returns-in-Err-clause-keeps g c = record {
  stops = (λ acts.
      stops_refused _ _ _ c.in-Err.refusal c.refused.ensures.told c.requires.going c.requires.going (act_text_low c.args.caller.by c.args.text.now c.args.moment c.in-Err.refusal c.in-Err.ensures.judged));
  promise = c.opened-opened.ensures.promise;
  kept = kept_book _ c.opened-opened.ensures.good;
  clean = λ clean. clean;
}
