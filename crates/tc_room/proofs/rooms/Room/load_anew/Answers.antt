use Rattle.std.proofs.Common.{inl, inr, refl}
use Rattle.tc_desk.specs.Replies.{refusal_reply}
use Rattle.tc_room.proofs.OnceLemmas.{stays_so}
use Rattle.tc_room.proofs.StopLemmas.{stops_refused, unfit_low}
use Rattle.tc_room.proofs.RoomLemmas.{kept_book}
use Rattle.tc_room.proofs.TruthLemmas.{link_stays}
use Rattle.tc_room.proofs.rooms.Room.load_anew.Goals as goal

pub returns-in-Some-clause-called : goal.returns-in-Some-clause-called
returns-in-Some-clause-called g c =
    let is = c.load_text.ensures.called in
    let known = c.in-Some.ensures in
    record {
      reply = is.reply;
      made = λ replies held clean. let made = is.made replies held clean in (
        made.0,
        inr (c.in-Some.known.0, known.0, known.2, rw known.1 at made.1),
      );
      says = is.says;
      opened = is.opened;
      tells = is.tells;
    }

pub returns-in-None-clause-called : goal.returns-in-None-clause-called
returns-in-None-clause-called g c =
    record {
      reply = refusal_reply c.unfit.result;
      made = λ replies held clean. (c.refused.ensures.acts, inl (c.unfit.result, c.in-None.ensures, c.unfit.ensures, refl, stays_so g.S.Store replies _ c.requires.going held clean));
      says = c.refused.ensures.says;
      opened = refl;
      tells = link_stays _;
    }

pub returns-in-Some-clause-keeps : goal.returns-in-Some-clause-keeps
returns-in-Some-clause-keeps g c = c.load_text.ensures.keeps

pub returns-in-None-clause-keeps : goal.returns-in-None-clause-keeps
returns-in-None-clause-keeps g c = record {
  stops = (λ acts.
      stops_refused _ _ _ c.unfit.result c.refused.ensures.told c.requires.going c.requires.going (unfit_low c.args.kind c.args.csv.now c.unfit.result c.unfit.ensures));
  promise = c.opened-opened.ensures.promise;
  kept = kept_book _ c.opened-opened.ensures.good;
  clean = λ clean. clean;
}
