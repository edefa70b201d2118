use Rattle.std.proofs.Common.{inl, inr, refl}
use Rattle.tc_desk.specs.Replies.{refusal_reply}
use Rattle.tc_room.specs.Loads.{loading_of}
use Rattle.tc_room.proofs.OnceLemmas.{stays_so}
use Rattle.tc_room.proofs.StopLemmas.{stops_granted, stops_refused, stops_told, unread_low}
use Rattle.tc_room.proofs.RoomLemmas.{kept_book}
use Rattle.tc_room.proofs.TruthLemmas.{link_stays}
use Rattle.tc_room.proofs.rooms.Room.load_text.Goals as goal

pub returns-in-Err-clause-called : goal.returns-in-Err-clause-called
returns-in-Err-clause-called g c =
    record {
      reply = refusal_reply c.in-Err.refusal;
      made = λ replies held clean. (c.refused.ensures.acts, inl (c.in-Err.refusal, c.in-Err.ensures.refused, refl, stays_so g.S.Store replies _ c.requires.going held clean));
      says = c.refused.ensures.says;
      opened = refl;
      tells = link_stays _;
    }

pub returns-in-Ok-load_kept-clause-called : goal.returns-in-Ok-load_kept-clause-called
returns-in-Ok-load_kept-clause-called g c =
    let made = c.in-Ok-load_kept.ensures.answered in
    record {
      reply = made.0;
      made = λ replies held clean. (c.granted.ensures.acts, inr (loading_of c.args.name c.in-Ok.spelled, c.in-Ok.ensures.read c.args.name, made.5 replies held clean));
      says = c.granted.ensures.says made.0 made.1 made.2 made.3;
      opened = c.load_kept.ensures.keeps.opened;
      tells = made.4;
    }

pub returns-clause-called : goal.returns-clause-called
returns-clause-called g c =
    record {
      reply = refusal_reply c.in-Err-load_kept.refusal;
      made = λ replies held clean. (
        c.refused-in-Err-load_kept.ensures.acts,
        inr (loading_of c.args.name c.in-Ok.spelled, c.in-Ok.ensures.read c.args.name, c.in-Err-load_kept.ensures.answered.1 replies held clean),
      );
      says = c.refused-in-Err-load_kept.ensures.says;
      opened = c.load_kept.ensures.keeps.opened;
      tells = c.in-Err-load_kept.ensures.answered.0;
    }

pub returns-in-Err-clause-keeps : goal.returns-in-Err-clause-keeps
returns-in-Err-clause-keeps g c = record {
  stops = (λ acts.
      stops_refused _ _ _ c.in-Err.refusal c.refused.ensures.told c.requires.going c.requires.going (unread_low c.args.kind c.args.csv.now c.in-Err.refusal c.in-Err.ensures.refused));
  promise = c.opened-opened.ensures.promise;
  kept = kept_book _ c.opened-opened.ensures.good;
  clean = λ clean. clean;
}

pub returns-in-Ok-load_kept-clause-keeps : goal.returns-in-Ok-load_kept-clause-keeps
returns-in-Ok-load_kept-clause-keeps g c = record { stops = (λ acts. stops_granted _ _ _ _ c.granted.ensures.told c.in-Ok-load_kept.ensures.keeps.stops); promise = c.load_kept.ensures.keeps.promise; kept = c.load_kept.ensures.keeps.kept; clean = c.load_kept.ensures.clean }

pub returns-clause-keeps : goal.returns-clause-keeps
returns-clause-keeps g c = record { stops = (λ acts. stops_told _ _ _ _ c.refused-in-Err-load_kept.ensures.told c.in-Err-load_kept.ensures.keeps.stops); promise = c.load_kept.ensures.keeps.promise; kept = c.load_kept.ensures.keeps.kept; clean = c.load_kept.ensures.clean }
