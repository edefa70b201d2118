use Rattle.tc_desk.specs.Replies.{refusal_reply}
use Rattle.tc_room.proofs.StopLemmas.{stops_granted, stops_told}
use Rattle.tc_room.proofs.rooms.Room.do_once.Goals as goal

pub returns-in-Ok-clause-called : goal.returns-in-Ok-clause-called
returns-in-Ok-clause-called g c =
    let made = c.in-Ok.ensures.answered in
    record {
      reply = made.0;
      made = λ replies held clean. (c.granted.ensures.acts, made.5 replies held clean);
      says = c.granted.ensures.says made.0 made.1 made.2 made.3;
      opened = c.act_kept.ensures.keeps.opened;
      tells = made.4;
    }

pub returns-in-Err-clause-called : goal.returns-in-Err-clause-called
returns-in-Err-clause-called g c =
    record {
      reply = refusal_reply c.in-Err.refusal;
      made = λ replies held clean. (c.refused.ensures.acts, c.in-Err.ensures.answered.1 replies held clean);
      says = c.refused.ensures.says;
      opened = c.act_kept.ensures.keeps.opened;
      tells = c.in-Err.ensures.answered.0;
    }

pub returns-in-Ok-clause-keeps : goal.returns-in-Ok-clause-keeps
returns-in-Ok-clause-keeps g c = record { stops = (λ acts. stops_granted _ _ _ _ c.granted.ensures.told c.in-Ok.ensures.keeps.stops); promise = c.act_kept.ensures.keeps.promise; kept = c.act_kept.ensures.keeps.kept; clean = c.act_kept.ensures.clean }

pub returns-in-Err-clause-keeps : goal.returns-in-Err-clause-keeps
returns-in-Err-clause-keeps g c = record { stops = (λ acts. stops_told _ _ _ _ c.refused.ensures.told c.in-Err.ensures.keeps.stops); promise = c.act_kept.ensures.keeps.promise; kept = c.act_kept.ensures.keeps.kept; clean = c.act_kept.ensures.clean }
