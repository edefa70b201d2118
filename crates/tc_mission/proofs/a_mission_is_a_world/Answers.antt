-- Each step is an event of a world.
use Rattle.tc_world.specs.Links.{lossy}
use Rattle.tc_world.proofs.Claims.{claimed}
use Rattle.tc_mission.specs.Mission.{relayed}
use Rattle.tc_mission.proofs.Missions.{as_world, told_fair, first_is}
use Rattle.tc_mission.proofs.a_mission_is_a_world.Goals as goal

pub returns-clause-world : goal.returns-clause-world
returns-clause-world c = λ m n answer step. as_world m n answer step

pub returns-clause-begins : goal.returns-clause-begins
returns-clause-begins c = λ fop farm vc sound initial farm_sound lockout. first_is fop farm vc sound initial farm_sound lockout

pub returns-clause-kept : goal.returns-clause-kept
returns-clause-kept c = λ m n answer h fop farm step.
    let laws = c.window_is_kept.ensures in
    let s = as_world m n answer step in
    record {
      kept = laws.kept s.0 _ _ s.1 h.kept fop farm s.2;
      fit = laws.fits s.0 _ _ s.1 h.kept h.fit fop farm s.2;
      fair = laws.fair s.0 _ _ s.1 h.kept h.fit h.fair fop farm s.2;
      narrow = laws.narrow s.0 _ _ s.1 h.narrow s.2;
    }

pub returns-clause-follows : goal.returns-clause-follows
returns-clause-follows c = λ m n answer h fop farm step clean.
    let s = as_world m n answer step in
    c.window_is_kept.ensures.follows s.0 _ _ s.1 h.kept fop farm s.2 clean

pub returns-clause-alerts : goal.returns-clause-alerts
returns-clause-alerts c = λ m n answer h fop farm step clean fits.
    told_fair m n answer step
    (λ given happens. c.window_is_kept.ensures.alerts given _ _ answer h.kept h.fit h.fair fop farm happens clean fits)

pub returns-clause-claims : goal.returns-clause-claims
returns-clause-claims c = λ m h.
    let laws = c.window_is_kept.ensures in
    record {
      claims = λ clean. claimed relayed lossy m (laws.claims _ h.kept clean);
      flight = λ clean. laws.flight _ h.kept clean;
      never_locked_out = λ clean fits. laws.never_locked_out _ h.kept h.fit clean fits;
    }
