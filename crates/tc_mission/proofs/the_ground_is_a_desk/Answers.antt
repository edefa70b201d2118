-- Each event of the desk is a step of the mission.
use Rattle.std.proofs.Common.{refl, sym}
use Rattle.tc_mission.proofs.Missions.{ground_steps, sent_same, confirmed_same}
use Rattle.tc_mission.proofs.FieldRuns.{far_stays, field_run}
use Rattle.tc_mission.proofs.the_ground_is_a_desk.Goals as goal

pub returns-clause-steps : goal.returns-clause-steps
returns-clause-steps c = λ given w v answer m g air h. ground_steps given w v answer m g air h

pub returns-clause-stays : goal.returns-clause-stays
returns-clause-stays c = λ given w m n answer far h g. far_stays given w m n answer far h g

pub returns-clause-begins : goal.returns-clause-begins
returns-clause-begins c = λ fop own farm vc fits. record { fop = refl; queue = refl; past = refl; newest = refl; vc = refl }

pub returns-clause-sent : goal.returns-clause-sent
returns-clause-sent c = λ w m g. sym (sent_same w m g)

pub returns-clause-confirmed : goal.returns-clause-confirmed
returns-clause-confirmed c = λ w m g. sym (confirmed_same w m g)

pub returns-clause-field : goal.returns-clause-field
returns-clause-field c = λ w m moments g h run.
    let laws = c.a_mission_is_a_world.ensures in
    field_run (λ m n answer h fop farm step. laws.kept m n answer h fop farm step) (λ m h clean. (laws.claims m h).claims clean) w m moments g h run
