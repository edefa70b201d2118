use Rattle.std.proofs.Common.{inl}
use Rattle.tc_room.specs.Calls.{ActsAnew}
use Rattle.tc_room.specs.Truth.{TellsTextTrue}
use Rattle.tc_room.proofs.OnceLemmas.{acts_over, call_again, call_anew, call_failed}
use Rattle.tc_room.proofs.LookLemmas.{keeps_anew, keeps_told}
use Rattle.tc_room.proofs.StopLemmas.{stops_granted, stops_over, stops_told}
use Rattle.tc_room.proofs.TruthLemmas.{link_same, text_over}
use Rattle.tc_room.proofs.rooms.Room.act_called.Goals as goal

pub returns-in-Err-clause-called : goal.returns-in-Err-clause-called
returns-in-Err-clause-called g c = call_failed g.S.Store c.args.caller _ _ c.refused.result _ (λ reply new. TellsTextTrue c.args.text.now reply c.args.self.now new) c.in-Err.refusal c.in-Err.ensures.answered c.refused.ensures.says c.kept_reply.ensures.looks.keeps.opened (inl (link_same _ _ c.kept_reply.ensures.looks.leaves.desk))

pub returns-in-Ok-Some-clause-called : goal.returns-in-Ok-Some-clause-called
returns-in-Ok-Some-clause-called g c =
    call_again g.S.Store c.args.caller _ _ c.granted.result _ (λ reply new. TellsTextTrue c.args.text.now reply c.args.self.now new) c.in-Ok-Some.text (rw c.in-Ok-Some.field-0-is at c.in-Ok-Some.ensures.answered) c.in-Ok-Some.ensures.going.0 (rw c.in-Ok-Some.field-0-is at c.in-Ok-Some.ensures.text) c.granted.ensures.acts c.granted.ensures.says c.kept_reply.ensures.looks.keeps.opened (λ reply. (inl (link_same _ _ c.kept_reply.ensures.looks.leaves.desk)))

pub returns-in-Ok-None-clause-called : goal.returns-in-Ok-None-clause-called
returns-in-Ok-None-clause-called g c =
    call_anew g.S.Store c.args.caller _ _ _ c.ask_anew.result (λ old replies acts reply new. ActsAnew g.S.Store c.args.moment c.args.text.now replies c.args.caller old acts reply new) (λ old reply new. TellsTextTrue c.args.text.now reply old new) (rw c.in-Ok-None.field-0-is at c.in-Ok-None.ensures.answered) c.in-Ok-None.ensures.going.0 c.kept_reply.ensures.looks.keeps.opened c.ask_anew.ensures.keeps.clean
    (λ replies acts reply. acts_over g.S.Store replies c.args.caller _ _ _ c.kept_reply.ensures.looks.leaves.desk c.args.moment c.args.text.now acts reply)
    (λ reply. text_over _ _ _ c.kept_reply.ensures.looks.leaves.desk c.args.text.now reply) c.ask_anew.ensures.called

pub returns-in-Err-clause-keeps : goal.returns-in-Err-clause-keeps
returns-in-Err-clause-keeps g c =
    keeps_told g.S.Store _ _ c.refused.result _ c.kept_reply.ensures.looks (λ acts. stops_told _ _ _ _ c.refused.ensures.told (rw c.in-Err.is at c.kept_reply.ensures.looks.keeps.stops))

pub returns-in-Ok-Some-clause-keeps : goal.returns-in-Ok-Some-clause-keeps
returns-in-Ok-Some-clause-keeps g c =
    keeps_told g.S.Store _ _ c.granted.result _ c.kept_reply.ensures.looks (λ acts. stops_granted _ _ _ _ c.granted.ensures.told (rw c.in-Ok-Some.is at c.kept_reply.ensures.looks.keeps.stops))

pub returns-in-Ok-None-clause-keeps : goal.returns-in-Ok-None-clause-keeps
returns-in-Ok-None-clause-keeps g c =
    keeps_anew g.S.Store _ _ _ c.ask_anew.result _ c.kept_reply.ensures.looks
    (λ acts. stops_over _ _ _ _ _ (rw c.in-Ok-None.is at c.kept_reply.ensures.looks.keeps.stops) c.in-Ok-None.ensures.going.1 (c.ask_anew.ensures.keeps.stops acts)) c.ask_anew.ensures.keeps
