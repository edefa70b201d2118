-- A put that has its room is not refused.
use Rattle.tc_desk.proofs.PutLemmas.{put_answered}
use Rattle.tc_desk.proofs.downlinks.put_down.Goals as goal

pub returns-clause-put : goal.returns-clause-put
returns-clause-put g c =
    put_answered g.U.Carrier.kind g.D.Carrier.kind c.args.report c.args.world.now c.step.new.self _
    c.step.result (c.step.ensures.spared c.requires) c.step.ensures.happens c.step.ensures.requests c.step.ensures.window c.step.ensures.claims.never_locked_out
