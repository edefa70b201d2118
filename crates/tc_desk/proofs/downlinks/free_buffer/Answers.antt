-- A release is never refused.
use Rattle.tc_desk.proofs.PutLemmas.{free_answered}
use Rattle.tc_desk.proofs.downlinks.free_buffer.Goals as goal

pub returns : goal.returns
returns g c =
    free_answered g.U.Carrier.kind g.D.Carrier.kind c.args.world.now c.step.new.self _
    c.step.result (c.step.ensures.spared tt) c.step.ensures.happens c.step.ensures.requests c.step.ensures.window c.step.ensures.claims.never_locked_out
