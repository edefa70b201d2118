-- What stands between events carries the claims.
use Rattle.tc_world.proofs.Claims.{claimed}
use Rattle.tc_world.proofs.worlds.World.clean.Goals as goal

pub returns-clause-claims : goal.returns-clause-claims
returns-clause-claims g c =
    let kept = c.window_is_kept.ensures in
    rw (← c.self.view_is) (record {
      claims = λ clean. claimed g.U.Carrier.kind g.D.Carrier.kind c.self.inside.parts (kept.claims _ c.self.invariant.0 clean);
      flight = λ clean. kept.flight _ c.self.invariant.0 clean;
      never_locked_out = λ clean fits. kept.never_locked_out _ c.self.invariant.0 c.self.invariant.1 clean fits;
    })
