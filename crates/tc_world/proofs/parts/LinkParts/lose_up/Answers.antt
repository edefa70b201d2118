-- A frame that is lost leaves no more than there were.
use Rattle.std.proofs.Common.{rules, ◌≤◌, length, refl, arith}
use Rattle.tc_world.proofs.Lists.{sublist_length}
use Rattle.tc_world.proofs.parts.LinkParts.lose_up.Goals as goal

pub returns-clause-limits : goal.returns-clause-limits
returns-clause-limits g c =
    rw (← c.self.view_is)
    (let fewer : length (g.U.Carrier.kind.content c.lose-found.new.self) ≤ length (g.U.Carrier.kind.content c.self.inside.side.up)
    = sublist_length _ _ (g.met.U.Carrier.lose_only_loses _ _ _ _ c.lose-found.ensures.lost) in
    let few = c.of_loss.ensures.most in record {
      refused = search rules;
      spared = λ always. refl;
      indications = omega (arith, few);
      frames = omega (arith, fewer);
      kept_room = λ no_put. omega arith;
      room = omega arith;
      sound = (c.self.invariant.1, c.self.invariant.2);
    })
