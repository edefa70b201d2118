-- What flies stays.
use Rattle.std.proofs.Common.{sym, ◌∙◌, ap, subst}
use Rattle.tc_world.specs.Abstraction.{Bare, seen}
use Rattle.tc_world.specs.Kept.{IsKept}
use Rattle.tc_world.specs.Fitting.{IsFit, IsNarrow}
use Rattle.tc_world.specs.Fair.{IsFairOn}
use Rattle.tc_world.proofs.worlds.World.reserve.Goals as goal

pub invariant_of-self : goal.invariant_of-self
invariant_of-self g c =
    let before : Bare = seen g.U.Carrier.kind g.D.Carrier.kind c.self.inside.parts in
    let kept = subst (λ down. IsKept (record before { down = down }) × IsFit (record before { down = down }) × IsFairOn (record before { down = down }) × IsNarrow (record before { down = down }))
    (sym (c.reserve.ensures.content ∙ ap (λ p. g.D.Carrier.kind.content p.parts.down) c.self-inside.view_is)) c.self.invariant in
    subst (λ p. IsKept (record (seen g.U.Carrier.kind g.D.Carrier.kind p.parts) { down = g.D.Carrier.kind.content c.reserve.new.self }) × IsFit (record (seen g.U.Carrier.kind g.D.Carrier.kind p.parts) { down = g.D.Carrier.kind.content c.reserve.new.self }) × IsFairOn (record (seen g.U.Carrier.kind g.D.Carrier.kind p.parts) { down = g.D.Carrier.kind.content c.reserve.new.self }) × IsNarrow (record (seen g.U.Carrier.kind g.D.Carrier.kind p.parts) { down = g.D.Carrier.kind.content c.reserve.new.self }))
    (sym c.self-inside.view_is) kept
