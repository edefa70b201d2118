-- The directive was carried out, and it was looked at K and at the start.
use Rattle.std.proofs.Common.{sym, subst}
use Rattle.tc_world.specs.declared.events.Event.TheVariants as event
use Rattle.tc_world.specs.World.{Happens}
use Rattle.tc_world.proofs.CarryLemmas.{judged}
use Rattle.tc_world.proofs.parts.LinkParts.directive.Goals as goal

pub returns-clause-happens : goal.returns-clause-happens
returns-clause-happens g c =
    subst (λ v. Happens g.U.Carrier.kind g.D.Carrier.kind (event.Directive c.args.directive) c.args.self.now (record v { fits = c.still_fits-self-inside.result; level = c.stays_level-level.result }) c.in_ok-answer.answer)
    (sym c.self.view_is)
    (judged g.U.Carrier.kind g.D.Carrier.kind c.args.directive c.args.self.now c.carry_out.new.self c.in_ok-answer.answer _ _ c.in_ok-answer.ensures.directs
    c.still_fits-self-inside.ensures c.stays_level-level.ensures)
