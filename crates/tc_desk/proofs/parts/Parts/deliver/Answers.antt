-- The report is the one that the spacecraft makes at once.
use Rattle.std.proofs.Common.{sym, subst, ap, ◌∙◌}
use Rattle.tc_desk.specs.Asks.{reports_after}
use Rattle.tc_desk.specs.Machine.{PutsDown}
use Rattle.tc_desk.proofs.parts.Parts.deliver.Goals as goal

pub returns-in-Some-accept-clause-reports : goal.returns-in-Some-accept-clause-reports
returns-in-Some-accept-clause-reports g c =
    subst (λ items. PutsDown g.U.Carrier.kind g.D.Carrier.kind items c.args.self.now.world c.put_down.new.world)
    (c.in-Some-accept.ensures.reports ∙ sym (ap reports_after c.in-Some.is))
    (rw (← c.self.view_is) c.put_down.ensures.put)
