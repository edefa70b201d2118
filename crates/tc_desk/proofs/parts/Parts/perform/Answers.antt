-- What an act on the link makes of the book goes on from the book before it.
use Rattle.tc_desk.proofs.GoesOnLemmas.{performed-goes_on, noted-goes_on}
use Rattle.tc_desk.proofs.parts.Parts.perform.Goals as goal

pub returns-in-Link-clause-goes_on : goal.returns-in-Link-clause-goes_on
returns-in-Link-clause-goes_on g c = performed-goes_on _ _ c.args.stamp c.in-Link.given _ _ c.fly.result c.fly.ensures

pub returns-in-Step-clause-goes_on : goal.returns-in-Step-clause-goes_on
returns-in-Step-clause-goes_on g c = noted-goes_on _ _ c.args.stamp c.in-Step.given _ _ c.step.result c.step.ensures
