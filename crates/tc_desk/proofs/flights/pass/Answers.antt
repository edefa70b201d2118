use Rattle.tc_desk.proofs.StillLemmas.{silent}
use Rattle.tc_desk.proofs.flights.pass.Goals as goal

pub returns-clause-heard : goal.returns-clause-heard
returns-clause-heard g c = λ stamp mirror book. silent _ _ c.args.event _ _ _ stamp mirror book c.requires.still (c.in_ok-flight.ensures.still c.requires.still) c.in_ok-flight.ensures.asks.asked.happens
