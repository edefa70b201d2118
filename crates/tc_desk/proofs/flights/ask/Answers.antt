-- A report comes down alone, and at what comes down alone.
use Rattle.tc_desk.proofs.StillLemmas.{no_report, comes_alone}
use Rattle.tc_desk.proofs.flights.ask.Goals as goal

pub returns-clause-alone : goal.returns-clause-alone
returns-clause-alone g c = comes_alone _ _ c.args.event _ _ _ c.in_ok-flight.ensures.asks.asked.happens

pub returns-clause-no_report : goal.returns-clause-no_report
returns-clause-no_report g c = λ quiet. no_report _ _ c.args.event _ _ _ quiet c.in_ok-flight.ensures.asks.asked.happens
