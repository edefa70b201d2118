-- The control word was heard, or a report came from outside.
use Rattle.std.proofs.Common.{sym, refl}
use Rattle.tc_world.proofs.CarryLemmas.{hears}
use Rattle.tc_world.proofs.parts.LinkParts.hear.Goals as goal

pub returns-in-Word-clause-happens : goal.returns-in-Word-clause-happens
returns-in-Word-clause-happens g c =
    rw (← c.self.view_is, c.many.ensures, c.in-Word.is)
    (hears g.U.Carrier.kind _ _ _ _ _ _ (sym c.reserve.ensures.machine) c.reserve.ensures.readied (sym c.reserve.ensures.log) refl c.pass_word-answer.ensures.heard)

pub returns-in-Telemetry-clause-happens : goal.returns-in-Telemetry-clause-happens
returns-in-Telemetry-clause-happens g c =
    rw (← c.self.view_is, c.in-Telemetry.is)
    (c.reserve.ensures.readied, rw (c.reserve.ensures.machine, c.reserve.ensures.log) refl, c.lone.ensures)
