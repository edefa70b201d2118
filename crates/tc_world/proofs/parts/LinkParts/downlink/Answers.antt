-- The control word was heard, or a report came down.
use Rattle.std.proofs.Common.{sym, refl, inr}
use Rattle.tc_types.specs.declared.link.reports.Report.TheVariants as report
use Rattle.tc_world.proofs.CarryLemmas.{hears}
use Rattle.tc_world.proofs.parts.LinkParts.downlink.Goals as goal

pub returns-in-Word-clause-happens : goal.returns-in-Word-clause-happens
returns-in-Word-clause-happens g c =
    rw (← c.self.view_is, c.many.ensures)
    (inr (record {
      item = report.Word c.in-Word.word;
      left = c.take.new.self;
      taken = rw c.in-Word.is at c.in-Some.ensures.some;
      heard = hears g.U.Carrier.kind _ _ _ _ _ _ (sym c.reserve.ensures.machine) c.reserve.ensures.readied (sym c.reserve.ensures.log) refl c.pass_word-answer.ensures.heard;
    }))

pub returns-in-Telemetry-clause-happens : goal.returns-in-Telemetry-clause-happens
returns-in-Telemetry-clause-happens g c =
    rw (← c.self.view_is)
    (inr (record {
      item = report.Telemetry c.in-Telemetry.telemetry;
      left = c.take.new.self;
      taken = rw c.in-Telemetry.is at c.in-Some.ensures.some;
      heard = (
        c.reserve.ensures.readied,
        rw (c.reserve.ensures.machine, c.reserve.ensures.log) refl,
        c.lone.ensures,
      );
    }))
