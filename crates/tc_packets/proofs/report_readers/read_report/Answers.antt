-- A packet whose CRC finds errors is read as no report.
use Rattle.tc_packets.proofs.ReportOneLemmas.{damaged_refused}
use Rattle.tc_packets.proofs.report_readers.read_report.Goals as goal

pub returns-clause-damaged : goal.returns-clause-damaged
returns-clause-damaged c = damaged_refused c.args.profile.now c.args.octets.now c.answer_of.result c.answer_of.ensures
