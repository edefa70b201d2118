use Rattle.tc_report.proofs.OneLemmas.{one_report}
use Rattle.tc_report.proofs.laws.a_report_is_one.Goals as goal

pub returns : goal.returns
returns c = one_report
