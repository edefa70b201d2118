use Rattle.tc_front.proofs.FrontLemmas.{decided-append}
use Rattle.tc_front.proofs.laws.a_decision_stays.Goals as goal

pub returns : goal.returns
returns c = decided-append
