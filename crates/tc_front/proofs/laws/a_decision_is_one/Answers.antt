use Rattle.tc_front.proofs.FrontLemmas.{decided_unique}
use Rattle.tc_front.proofs.laws.a_decision_is_one.Goals as goal

pub returns : goal.returns
returns c = decided_unique
