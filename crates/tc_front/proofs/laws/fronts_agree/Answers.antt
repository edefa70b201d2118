use Rattle.tc_front.proofs.FrontLemmas.{same_decision}
use Rattle.tc_front.proofs.laws.fronts_agree.Goals as goal

pub returns : goal.returns
returns c = same_decision
