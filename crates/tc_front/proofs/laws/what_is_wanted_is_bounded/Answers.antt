use Rattle.tc_front.proofs.WantedLemmas.{wanted_most}
use Rattle.tc_front.proofs.laws.what_is_wanted_is_bounded.Goals as goal

pub returns : goal.returns
returns c = wanted_most
