use Rattle.tc_front.proofs.WantedLemmas.{wanted_needed}
use Rattle.tc_front.proofs.laws.what_is_wanted_is_needed.Goals as goal

pub returns : goal.returns
returns c = wanted_needed
