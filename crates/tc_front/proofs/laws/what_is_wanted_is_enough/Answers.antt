use Rattle.tc_front.proofs.WantedLemmas.{wanted_enough}
use Rattle.tc_front.proofs.laws.what_is_wanted_is_enough.Goals as goal

pub returns : goal.returns
returns c = wanted_enough
