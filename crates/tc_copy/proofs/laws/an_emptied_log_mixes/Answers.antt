use Rattle.tc_copy.proofs.MixLemmas.{mixes}
use Rattle.tc_copy.proofs.laws.an_emptied_log_mixes.Goals as goal

pub returns : goal.returns
returns c = mixes
