use Rattle.tc_view.proofs.LeftLemmas.{left_out}
use Rattle.tc_view.proofs.laws.nothing_more_urgent_is_left_out.Goals as goal

pub returns : goal.returns
returns c = left_out
