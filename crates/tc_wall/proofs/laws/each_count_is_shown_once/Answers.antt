use Rattle.tc_wall.proofs.ToldLemmas.{one_count}
use Rattle.tc_wall.proofs.laws.each_count_is_shown_once.Goals as goal

pub returns : goal.returns
returns c = one_count
