use Rattle.tc_wall.proofs.ToldLemmas.{all_ways}
use Rattle.tc_wall.proofs.laws.each_way_is_shown_once.Goals as goal

pub returns : goal.returns
returns c = all_ways
