use Rattle.tc_urgent.proofs.RankLemmas.{none_later}
use Rattle.tc_urgent.proofs.laws.nothing_urgent_comes_later.Goals as goal

pub returns : goal.returns
returns c = λ lines up. none_later lines up
