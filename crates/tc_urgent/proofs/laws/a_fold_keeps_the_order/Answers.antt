use Rattle.tc_urgent.proofs.RankLemmas.{folded_later}
use Rattle.tc_urgent.proofs.laws.a_fold_keeps_the_order.Goals as goal

pub returns : goal.returns
returns c = λ lines none. folded_later lines none
