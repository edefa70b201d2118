use Rattle.tc_urgent.proofs.LawLemmas.{folded_total}
use Rattle.tc_urgent.proofs.laws.a_fold_counts_all.Goals as goal

pub returns : goal.returns
returns c = λ lines. folded_total lines
