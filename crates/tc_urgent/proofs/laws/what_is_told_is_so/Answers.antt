use Rattle.tc_urgent.proofs.LawLemmas.{told_so}
use Rattle.tc_urgent.proofs.laws.what_is_told_is_so.Goals as goal

pub returns : goal.returns
returns c = λ book opened scheduled r. told_so book opened scheduled r
