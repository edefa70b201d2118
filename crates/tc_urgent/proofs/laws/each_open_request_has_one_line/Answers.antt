use Rattle.tc_urgent.proofs.LawLemmas.{shown_once}
use Rattle.tc_urgent.proofs.laws.each_open_request_has_one_line.Goals as goal

pub returns : goal.returns
returns c = λ book opened scheduled. shown_once book opened scheduled
