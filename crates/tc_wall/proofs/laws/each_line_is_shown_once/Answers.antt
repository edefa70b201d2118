use Rattle.tc_wall.proofs.ToldLemmas.{each_line}
use Rattle.tc_wall.proofs.laws.each_line_is_shown_once.Goals as goal

pub returns : goal.returns
returns c = each_line
