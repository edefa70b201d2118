use Rattle.tc_view.proofs.OneLemmas.{file_one}
use Rattle.tc_view.proofs.laws.a_file_has_one_page.Goals as goal

pub returns : goal.returns
returns c = file_one
