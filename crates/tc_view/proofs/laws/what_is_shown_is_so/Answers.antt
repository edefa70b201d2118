use Rattle.tc_view.proofs.SoLemmas.{shown_so}
use Rattle.tc_view.proofs.laws.what_is_shown_is_so.Goals as goal

pub returns : goal.returns
returns c = shown_so
