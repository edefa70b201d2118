use Rattle.tc_view.proofs.EachLemmas.{each_once}
use Rattle.tc_view.proofs.laws.each_open_request_has_one_way.Goals as goal

pub returns : goal.returns
returns c = each_once
