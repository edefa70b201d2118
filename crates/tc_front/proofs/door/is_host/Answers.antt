use Rattle.tc_front.proofs.WordLemmas.{decides}
use Rattle.tc_front.proofs.door.is_host.Goals as goal

pub returns : goal.returns
returns c = decides _ _ c.is_named.result c.is_named.ensures
