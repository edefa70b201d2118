use Rattle.tc_front.proofs.DoorLemmas.{head_found, no_head}
use Rattle.tc_front.proofs.heads.is_foreign_head.Goals as goal

pub returns-in-Some : goal.returns-in-Some
returns-in-Some c =
    let found = c.in-Some.ensures.found in
    head_found _ _ found.0 c.lets_in.result found.1 (c.lets_in.ensures found.0 found.2)

pub returns-in-None : goal.returns-in-None
returns-in-None c = no_head _ _ c.in-None.ensures.none
