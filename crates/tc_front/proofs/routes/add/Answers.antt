use Rattle.tc_front.proofs.RouteLaws.{made_route}
use Rattle.tc_front.proofs.routes.add.Goals as goal
use Rattle.tc_front.proofs.routes.add.Goals.{in-Ok, in-Err-OutOfMemory}

pub returns : goal.returns
returns c =
    elim c.match-insert.branch [
      | in-Ok w ↦ rw w.result-is (rw w.in-Ok.is at (made_route _ _ _ _ _ c.insert.ensures))
      | in-Err-OutOfMemory w ↦ rw w.result-is tt
    ]
