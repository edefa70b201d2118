-- One after the other.
use Rattle.tc_wall.proofs.PartLemmas.{last_adds}
use Rattle.tc_wall.proofs.schedules.add_closed_schedule.Goals as goal

pub returns : goal.returns
returns g c = last_adds _ _ _ _ _ _ c.in_ok-add_fixed.ensures c.add_fixed-2.ensures
