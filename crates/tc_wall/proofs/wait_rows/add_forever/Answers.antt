-- One after the other.
use Rattle.tc_wall.specs.Waits.{forever_parts}
use Rattle.tc_wall.proofs.PartLemmas.{then_adds, last_adds}
use Rattle.tc_wall.proofs.wait_rows.add_forever.Goals as goal

pub returns : goal.returns
unfolding forever_parts
returns g c = last_adds _ _ _ _ _ _ (then_adds _ _ _ _ _ c.in_ok-add_fixed.ensures c.in_ok-add_lock.ensures) c.add_fixed-2.ensures
