-- One after the other.
use Rattle.tc_wall.specs.Urgents.{left_first_parts}
use Rattle.tc_wall.proofs.PartLemmas.{then_adds, last_adds}
use Rattle.tc_wall.proofs.urgent_rows.add_left_first.Goals as goal

pub returns : goal.returns
unfolding left_first_parts
returns g c = last_adds _ _ _ _ _ _ (then_adds _ _ _ _ _ (then_adds _ _ _ _ _ (then_adds _ _ _ _ _ c.in_ok-add_left.ensures c.in_ok-add_left-2.ensures) c.in_ok-add_left-3.ensures) c.in_ok-add_left-4.ensures) c.add_left-5.ensures
