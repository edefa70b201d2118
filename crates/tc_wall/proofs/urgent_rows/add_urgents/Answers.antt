-- One after the other; of what is open the first.
use Rattle.tc_wall.specs.Urgents.{urgents_parts}
use Rattle.tc_wall.proofs.PartLemmas.{then_adds, last_adds}
use Rattle.tc_wall.proofs.urgent_rows.add_urgents.Goals as goal

pub returns : goal.returns
unfolding urgents_parts
returns g c = last_adds _ _ _ _ _ _ (then_adds _ _ _ _ _ (then_adds _ _ _ _ _ (then_adds _ _ _ _ _ (then_adds _ _ _ _ _ (then_adds _ _ _ _ _ c.in_ok-add_fixed.ensures (rw c.first_of.ensures.items at c.in_ok-add_rows.ensures)) c.in_ok-add_fixed-2.ensures) c.in_ok-add_none.ensures) c.in_ok-add_left_first.ensures) c.in_ok-add_left_last.ensures) c.add_fixed-3.ensures
