-- One after the other.
use Rattle.tc_wall.specs.Urgents.{urgent_parts}
use Rattle.tc_wall.proofs.PartLemmas.{then_adds, last_adds}
use Rattle.tc_wall.proofs.urgent_rows.add_row.Goals as goal

pub returns : goal.returns
unfolding urgent_parts
returns g c = last_adds _ _ _ _ _ _ (then_adds _ _ _ _ _ (then_adds _ _ _ _ _ (then_adds _ _ _ _ _ c.in_ok-begin_row.ensures (rw c.text_of.ensures at c.in_ok-add_says.ensures)) c.in_ok-add_fixed.ensures) c.in_ok-add_age.ensures) c.add_fixed-2.ensures
