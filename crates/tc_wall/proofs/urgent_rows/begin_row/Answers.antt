-- One after the other.
use Rattle.tc_wall.specs.Urgents.{begin_parts}
use Rattle.tc_wall.proofs.PartLemmas.{then_adds, last_adds}
use Rattle.tc_wall.proofs.urgent_rows.begin_row.Goals as goal

pub returns : goal.returns
unfolding begin_parts
returns g c = last_adds _ _ _ _ _ _ (then_adds _ _ _ _ _ (then_adds _ _ _ _ _ (then_adds _ _ _ _ _ c.in_ok-add_subject.ensures c.in_ok-add_same.ensures) (rw c.group_of.ensures at c.in_ok-add_group.ensures)) c.in_ok-add_marked.ensures) c.add_on_board.ensures
