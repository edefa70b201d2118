-- One after the other; of the moves the last.
use Rattle.tc_wall.specs.MoveParts.{moves_parts}
use Rattle.tc_wall.proofs.PartLemmas.{then_adds, last_adds}
use Rattle.tc_wall.proofs.move_rows.add_moves.Goals as goal

pub returns : goal.returns
unfolding moves_parts
returns g c = last_adds _ _ _ _ _ _ (then_adds _ _ _ _ _ (then_adds _ _ _ _ _ (then_adds _ _ _ _ _ (then_adds _ _ _ _ _ c.in_ok-add_fixed.ensures (rw c.last_of.ensures at c.in_ok-add_rows.ensures)) c.in_ok-add_fixed-2.ensures) c.in_ok-add_none.ensures) c.in_ok-add_left_out.ensures) c.add_fixed-3.ensures
