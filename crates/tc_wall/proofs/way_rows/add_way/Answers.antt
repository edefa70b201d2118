-- One after the other; of the moves those that are drawn.
use Rattle.tc_wall.specs.WayParts.{way_parts}
use Rattle.tc_wall.proofs.PartLemmas.{then_adds, last_adds}
use Rattle.tc_wall.proofs.way_rows.add_way.Goals as goal

pub returns : goal.returns
unfolding way_parts
returns g c = last_adds _ _ _ _ _ _ (then_adds _ _ _ _ _ (then_adds _ _ _ _ _ c.in_ok-add_request.ensures c.in_ok-begin_bar.ensures) (rw c.drawn.ensures at c.in_ok-add_bar.ensures)) c.add_place.ensures
