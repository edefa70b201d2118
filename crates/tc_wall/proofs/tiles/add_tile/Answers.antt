-- Its head, its counts, and its end.
use Rattle.tc_wall.specs.Tiles.{tile_parts}
use Rattle.tc_wall.proofs.PartLemmas.{then_adds, last_adds}
use Rattle.tc_wall.proofs.tiles.add_tile.Goals as goal

pub returns : goal.returns
unfolding tile_parts
returns g c = last_adds _ _ _ _ _ _ (then_adds _ _ _ _ _ (rw c.sum_at.ensures at c.in_ok-add_tile_head.ensures) c.in_ok-add_counts.ensures) c.add_fixed.ensures
