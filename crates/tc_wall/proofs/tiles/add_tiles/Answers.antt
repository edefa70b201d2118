-- One after the other.
use Rattle.tc_wall.specs.Tiles.{tiles_parts}
use Rattle.tc_wall.proofs.PartLemmas.{then_adds, last_adds}
use Rattle.tc_wall.proofs.tiles.add_tiles.Goals as goal

pub returns : goal.returns
unfolding tiles_parts
returns g c = last_adds _ _ _ _ _ _ (then_adds _ _ _ _ _ (then_adds _ _ _ _ _ c.in_ok-add_fixed.ensures c.in_ok-add_open_tiles.ensures) c.in_ok-add_final_tiles.ensures) c.add_fixed-2.ensures
