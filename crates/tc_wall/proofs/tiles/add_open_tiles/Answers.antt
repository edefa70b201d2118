-- One tile after the other.
use Rattle.tc_wall.specs.Tiles.{open_tiles_parts}
use Rattle.tc_wall.proofs.PartLemmas.{then_adds, last_adds}
use Rattle.tc_wall.proofs.tiles.add_open_tiles.Goals as goal

pub returns : goal.returns
unfolding open_tiles_parts
returns g c = last_adds _ _ _ _ _ _ (then_adds _ _ _ _ _ (then_adds _ _ _ _ _ (then_adds _ _ _ _ _ c.in_ok-add_place_tile.ensures c.in_ok-add_place_tile-2.ensures) c.in_ok-add_under_way.ensures) c.in_ok-add_place_tile-3.ensures) c.add_place_tile-4.ensures
