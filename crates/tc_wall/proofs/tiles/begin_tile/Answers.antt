-- Its class and its sign.
use Rattle.tc_wall.specs.Tiles.{tile_begins}
use Rattle.tc_wall.proofs.PartLemmas.{added}
use Rattle.tc_wall.proofs.tiles.begin_tile.Goals as goal

pub returns : goal.returns
unfolding tile_begins
returns g c = added _ _ _ _ (rw (c.zero_word-zero.ensures, c.sign-sign.ensures) at c.write.ensures.bytes)
