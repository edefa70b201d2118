-- Its sign, and its word.
use Rattle.tc_wall.specs.WayParts.{place_parts}
use Rattle.tc_wall.proofs.PartLemmas.{added}
use Rattle.tc_wall.proofs.way_rows.add_place.Goals as goal

pub returns : goal.returns
unfolding place_parts
returns g c = added _ _ _ _ (rw (c.sign-sign.ensures, c.name-name.ensures) at c.write.ensures.bytes)
