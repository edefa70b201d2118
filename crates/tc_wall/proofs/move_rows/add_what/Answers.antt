-- Its words.
use Rattle.tc_wall.specs.MoveParts.{what_parts}
use Rattle.tc_wall.proofs.PartLemmas.{added}
use Rattle.tc_wall.proofs.move_rows.add_what.Goals as goal

pub returns : goal.returns
unfolding what_parts
returns g c = added _ _ _ _ (rw (c.get-request.ensures.value, c.from_name-from.ensures, c.name-to.ensures, c.name-cause.ensures) at c.write.ensures.bytes)
