-- Its time.
use Rattle.tc_wall.specs.WayParts.{label_parts}
use Rattle.tc_wall.proofs.PartLemmas.{added}
use Rattle.tc_wall.proofs.ways.add_label.Goals as goal

pub returns : goal.returns
unfolding label_parts
returns g c = added _ _ _ _ (rw (c.as_str-time.ensures.value, c.time_text-time.ensures) at c.write.ensures.bytes)
