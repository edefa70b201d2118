-- Its time is that of its moment.
use Rattle.tc_wall.specs.Heading.{moved_parts}
use Rattle.tc_wall.proofs.PartLemmas.{added}
use Rattle.tc_wall.proofs.headings.add_moved.Goals as goal

pub returns : goal.returns
unfolding moved_parts
returns g c = added _ _ _ _ (rw (c.as_str-time.ensures.value, c.time_text-time.ensures, c.get-moment.ensures.value) at c.write.ensures.bytes)
