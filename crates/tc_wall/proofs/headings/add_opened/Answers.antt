-- Its time is that of the opening.
use Rattle.tc_wall.specs.Heading.{opened_parts}
use Rattle.tc_wall.proofs.PartLemmas.{added}
use Rattle.tc_wall.proofs.headings.add_opened.Goals as goal

pub returns : goal.returns
unfolding opened_parts
returns g c = added _ _ _ _ (rw (c.as_str-time.ensures.value, c.time_text-time.ensures) at c.write.ensures.bytes)
