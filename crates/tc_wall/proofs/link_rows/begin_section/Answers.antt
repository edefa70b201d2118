-- Its word.
use Rattle.tc_wall.specs.LinkParts.{section_begins}
use Rattle.tc_wall.proofs.PartLemmas.{added}
use Rattle.tc_wall.proofs.link_rows.begin_section.Goals as goal

pub returns : goal.returns
unfolding section_begins
returns g c = added _ _ _ _ (rw c.premise_word-word.ensures at c.write.ensures.bytes)
