-- Its word.
use Rattle.tc_wall.specs.LinkParts.{premise_parts}
use Rattle.tc_wall.proofs.PartLemmas.{added}
use Rattle.tc_wall.proofs.link_rows.add_premise.Goals as goal

pub returns : goal.returns
unfolding premise_parts
returns g c = added _ _ _ _ (rw c.premise_word-word.ensures at c.write.ensures.bytes)
