-- One after the other.
use Rattle.tc_wall.specs.LinkParts.{link_parts}
use Rattle.tc_wall.proofs.PartLemmas.{then_adds, last_adds}
use Rattle.tc_wall.proofs.link_rows.add_link.Goals as goal

pub returns : goal.returns
unfolding link_parts
returns g c = last_adds _ _ _ _ _ _ (then_adds _ _ _ _ _ (then_adds _ _ _ _ _ (then_adds _ _ _ _ _ (then_adds _ _ _ _ _ c.in_ok-begin_section.ensures c.in_ok-add_premise.ensures) c.in_ok-add_fop.ensures) c.in_ok-add_farm.ensures) c.in_ok-add_flies.ensures) c.add_fixed.ensures
