-- One after the other.
use Rattle.tc_wall.specs.Page.{head_parts}
use Rattle.tc_wall.proofs.PartLemmas.{then_adds, last_adds}
use Rattle.tc_wall.proofs.pages.add_head.Goals as goal

pub returns : goal.returns
unfolding head_parts
returns g c = last_adds _ _ _ _ _ _ (then_adds _ _ _ _ _ (then_adds _ _ _ _ _ (then_adds _ _ _ _ _ (then_adds _ _ _ _ _ (then_adds _ _ _ _ _ c.in_ok-add_fixed.ensures c.in_ok-add_fixed-2.ensures) c.in_ok-add_fixed-3.ensures) c.in_ok-add_script.ensures) c.in_ok-add_fixed-4.ensures) (rw c.size_word.ensures at c.in_ok-add_fixed-5.ensures)) c.add_fixed-6.ensures
