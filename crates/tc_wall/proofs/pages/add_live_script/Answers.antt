-- One after the other.
use Rattle.tc_wall.specs.Page.{live_script_parts}
use Rattle.tc_wall.proofs.PartLemmas.{then_adds, last_adds}
use Rattle.tc_wall.proofs.pages.add_live_script.Goals as goal

pub returns : goal.returns
unfolding live_script_parts
returns g c = last_adds _ _ _ _ _ _ (then_adds _ _ _ _ _ (then_adds _ _ _ _ _ (then_adds _ _ _ _ _ c.in_ok-add_fixed.ensures c.in_ok-add_fixed-2.ensures) c.in_ok-add_fixed-3.ensures) c.in_ok-add_fixed-4.ensures) c.add_fixed-5.ensures
