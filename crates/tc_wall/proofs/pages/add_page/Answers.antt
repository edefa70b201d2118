-- One section after the other.
use Rattle.tc_wall.specs.Page.{page}
use Rattle.tc_wall.proofs.PartLemmas.{then_adds, last_adds}
use Rattle.tc_wall.proofs.pages.add_page.Goals as goal

pub returns : goal.returns
unfolding page
returns g c = last_adds _ _ _ _ _ _ (then_adds _ _ _ _ _ (then_adds _ _ _ _ _ (then_adds _ _ _ _ _ (then_adds _ _ _ _ _ (then_adds _ _ _ _ _ (then_adds _ _ _ _ _ c.in_ok-add_head.ensures c.in_ok-add_heading.ensures) c.in_ok-add_tiles.ensures) c.in_ok-add_urgents.ensures) c.in_ok-add_live.ensures) c.in_ok-add_ways.ensures) c.in_ok-add_moves.ensures) c.add_fixed.ensures
