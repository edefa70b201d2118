-- One after the other.
use Rattle.tc_wall.specs.Waits.{wanting_parts}
use Rattle.tc_wall.proofs.PartLemmas.{then_adds, last_adds}
use Rattle.tc_wall.proofs.wait_rows.add_wanting.Goals as goal

pub returns : goal.returns
unfolding wanting_parts
returns g c = last_adds _ _ _ _ _ _ (then_adds _ _ _ _ _ c.in_ok-add_approvals.ensures c.in_ok-add_author.ensures) c.add_other.ensures
