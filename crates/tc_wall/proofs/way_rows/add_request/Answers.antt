-- One cell after the other.
use Rattle.tc_wall.specs.WayParts.{request_parts}
use Rattle.tc_wall.proofs.PartLemmas.{then_adds, last_adds}
use Rattle.tc_wall.proofs.way_rows.add_request.Goals as goal

pub returns : goal.returns
unfolding request_parts
returns g c = last_adds _ _ _ _ _ _ (then_adds _ _ _ _ _ (then_adds _ _ _ _ _ (then_adds _ _ _ _ _ (then_adds _ _ _ _ _ (then_adds _ _ _ _ _ (rw c.get.ensures.value at c.in_ok-begin_row.ensures) c.in_ok-add_identity.ensures) c.in_ok-add_command.ensures) c.in_ok-add_critical.ensures) c.in_ok-add_earlier.ensures) c.in_ok-add_author.ensures) c.add_origin.ensures
