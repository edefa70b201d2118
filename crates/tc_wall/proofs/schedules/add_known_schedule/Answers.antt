-- One after the other; of the activities the first.
use Rattle.tc_wall.specs.ScheduleParts.{known_schedule_parts}
use Rattle.tc_wall.proofs.PartLemmas.{then_adds, last_adds}
use Rattle.tc_wall.proofs.schedules.add_known_schedule.Goals as goal

pub returns : goal.returns
unfolding known_schedule_parts
returns g c = last_adds _ _ _ _ _ _ (then_adds _ _ _ _ _ (then_adds _ _ _ _ _ (then_adds _ _ _ _ _ (then_adds _ _ _ _ _ c.in_ok-add_fixed.ensures c.in_ok-add_enabled.ensures) (rw c.first_of.ensures.items at c.in_ok-add_activities.ensures)) c.in_ok-add_fixed-2.ensures) c.in_ok-add_left_out.ensures) c.add_fixed-3.ensures
