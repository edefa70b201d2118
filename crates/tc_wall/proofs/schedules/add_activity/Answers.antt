-- Its numbers, and its time.
use Rattle.tc_wall.specs.ScheduleParts.{activity_parts}
use Rattle.tc_wall.proofs.PartLemmas.{added}
use Rattle.tc_wall.proofs.schedules.add_activity.Goals as goal

pub returns : goal.returns
unfolding activity_parts
returns g c = added _ _ _ _ (rw (c.get-apid.ensures.value, c.get-count.ensures.value, c.as_str-time.ensures.value, c.time_text-time.ensures) at c.write.ensures.bytes)
