-- Its word.
use Rattle.tc_wall.specs.ScheduleParts.{enabled_parts}
use Rattle.tc_wall.proofs.PartLemmas.{added}
use Rattle.tc_wall.proofs.schedules.add_enabled.Goals as goal

pub returns : goal.returns
unfolding enabled_parts
returns g c = added _ _ _ _ (rw c.enabled_word-word.ensures at c.write.ensures.bytes)
