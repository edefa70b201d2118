-- Its text, and by whom it is worked.
use Rattle.std.proofs.Common.{append-nil}
use Rattle.tc_wall.specs.Waits.{next_parts}
use Rattle.tc_wall.proofs.PartLemmas.{added}
use Rattle.tc_wall.proofs.wait_rows.add_next.Goals as goal

pub returns : goal.returns
unfolding next_parts
returns g c = added _ _ _ _ (simp append-nil (rw c.whom_word-whom.ensures at c.write.ensures.bytes))
