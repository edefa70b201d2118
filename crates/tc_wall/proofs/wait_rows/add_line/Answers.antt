-- Its stack.
use Rattle.std.proofs.Common.{append-nil}
use Rattle.tc_wall.specs.Waits.{line_parts}
use Rattle.tc_wall.proofs.PartLemmas.{added}
use Rattle.tc_wall.proofs.wait_rows.add_line.Goals as goal

pub returns : goal.returns
unfolding line_parts
returns g c = added _ _ _ _ (simp append-nil (rw c.as_str.ensures.text at c.write.ensures.bytes))
