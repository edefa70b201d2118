-- Its numbers.
use Rattle.std.proofs.Common.{append-nil}
use Rattle.tc_wall.specs.Waits.{approvals_parts}
use Rattle.tc_wall.proofs.PartLemmas.{added}
use Rattle.tc_wall.proofs.wait_rows.add_approvals.Goals as goal

pub returns : goal.returns
unfolding approvals_parts
returns g c = added _ _ _ _ (simp append-nil (rw (c.given-given.ensures, c.wanted-wanted.ensures) at c.write.ensures.bytes))
