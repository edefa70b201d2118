use Rattle.std.proofs.Common.{refl}
use Rattle.tc_front.proofs.WordLemmas.{differ}
use Rattle.tc_front.proofs.judge.judge_get.Goals as goal

pub returns-else-is : goal.returns-else-is
returns-else-is c = rw c.in-One.is (rw (differ _ _ _ c.is.ensures c.if-is.false) refl)
