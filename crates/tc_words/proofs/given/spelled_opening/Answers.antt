use Rattle.tc_words.proofs.MomentLemmas.{unread}
use Rattle.tc_words.proofs.given.spelled_opening.Goals as goal

pub returns-clause-fault : goal.returns-clause-fault
returns-clause-fault c = unread _ _ _ _ c.ok_or.ensures.value (rw c.as_bytes.ensures.value at c.moment_in.ensures.none)
