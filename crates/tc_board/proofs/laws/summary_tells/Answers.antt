-- The places of a summary tell all activities.
use Rattle.tc_board.proofs.SummaryLemmas.{summary-told}
use Rattle.tc_board.proofs.FollowLemmas.{same_mirror}
use Rattle.tc_board.proofs.laws.summary_tells.Goals as goal

pub returns : goal.returns
returns c before command s is = same_mirror s.enabled _ _ (summary-told s.activities is)
