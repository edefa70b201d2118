use Rattle.tc_decoded.proofs.inserts.+tell_activities.Given as goal

abbrev pub decreases-tell_activities : goal.decreases-tell_activities
decreases-tell_activities g l = l.number
