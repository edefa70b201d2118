use Rattle.tc_urgent.proofs.locks.+never_opens.Given as goal

abbrev pub decreases-never_opens : goal.decreases-never_opens
decreases-never_opens g l = l.most
