-- Nobody approved.
use Rattle.tc_stack.proofs.ApprovalLemmas.{unapproved_sound}
use Rattle.tc_stack.proofs.approvals.Approvals.new.Goals as goal

pub invariant_of-result : goal.invariant_of-result
invariant_of-result c = unapproved_sound c.args.author c.args.critical
