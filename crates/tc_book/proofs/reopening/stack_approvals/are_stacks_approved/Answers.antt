use Rattle.std.proofs.Common.{◌≡◌, true}
use Rattle.tc_book.proofs.StackGivenLemmas.{stack_more, stack_given_at}
use Rattle.tc_book.proofs.reopening.stack_approvals.are_stacks_approved.Goals as goal

pub returns-then-not-may_approve_stack : goal.returns-then-not-may_approve_stack
returns-then-not-may_approve_stack c = (
  λ never. cc,
  λ are. let yes : c.may_approve_stack.result ≡ true = c.may_approve_stack.ensures.1 (stack_given_at c.args.requests.now c.args.approvals.now c.loop-at.at c.index-approvals-at.result are c.loop-at-test.true c.index-approvals-at.is) in cc,
)

pub loop-at-preserved : goal.loop-at-preserved
loop-at-preserved c = stack_more c.args.requests.now c.args.approvals.now c.loop-at.at c.index-approvals-at.result c.loop-at-test.true c.index-approvals-at.is (c.may_approve_stack.ensures.0 c.if-not-may_approve_stack.false) c.loop-at.invariant
