use Rattle.std.proofs.Common.{◌∙◌, sym}
use Rattle.tc_book.proofs.StackGivenLemmas.{may_found, may_none}
use Rattle.tc_book.proofs.reopening.stack_approvals.may_approve_stack.Goals as goal

pub returns-in-Some : goal.returns-in-Some
returns-in-Some c = may_found c.args.requests.now c.args.before.now c.args.given.now c.in-Some.kept c.refusal.result c.is_none.result (sym c.stack_approval.ensures ∙ c.in-Some.is) c.refusal.ensures c.is_none.ensures

pub returns-in-None : goal.returns-in-None
returns-in-None c = (λ never. cc, λ may. absurd (may_none c.args.requests.now c.args.before.now c.args.given.now (sym c.stack_approval.ensures ∙ c.in-None.is) may))
