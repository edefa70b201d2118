-- One person more, whom no test refuses.
use Rattle.std.proofs.Common.{sym, subst, ◌∙◌}
use Rattle.tc_stack.specs.Approvals.{ApprovalState, IsApproval}
use Rattle.tc_stack.specs.Given.{persons_of}
use Rattle.tc_stack.proofs.ApprovalLemmas.{unrefused_sound}
use Rattle.tc_stack.proofs.approvals.Approvals.add.Goals as goal

pub invariant_of-self : goal.invariant_of-self
invariant_of-self c =
    let before : ApprovalState = record { author = c.self.inside.author; critical = c.self.inside.critical; persons = persons_of c.self.inside.given } in
    subst (λ l. IsApproval (let s : ApprovalState = record { author = c.self.inside.author; critical = c.self.inside.critical; persons = l } in s)) (sym c.with-self-inside.ensures)
    (unrefused_sound before c.args.person c.self.invariant (rw (← c.self.view_is) at (sym c.refusal.ensures ∙ c.in_default.is)))

pub returns-clause-sound : goal.returns-clause-sound
returns-clause-sound c = invariant_of-self c.before
