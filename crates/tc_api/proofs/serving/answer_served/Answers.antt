use Rattle.std.proofs.Common.{Result, refl, subst}
use Rattle.tc_room.specs.declared.answers.Answer.{Answer}
use Rattle.tc_types.specs.declared.refusals.Untold.{Untold}
use Rattle.tc_room.specs.Answers.{Says}
use Rattle.tc_api.proofs.ServingLemmas.{outcome_made}
use Rattle.tc_api.proofs.serving.answer_served.Goals as goal

pub returns-in-Ok : goal.returns-in-Ok
returns-in-Ok c = λ reply says.
    let said = subst (λ (r : Result Answer Untold). Says reply r) c.in-Ok.is says in
    outcome_made _ reply _ _ _ c.make_served.ensures (c.ending_of.ensures reply said.2) refl (said.0, said.1)

pub returns-in-Err : goal.returns-in-Err
returns-in-Err c = λ reply says.
    let said = subst (λ (r : Result Answer Untold). Says reply r) c.in-Err.is says in
    outcome_made _ reply _ _ _ c.make_served-in-Err.ensures (c.ending_of-in-Err.ensures reply said) refl tt
