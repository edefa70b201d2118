-- What was given and carried out is the answer of a call.
use Rattle.std.proofs.Common.{◌≡◌, true, false, IsOk, IfOk, Ok, Err, List, sym}
use Rattle.std.proofs.lemmas.Bool.{true≢false}
use Rattle.tc_fop.specs.Machine.{Machine, Out, Action, after, output}
use Rattle.tc_fop.specs.Calls.{Given, Answers}

pub carried_answers : (given : Given) (old new : Machine) (out : Out) → IsOk given
    → IfOk given (λ (actions : List Action). (new ≡ after actions old) × (out ≡ output actions old)) → Answers given old new (Ok out)
carried_answers (Ok actions) old new out ok h = h
carried_answers (Err refusal) old new out ok h = absurd (true≢false (sym ok))
