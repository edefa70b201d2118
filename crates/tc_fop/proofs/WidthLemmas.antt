-- K stays where no action sets it.
use Rattle.std.proofs.Common.{◌≡◌, true, Option, Some, None, Ok, Err, List, [], ◌∷◌, refl, ◌∙◌, ap}
use Rattle.std.proofs.lemmas.Bool.{false≢true}
use Rattle.std.specs.List.{list_all}
use Rattle.tc_fop.specs.Machine.{Machine, Waiting, Out, Action, SetKTo, Transmit, change, transmitted, due, after}
use Rattle.tc_fop.specs.Calls.{Given, Answers}
use Rattle.tc_fop.specs.Width.{leaves_k, AllLeaveK}
use Rattle.tc_fop.proofs.RequestLemmas.{both}

transmitted_k : (w : Option Waiting) (m : Machine) → (transmitted w m).k ≡ m.k
transmitted_k None m = refl
transmitted_k (Some w) m = refl

step_k : (a : Action) (m : Machine) → leaves_k a ≡ true → (change a m).k ≡ m.k
step_k (SetKTo k) m h = absurd (false≢true h)
step_k Transmit m h = transmitted_k (due m) m
step_k a m h = refl

run_k : (todo : List Action) (m : Machine) → list_all leaves_k todo ≡ true → (after todo m).k ≡ m.k
run_k [] m h = refl
run_k (a ∷ todo) m h =
    let x = both (leaves_k a) (list_all leaves_k todo) h in
    run_k todo (change a m) x.1 ∙ step_k a m x.0

pub kept_k : (given : Given) (m new : Machine) (out : Out) → AllLeaveK given → Answers given m new (Ok out) → new.k ≡ m.k
kept_k (Ok actions) m new out h e = ap (λ (x : Machine). x.k) e.0 ∙ run_k actions m h
kept_k (Err refusal) m new out h e = absurd e
