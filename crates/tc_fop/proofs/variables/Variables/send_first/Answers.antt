-- The next number is V(S).
use Rattle.std.proofs.Common.{◌≡◌, ◌+◌, ◌%◌, true, List, length, slice_get, Some, sym, ◌∙◌, ap, subst}
use Rattle.tc_fop.specs.declared.queues.Outstanding.{Outstanding}
use Rattle.tc_fop.specs.Machine.{Machine}
use Rattle.tc_fop.specs.Calls.{is_taking}
use Rattle.tc_fop.proofs.SlotLemmas.{vs_follows}
use Rattle.tc_fop.proofs.variables.Variables.send_first.Goals as goal
use Rattle.tc_fop.proofs.variables.Variables.send_first.Goals.{then-is_empty, else-is_empty}

pub push-requires-clause-next : goal.push-requires-clause-next
push-requires-clause-next g c =
    let taking : is_taking c.self.inside.state ≡ true = subst (λ (m : Machine). is_taking m.state ≡ true) (sym c.self.view_is) c.requires.taking in
    let follows = λ (q : List Outstanding) (e : q ≡ c.self.inside.sent) (front : Outstanding) (f : slice_get q 0 ≡ Some front).
    subst (λ (l : List Outstanding). c.self.inside.vs ≡ (front.ns + length l) % 256) (sym e)
    (vs_follows c.self.inside.nn c.self.inside.vs c.self.inside.sent front c.self.invariant.numbered (c.self.invariant.next taking) c.self.invariant.nn
    (ap (λ (l : List Outstanding). slice_get l 0) (sym e) ∙ f)) in
    elim c.if-is_empty.branch [
      | then-is_empty w ↦ follows c.if-is_empty.self-inside.sent (ap (λ i. i.sent) w.self-inside-is)
      | else-is_empty w ↦ follows c.if-is_empty.self-inside.sent (ap (λ i. i.sent) w.self-inside-is)
    ]
