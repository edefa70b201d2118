-- The rest of the Sent_Queue stands as the whole did.
use Rattle.std.proofs.Common.{rules, ◌≡◌, ◌≤◌, true, map, length, refl, sym, subst, arith}
use Rattle.std.proofs.lemmas.List.{length-map}
use Rattle.tc_fop.specs.Machine.{Machine}
use Rattle.tc_fop.specs.Calls.{is_taking}
use Rattle.tc_fop.specs.Queued.{held_of}
use Rattle.tc_fop.proofs.QueueLemmas.{queues}
use Rattle.tc_fop.proofs.Standing.{removed_stands}
use Rattle.tc_fop.proofs.variables.Variables.remove.Goals as goal

pub invariant_of-self : goal.invariant_of-self
invariant_of-self g c =
    let taking : is_taking c.self.inside.state ≡ true = subst (λ (m : Machine). is_taking m.state ≡ true) (sym c.self.view_is) c.requires.there.taking in
    let held : c.args.acknowledged ≤ length (map held_of c.self.inside.sent) = subst (λ (m : Machine). c.args.acknowledged ≤ length m.sent) (sym c.self.view_is) c.requires.there.there in
    let there : c.args.acknowledged ≤ length c.self.inside.sent = omega (arith, held, length-map c.self.inside.sent held_of) in
    removed_stands _ c.self.inside.sent c.confirm_front.new.sent c.args.acknowledged _ refl c.confirm_front.ensures.sent there taking (omega (arith, c.self.invariant.count_least)) (omega (arith, c.self.invariant.count_most)) c.self.invariant

pub returns : goal.returns
returns g c = record { machine = search (rules, queues); fop = invariant_of-self g c; out = search (rules, queues) }
