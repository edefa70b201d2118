use Rattle.std.proofs.Common.{◌≡◌, [], map, take, drop}
use Rattle.tc_fop.specs.declared.queues.Outstanding.{Outstanding}
use Rattle.tc_fop.specs.declared.signals.Indication.TheVariants.{Confirmed}
use Rattle.tc_fop.specs.Machine.{joined}
use Rattle.tc_fop.proofs.queues.confirm_front.Given as goal

abbrev pub invariant-loop : goal.invariant-loop
invariant-loop g l =
    (l.sent ≡ drop l.counter l.fn.sent)
    × (l.out ≡ joined l.fn.out (record { frames = []; indications = map (λ (held : Outstanding). Confirmed held.request) (take l.counter l.fn.sent) }))
