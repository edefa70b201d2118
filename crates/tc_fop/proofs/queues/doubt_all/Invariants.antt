use Rattle.std.proofs.Common.{◌≡◌, [], map, take}
use Rattle.tc_fop.specs.declared.signals.Indication.TheVariants.{InDoubt}
use Rattle.tc_fop.specs.declared.queues.Outstanding.{Outstanding}
use Rattle.tc_fop.specs.Machine.{joined}
use Rattle.tc_fop.proofs.queues.doubt_all.Given as goal

abbrev pub invariant-loop-position : goal.invariant-loop-position
invariant-loop-position g l = l.out ≡ joined l.fn.out (record { frames = []; indications = map (λ (held : Outstanding). InDoubt held.request) (take l.position l.sent) })
