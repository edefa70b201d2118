use Rattle.std.proofs.Common.{◌≡◌, [], map, take}
use Rattle.tc_types.specs.declared.link.frames.Frame.TheVariants.{Ad}
use Rattle.tc_fop.specs.declared.queues.Outstanding.{Outstanding}
use Rattle.tc_fop.specs.Machine.{joined}
use Rattle.tc_fop.proofs.queues.send_again.Given as goal

abbrev pub invariant-loop-place : goal.invariant-loop-place
invariant-loop-place g l = l.out ≡ joined l.fn.out (record { frames = map (λ (held : Outstanding). Ad held.ns held.request held.body) (take l.place l.sent); indications = [] })
