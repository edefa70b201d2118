use Rattle.std.proofs.Common.{◌≡◌}
use Rattle.tc_octets.specs.Randomizer.{windows}
use Rattle.tc_octets.proofs.randomizers.next.Given as goal

abbrev pub invariant-loop-left : goal.invariant-loop-left
invariant-loop-left l = windows 8 l.window ≡ windows l._left l.after
