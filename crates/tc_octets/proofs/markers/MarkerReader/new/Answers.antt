-- Nothing waits at first.
use Rattle.std.proofs.Common.{List, ℕ, subst, sym, arith}
use Rattle.tc_octets.specs.Markers.{IsWaiting}
use Rattle.tc_octets.proofs.MarkerLemmas.{none_wait}
use Rattle.tc_octets.proofs.markers.MarkerReader.new.Goals as goal

pub invariant_of-result : goal.invariant_of-result
invariant_of-result c =
    (subst (λ (l : List ℕ). IsWaiting c.args.profile l) (sym c.new.ensures) (none_wait c.args.profile), omega arith)
