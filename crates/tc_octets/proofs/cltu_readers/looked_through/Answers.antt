-- Fewer than eight octets wait.
use Rattle.std.proofs.Common.{◌<◌, arith, sym, subst}
use Rattle.tc_octets.specs.Cltus.{Place, waits}
use Rattle.tc_octets.proofs.CltuLemmas.{looked_before}
use Rattle.tc_octets.proofs.cltu_readers.looked_through.Goals as goal

pub take-requires : goal.take-requires
take-requires c =
    subst (λ (p : Place). waits p < 8) (sym c.loop-octet.invariant) (looked_before c.args.block.now c.loop-octet.octet-index (omega arith))
