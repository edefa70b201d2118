-- The lines of a layer tell of faults as its table does.
use Rattle.std.proofs.Common.{arith}
use Rattle.tc_decoded.specs.declared.decoding.Layer.TheVariants as layers
use Rattle.tc_decoded.proofs.LayerFaultLemmas.{if_faults}
use Rattle.tc_decoded.proofs.decoding.decoded.Goals as goal

pub returns-in-Frame-clause-faults : goal.returns-in-Frame-clause-faults
returns-in-Frame-clause-faults g c =
    if_faults c.args.profile.now c.args.layer layers.Frame c.args.octets.now c.frame_lines.result c.in-Frame.is (λ i. omega (arith, c.type_inv.octets i))
    c.frame_lines.ensures

pub returns-in-Packet-clause-faults : goal.returns-in-Packet-clause-faults
returns-in-Packet-clause-faults g c =
    if_faults c.args.profile.now c.args.layer layers.Packet c.args.octets.now c.packet_lines.result c.in-Packet.is (λ i. omega (arith, c.type_inv.octets i))
    c.packet_lines.ensures

pub returns-in-Tm-clause-faults : goal.returns-in-Tm-clause-faults
returns-in-Tm-clause-faults g c =
    if_faults c.args.profile.now c.args.layer layers.Tm c.args.octets.now c.tm_lines.result c.in-Tm.is (λ i. omega (arith, c.type_inv.octets i))
    c.tm_lines.ensures
