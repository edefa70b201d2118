-- A pointer is within the data field, or says that there is no start.
use Rattle.std.proofs.Common.{length, sym, ◌∙◌, arith}
use Rattle.tc_packets.proofs.ReceiverLemmas.{not_skipped}
use Rattle.tc_packets.proofs.packet_readers.look_at.Goals as goal

pub carry-requires-clause-inside : goal.carry-requires-clause-inside
carry-requires-clause-inside g c = λ h.
    let inside = not_skipped c.args.status (length c.args.content.now) (sym c.is_skipped.ensures ∙ c.if-is_skipped.false)
    (omega (arith, c.from.ensures)) in
    omega (arith, c.from.ensures)
