-- The packet in progress stays less than a whole one.
use Rattle.std.proofs.Common.{List, ℕ, subst, sym}
use Rattle.tc_octets.specs.TmFrames.{tm_parts}
use Rattle.tc_packets.specs.Receivers.{IsPart}
use Rattle.tc_packets.proofs.ReceiverLemmas.{received_small, short_part}
use Rattle.tc_packets.proofs.packet_readers.PacketReader.frame.Goals as goal

pub invariant_of-self : goal.invariant_of-self
invariant_of-self g c =
    subst (λ (l : List ℕ). IsPart l) (sym c.in_ok-part.ensures.part)
    (received_small (record { part = c.deref.result.now; expected = c.self.inside.expected }) (tm_parts c.args.frame.now)
    (subst (λ (l : List ℕ). IsPart l) (sym c.deref.ensures.value) c.self.invariant))

pub returns-clause-short : goal.returns-clause-short
returns-clause-short g c =
    short_part _ (subst (λ (l : List ℕ). IsPart l) (sym c.in_ok-part.ensures.part)
    (received_small (record { part = c.deref.result.now; expected = c.self.inside.expected }) (tm_parts c.args.frame.now)
    (subst (λ (l : List ℕ). IsPart l) (sym c.deref.ensures.value) c.self.invariant)))
