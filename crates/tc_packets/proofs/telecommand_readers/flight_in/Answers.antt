-- What the application data were read as is what the octets are.
use Rattle.std.proofs.Common.{ℕ, List, Some, subst, arith}
use Rattle.tc_packets.specs.TelecommandReaders.{ReadsTask, service_in, subtype_in}
use Rattle.tc_packets.proofs.TaskLemmas.{read_ok}
use Rattle.tc_packets.proofs.telecommand_readers.flight_in.Goals as goal

pub returns-in-Some : goal.returns-in-Some
returns-in-Some c =
    read_ok c.args.profile.now c.args.octets.now c.identity_in.result c.ack_in.result c.in-Some.task (λ i. omega (arith, c.type_inv.octets i))
    c.requires
    (record { apid = c.identity_in.ensures.apid; count = c.identity_in.ensures.count; acks = c.ack_in.ensures })
    (subst
    (λ (d : List ℕ). ReadsTask c.args.profile.now (service_in c.args.octets.now) (subtype_in c.args.octets.now) d (Some c.in-Some.task))
    c.data_in.ensures c.in-Some.ensures)
