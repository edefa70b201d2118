-- What the application data were read as is what the octets are.
use Rattle.std.proofs.Common.{◌≡◌, ℕ, List, Some, None, subst, arith}
use Rattle.tc_packets.specs.TelecommandReaders.{ReadsPlain, service_in, subtype_in}
use Rattle.tc_packets.proofs.ActivityLemmas.{request_none, request_some}
use Rattle.tc_packets.proofs.task_readers.plain_request_in.Goals as goal

pub returns : goal.returns
returns c =
    request_some c.args.profile.now c.args.octets.now c.identity_in.result c.ack_in.result c.in_ok-plain.plain
    (λ i. omega (arith, c.type_inv.octets i))
    c.requires (record { apid = c.identity_in.ensures.apid; count = c.identity_in.ensures.count; acks = c.ack_in.ensures })
    (subst
    (λ (d : List ℕ). ReadsPlain c.args.profile.now (service_in c.args.octets.now) (subtype_in c.args.octets.now) d (Some c.in_ok-plain.plain))
    c.data_in.ensures c.in_ok-plain.ensures)

pub returns-in_err-plain : goal.returns-in_err-plain
returns-in_err-plain c =
    let gone : c.from_residual.result ≡ None = grind arith in
    rw gone
    (request_none c.args.profile.now c.args.octets.now
    (subst (λ (d : List ℕ). ReadsPlain c.args.profile.now (service_in c.args.octets.now) (subtype_in c.args.octets.now) d None) c.data_in.ensures
    c.in_err-plain.ensures))
