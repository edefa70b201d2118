-- A telecommand, or telemetry.
use Rattle.std.proofs.Common.{true, false, ◌∙◌, sym}
use Rattle.std.proofs.lemmas.Result.{on_ok_weaker}
use Rattle.tc_decoded.proofs.AddedLemmas.{packet_told}
use Rattle.tc_decoded.proofs.telemetry.tell_packet.Goals as goal

pub returns-then-is_request : goal.returns-then-is_request
returns-then-is_request g c =
    on_ok_weaker c.tell_telecommand.result
    (λ added. packet_told true c.args.place.now c.args.profile.now c.args.octets.now c.args.out.now.items c.tell_telecommand.new.out.items
    (sym c.is_request.ensures ∙ c.if-is_request.true) added)
    c.tell_telecommand.ensures

pub returns : goal.returns
returns g c =
    on_ok_weaker c.tell_telemetry.result
    (λ added. packet_told false c.args.place.now c.args.profile.now c.args.octets.now c.args.out.now.items c.tell_telemetry.new.out.items
    (sym c.is_request.ensures ∙ c.if-is_request.false) added)
    c.tell_telemetry.ensures
