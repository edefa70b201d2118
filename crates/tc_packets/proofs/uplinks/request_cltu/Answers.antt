-- The octets are the request's CLTU, so they are the request on its way up.
use Rattle.std.proofs.Common.{ap, ◌∙◌}
use Rattle.tc_octets.specs.Cltus.{cltu_of}
use Rattle.tc_packets.proofs.UplinkLemmas.{comes_up}
use Rattle.tc_packets.proofs.uplinks.request_cltu.Goals as goal

pub returns-clause-law : goal.returns-clause-law
returns-clause-law g c =
    comes_up c.args.profile.now c.args.ns c.args.flight.now c.in_ok-octets.octets.items c.ranges.ns.fits c.requires
    (c.in_ok-octets.ensures.value ∙ ap (cltu_of c.args.profile.now.tc.randomizer) (c.deref.ensures.value ∙ c.in_ok-frame.ensures))
