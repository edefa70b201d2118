-- The octets are a frame of the link, so it stands at the front of what its CLTU brings.
use Rattle.tc_octets.specs.TcFrames.{carried_of}
use Rattle.tc_octets.proofs.BringLemmas.{front_there}
use Rattle.tc_octets.proofs.tc_frames.tc_frame.Goals as goal

pub returns-clause-front : goal.returns-clause-front
returns-clause-front g c =
    front_there c.args.profile.now (carried_of c.args.frame.now) c.in_ok-octets.octets.items c.requires c.in_ok-octets.ensures
