-- The octets are a frame of the link, so it is heard after a marker.
use Rattle.tc_octets.specs.TmFrames.{tm_parts}
use Rattle.tc_octets.proofs.MarkerLawLemmas.{first_there}
use Rattle.tc_octets.proofs.tm_frames.tm_frame.Goals as goal

pub returns-clause-heard : goal.returns-clause-heard
returns-clause-heard g c = first_there c.args.profile.now (tm_parts c.args.frame.now) c.in_ok-octets.octets.items c.requires c.in_ok-octets.ensures
