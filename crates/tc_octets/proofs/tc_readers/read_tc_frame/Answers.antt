use Rattle.tc_octets.proofs.TcFrameLemmas.{header_err}
use Rattle.tc_octets.proofs.tc_readers.read_tc_frame.Goals as goal

pub returns-in-Some-clause-value : goal.returns-in-Some-clause-value
returns-in-Some-clause-value c = header_err c.args.profile.now c.args.octets.now c.in-Some.fault c.in-Some.ensures
