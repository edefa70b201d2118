-- Octets that nothing is said against are the frame of their parts.
use Rattle.std.proofs.Common.{Ok, arith}
use Rattle.tc_octets.specs.TmFrames.{tm_parts}
use Rattle.tc_octets.proofs.TmFrameLaws.{damaged_refused, reads_back}
use Rattle.tc_octets.proofs.TmFrameLemmas.{tm_again}
use Rattle.tc_octets.proofs.tm_frames.read_tm_frame.Goals as goal

pub returns-in-None-clause-value : goal.returns-in-None-clause-value
returns-in-None-clause-value c =
    tm_again c.args.profile.now (tm_parts c.parts_in.result) c.args.octets.now (λ i. omega (arith, c.type_inv.octets i))
    c.in-None.ensures.0 c.in-None.ensures.1 c.in-None.ensures.2 c.in-None.ensures.3 c.parts_in.ensures

pub returns-in-None-clause-back : goal.returns-in-None-clause-back
returns-in-None-clause-back c =
    reads_back c.args.profile.now c.args.octets.now (Ok c.parts_in.result)
    (tm_again c.args.profile.now (tm_parts c.parts_in.result) c.args.octets.now (λ i. omega (arith, c.type_inv.octets i))
    c.in-None.ensures.0 c.in-None.ensures.1 c.in-None.ensures.2 c.in-None.ensures.3 c.parts_in.ensures)

pub returns-in-None-clause-damaged : goal.returns-in-None-clause-damaged
returns-in-None-clause-damaged c =
    damaged_refused c.args.profile.now c.args.octets.now (Ok c.parts_in.result)
    (tm_again c.args.profile.now (tm_parts c.parts_in.result) c.args.octets.now (λ i. omega (arith, c.type_inv.octets i))
    c.in-None.ensures.0 c.in-None.ensures.1 c.in-None.ensures.2 c.in-None.ensures.3 c.parts_in.ensures)
