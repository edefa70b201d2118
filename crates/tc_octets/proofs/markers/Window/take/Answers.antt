-- What waits after an octet is fewer than a marker and a frame, and begins as a marker does.
use Rattle.std.proofs.Common.{arith}
use Rattle.tc_octets.proofs.MarkerLemmas.{fault_waits, few_wait, more_wait, none_wait}
use Rattle.tc_octets.proofs.markers.Window.take.Goals as goal

pub returns-then-len-le-MARK-clause-wait : goal.returns-then-len-le-MARK-clause-wait
returns-then-len-le-MARK-clause-wait c =
    few_wait c.args.profile.now c.add.new.self c.align.new.self c.align.ensures (omega (arith, c.len.ensures, c.if-len-le-MARK.true))

pub returns-then-len-whole-clause-wait : goal.returns-then-len-whole-clause-wait
returns-then-len-whole-clause-wait c =
    more_wait c.args.profile.now c.args.self.now c.add.new.self c.args.octet c.requires c.add.ensures
    (omega (arith, c.len.ensures, c.if-len-le-MARK.false))
    (omega (arith, c.len-2.ensures, c.from-whole.ensures, c.if-len-whole.true))

pub returns-then-is_frame-clause-wait : goal.returns-then-is_frame-clause-wait
returns-then-is_frame-clause-wait c = none_wait c.args.profile.now

pub returns-clause-wait : goal.returns-clause-wait
returns-clause-wait c =
    fault_waits c.args.profile.now c.args.self.now c.add.new.self c.align-2.new.self c.args.octet c.requires c.add.ensures c.align-2.ensures
