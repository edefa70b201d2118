-- The octets of one more were added.
use Rattle.tc_packets.specs.Telecommands.{activity_of}
use Rattle.tc_packets.proofs.ListLemmas.{added}
use Rattle.tc_packets.proofs.telecommands.put_activities.Goals as goal

pub loop-activity-preserved : goal.loop-activity-preserved
loop-activity-preserved g c =
    added (activity_of c.args.profile.now) c.args.activities.now c.loop-activity.activity-index c.activity-item.result c.args.out.now.items
    c.loop-activity.out.items c.put_activity.new.out.items c.loop-activity-test.true c.activity-item.is c.loop-activity.invariant
    c.in_ok-put_activity.ensures
