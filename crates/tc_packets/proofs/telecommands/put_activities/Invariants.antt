-- The octets of those before this one were added.
use Rattle.std.proofs.Common.{◌≡◌, ◌++◌, take}
use Rattle.std.specs.Prelude.{flat_map}
use Rattle.tc_packets.specs.Telecommands.{activity_of}
use Rattle.tc_packets.proofs.telecommands.put_activities.Given as goal

abbrev pub invariant-loop-activity : goal.invariant-loop-activity
invariant-loop-activity g l = l.out.items ≡ l.fn.out.items ++ flat_map (activity_of l.profile) (take l.activity-index l.activities)
