-- The activities so far were added.
use Rattle.std.proofs.Common.{◌≡◌, ◌++◌, take}
use Rattle.std.specs.List.{flat_map}
use Rattle.tc_packets.specs.Reports.{activity_octets}
use Rattle.tc_packets.proofs.reports.put_activities.Given as goal

abbrev pub invariant-loop-activity : goal.invariant-loop-activity
invariant-loop-activity g l = l.out.items ≡ l.fn.out.items ++ flat_map (activity_octets l.profile) (take l.activity-index l.activities)
